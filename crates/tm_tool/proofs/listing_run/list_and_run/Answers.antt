use Rattle.std.proofs.Common.{ap, refl, ◌∙◌, arith}
use Rattle.tm_output.specs.Seen.{output_both}
use Rattle.tm_tool.specs.Runs.{kept_of}
use Rattle.tm_tool.specs.code.ListingRuns.{ListingRunFixture}
use Rattle.tm_tool.proofs.Counted.{run_counted}
use Rattle.tm_tool.proofs.ListingRuns.{both_ended, line_end_stopped, loop_stopped, run_end_stopped}
use Rattle.tm_tool.proofs.Sinks.{same_texts}
use Rattle.tm_tool.proofs.listing_run.list_and_run.Goals as goal

pub returns-in-Err-clause-runs : goal.returns-in-Err-clause-runs
returns-in-Err-clause-runs g c =
    loop_stopped g.O.Outlet.grows g.met.O.Outlet.grows_nil g.met.O.Outlet.grows_trans g.O.Outlet.buffering (g.O.Outlet.text (g.O.Outlet.fixed c.args.both.now.outlet.now))
    c.args.ending _ c.requires.going.1 _ _ _ _ _ c.in-Err.fault (rw c.requires.exact at c.in-Err.ensures.stopped)

pub returns-in-Err-end-clause-runs : goal.returns-in-Err-end-clause-runs
returns-in-Err-end-clause-runs g c =
    let same = same_texts (ap (λ (f : ListingRunFixture g.O.Outlet.Fixed). f.run.output) c.in-Ok.ensures.same) in
    run_end_stopped g.O.Outlet.grows g.met.O.Outlet.grows_nil g.met.O.Outlet.grows_trans g.O.Outlet.buffering (g.O.Outlet.text (g.O.Outlet.fixed c.args.both.now.outlet.now))
    c.args.ending _ c.requires.going.1 _ _ _ _ _ _ _ (omega (arith, c.requires.some, c.requires.exact)) (rw c.requires.exact at c.in-Ok.ensures.stepped) c.in-Ok.ensures.counts
    _ c.in-Err-end.fault (rw same at c.in-Err-end.ensures.written)

pub returns-in-Err-write_end_line-clause-runs : goal.returns-in-Err-write_end_line-clause-runs
returns-in-Err-write_end_line-clause-runs g c =
    line_end_stopped g.O.Outlet.grows g.met.O.Outlet.grows_nil g.met.O.Outlet.grows_trans g.O.Outlet.buffering (g.O.Outlet.text (g.O.Outlet.fixed c.args.both.now.outlet.now))
    c.args.ending _ c.requires.going.1 _ _ _ _ _ _ _ (omega (arith, c.requires.some, c.requires.exact)) (rw c.requires.exact at c.in-Ok.ensures.stepped) c.in-Ok.ensures.counts
    _ (output_both g.O.Outlet g.V.Drain c.end.new.output) (rw c.records-records.ensures at c.in-Err-write_end_line.ensures.stopped)

pub returns-in-Ok-write_end_line-clause-runs : goal.returns-in-Ok-write_end_line-clause-runs
returns-in-Ok-write_end_line-clause-runs g c =
    let text = g.O.Outlet.text (g.O.Outlet.fixed c.args.both.now.outlet.now) in
    let same = same_texts (ap (λ (f : ListingRunFixture g.O.Outlet.Fixed). f.run.output) c.in-Ok.ensures.same) in
    both_ended g.O.Outlet.grows g.met.O.Outlet.grows_nil g.met.O.Outlet.grows_trans g.O.Outlet.buffering text
    c.args.ending _ c.requires.going.1 _ _ _ _ _ _ _ (omega (arith, c.requires.some, c.requires.exact)) (rw c.requires.exact at c.in-Ok.ensures.stepped) c.in-Ok.ensures.counts
    _ _ (rw c.records-records.ensures at c.in-Ok-write_end_line.ensures.took) (rw same at c.in_default.ensures.written) _ _ refl
    (λ rs took. (
      refl,
      c.in_default.ensures.kept ∙ ap (kept_of c.args.ending) took.0.0,
      run_counted text (g.met.O.Outlet.text_none (g.O.Outlet.fixed c.args.both.now.outlet.now)) _ c.args.ending rs _ _ _ _ _ c.requires.begun took.0.2 took.0.0
          (rw same at c.in_default.ensures.counted) _ c.absent_channels-totals.ensures,
    ))
