use Rattle.std.proofs.Common.{ℕ, ap, refl, ◌∙◌, Ok, Err}
use Rattle.tm_packet.specs.Merge.{Entries}
use Rattle.tm_checkpoint.specs.Works.{work_of}
use Rattle.tm_tool.proofs.Courses.{then_flushed}
use Rattle.tm_tool.specs.Runs.{kept_of}
use Rattle.tm_tool.specs.code.Stepping.{RunFixture}
use Rattle.tm_tool.proofs.Counted.{run_counted}
use Rattle.tm_tool.proofs.RunEnds.{run_ended, run_stopped}
use Rattle.tm_tool.proofs.Sinks.{same_texts}
use Rattle.tm_tool.proofs.recording.handle_recording.Goals as goal

pub returns-in-Err-clause-runs : goal.returns-in-Err-clause-runs
returns-in-Err-clause-runs g c =
    run_stopped g.O.Outlet.grows g.met.O.Outlet.grows_nil g.met.O.Outlet.grows_trans g.O.Outlet.buffering (g.O.Outlet.text (g.O.Outlet.fixed c.args.output.now.outlet.now))
    c.args.ending _ c.requires.going.1 _ _ _ _ _ c.in-Err.fault (rw c.requires.exact at c.in-Err.ensures.stopped)

pub returns-in-Err-end-clause-runs : goal.returns-in-Err-end-clause-runs
returns-in-Err-end-clause-runs g c =
    let same = same_texts (ap (λ (f : RunFixture g.O.Outlet.Fixed). f.output) c.in-Ok.ensures.same) in
    run_ended g.O.Outlet.grows g.met.O.Outlet.grows_nil g.met.O.Outlet.grows_trans g.O.Outlet.buffering (g.O.Outlet.text (g.O.Outlet.fixed c.args.output.now.outlet.now))
    c.args.ending _ c.requires.going.1 _ _ _ _ _ _ _ (work_of c.handle_records.new.progress c.args.output.now.tracker.now) (Err c.in-Err-end.fault) (rw c.requires.exact at c.in-Ok.ensures.stepped) c.in-Ok.ensures.counts
    (rw same at c.in-Err-end.ensures.written) tt

pub returns-in-Err-flush-clause-runs : goal.returns-in-Err-flush-clause-runs
returns-in-Err-flush-clause-runs g c =
    let same = same_texts (ap (λ (f : RunFixture g.O.Outlet.Fixed). f.output) c.in-Ok.ensures.same) in
    run_ended g.O.Outlet.grows g.met.O.Outlet.grows_nil g.met.O.Outlet.grows_trans g.O.Outlet.buffering (g.O.Outlet.text (g.O.Outlet.fixed c.args.output.now.outlet.now))
    c.args.ending _ c.requires.going.1 _ _ _ _ _ _ _ (work_of c.handle_records.new.progress c.args.output.now.tracker.now) (Err c.in-Err-flush.fault) (rw c.requires.exact at c.in-Ok.ensures.stepped) c.in-Ok.ensures.counts
    (then_flushed g.O.Outlet.grows g.met.O.Outlet.grows_nil g.met.O.Outlet.grows_trans g.O.Outlet.buffering {T = ℕ} _ _ _ _ (rw same at c.in_default.ensures.written)
    (Err c.in-Err-flush.fault) c.in-Err-flush.ensures.written) tt

pub returns-clause-runs : goal.returns-clause-runs
returns-clause-runs g c =
    let text = g.O.Outlet.text (g.O.Outlet.fixed c.args.output.now.outlet.now) in
    let same = same_texts (ap (λ (f : RunFixture g.O.Outlet.Fixed). f.output) c.in-Ok.ensures.same) in
    run_ended g.O.Outlet.grows g.met.O.Outlet.grows_nil g.met.O.Outlet.grows_trans g.O.Outlet.buffering text
    c.args.ending _ c.requires.going.1 _ _ _ _ _ _ _ _ (Ok _) (rw c.requires.exact at c.in-Ok.ensures.stepped) c.in-Ok.ensures.counts
    (then_flushed g.O.Outlet.grows g.met.O.Outlet.grows_nil g.met.O.Outlet.grows_trans g.O.Outlet.buffering {T = ℕ} _ _ _ _ (rw same at c.in_default.ensures.written)
    (Ok 0) c.in_default-flush.ensures.written)
    (λ rs took. (
      refl,
      ap (λ (e : Entries). kept_of c.args.ending (work_of c.handle_records.new.progress e)) c.in_default-flush.ensures.tracker
          ∙ c.in_default.ensures.kept ∙ ap (kept_of c.args.ending) took.0,
      run_counted text (g.met.O.Outlet.text_none (g.O.Outlet.fixed c.args.output.now.outlet.now)) _ c.args.ending rs _ _ _ _ _ c.requires.begun took.2 took.0
          (c.in_default-flush.ensures.totals ∙ rw same at c.in_default.ensures.counted) _ c.absent_channels-output.ensures,
    ))
