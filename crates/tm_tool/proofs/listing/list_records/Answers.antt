use Rattle.std.proofs.Common.{refl, ap, arith}
use Rattle.std.specs.Io.KnownBytes.{Appends}
use Rattle.std.proofs.KnownBytes.{Appends-nil, Appends-trans}
use Rattle.tm_faults.specs.declared.run.RunFault.TheVariants.{Write}
use Rattle.tm_output.specs.declared.command.Ending.TheVariants.{Close}
use Rattle.tm_tool.specs.Listing.{end_lines}
use Rattle.tm_output.specs.Outputs.{line_pieces, octets_buffering}
use Rattle.tm_tool.specs.code.Listed.{counts_good}
use Rattle.tm_tool.proofs.Courses.{end_stopped, has_run, records_stopped}
use Rattle.tm_tool.proofs.ListingLemmas.{along}
use Rattle.tm_tool.proofs.listing.list_records.Goals as goal

pub returns-in-Err-clause-runs : goal.returns-in-Err-clause-runs
returns-in-Err-clause-runs g c =
    let stops = rw c.requires.exact at c.in-Err.ensures.stopped in
    records_stopped Appends Appends-nil Appends-trans octets_buffering _ _ _ _ _ _ (along c.args.listing.now.layout 0 Close _ refl) _ _ _ _ _ c.in-Err.fault stops

pub returns-in-Ok-write_end_line-clause-runs : goal.returns-in-Ok-write_end_line-clause-runs
returns-in-Ok-write_end_line-clause-runs g c =
    let stepped = rw c.requires.exact at c.in-Ok.ensures.stepped in
    let layout = c.args.listing.now.layout in
    has_run Appends Appends-nil Appends-trans octets_buffering _ _ _ _ _ _ (along layout 0 Close _ refl) _ _ _ _ _ _ _ stepped c.in-Ok.ensures.counts
    (line_pieces (end_lines Close c.handle_records.new.progress.records c.in-Ok.rest)) (λ rs at. ap (λ l. line_pieces (end_lines Close l.records c.in-Ok.rest)) at.0)
    _ c.in-Ok-write_end_line.ensures.took (counts_good layout c.handle_records.new.progress) (λ rs at. (refl, omega (arith, ap (λ l. l.good) at.0)))

pub returns-in-Err-write_end_line-clause-runs : goal.returns-in-Err-write_end_line-clause-runs
returns-in-Err-write_end_line-clause-runs g c =
    let stepped = rw c.requires.exact at c.in-Ok.ensures.stepped in
    end_stopped Appends Appends-nil Appends-trans octets_buffering _ _ _ _ _ _ (along c.args.listing.now.layout 0 Close _ refl) _ _ _ _ _ _ _ stepped c.in-Ok.ensures.counts
    (line_pieces (end_lines Close c.handle_records.new.progress.records c.in-Ok.rest)) (λ rs at. ap (λ l. line_pieces (end_lines Close l.records c.in-Ok.rest)) at.0)
    _ Write c.in-Err-write_end_line.ensures.stopped
