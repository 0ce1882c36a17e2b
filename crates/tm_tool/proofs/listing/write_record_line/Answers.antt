use Rattle.std.proofs.Common.{rules, ◌∙◌}
use Rattle.tm_output.specs.Outputs.{octets_buffering}
use Rattle.tm_output.proofs.LinePieces.{line_stopped}
use Rattle.tm_tool.proofs.listing.write_record_line.Goals as goal

pub returns-in_err-write_all-clause-stopped : goal.returns-in_err-write_all-clause-stopped
returns-in_err-write_all-clause-stopped g c =
    let line = c.as_slice.ensures ∙ c.make_record_line-good.ensures.line in
    let stopped = line_stopped _ {buffering = octets_buffering} (rw line at c.in_err-write_all.ensures.prefix) c.in_err-write_all.ensures.counts in
    search (rules, stopped)
