use Rattle.std.proofs.Common.{◌∙◌}
use Rattle.tm_summary.proofs.writing.write_recording.Goals as goal

pub returns-clause-written : goal.returns-clause-written
returns-clause-written g c = rw (← c.counts.view_is) (rw (c.as_slice.ensures ∙ c.format_recording.ensures) at c.write_line.ensures.written)
