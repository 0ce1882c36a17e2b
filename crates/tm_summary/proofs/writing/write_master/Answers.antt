use Rattle.std.proofs.Common.{◌∙◌}
use Rattle.tm_summary.proofs.writing.write_master.Goals as goal

pub returns-clause-written : goal.returns-clause-written
returns-clause-written g c = rw (c.as_slice.ensures ∙ c.format_master.ensures) at c.write_line.ensures.written
