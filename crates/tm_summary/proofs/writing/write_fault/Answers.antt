use Rattle.std.proofs.Common.{arith, lt-ltb, ◌∙◌}
use Rattle.tm_summary.proofs.writing.write_fault.Goals as goal

pub returns-clause-written : goal.returns-clause-written
returns-clause-written g c = rw (lt-ltb 0 c.args.records (omega arith)) (rw (c.as_slice.ensures ∙ c.format_fault.ensures) at c.write_line.ensures.written)
