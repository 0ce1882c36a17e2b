use Rattle.std.proofs.Common.{arith, lt-ltb, ◌∙◌}
use Rattle.tm_summary.proofs.writing.write_application.Goals as goal

pub returns-clause-written : goal.returns-clause-written
returns-clause-written g c =
    let line = rw c.of_key-pair.ensures at (c.as_slice.ensures ∙ c.format_application.ensures) in
    rw (lt-ltb 0 c.args.counts.now.packets (omega arith)) (rw line at c.write_line.ensures.written)
