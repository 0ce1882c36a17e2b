use Rattle.tm_output.proofs.LinePieces.{line_stopped}
use Rattle.tm_summary.proofs.writing.write_line.Goals as goal

pub returns-in-Err-clause-written : goal.returns-in-Err-clause-written
returns-in-Err-clause-written g c = line_stopped c.args.line.now c.in-Err.ensures.prefix c.in-Err.ensures.counts
