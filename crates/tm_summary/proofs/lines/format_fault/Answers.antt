use Rattle.tm_summary.specs.Lines.{fault_line}
use Rattle.tm_summary.proofs.lines.format_fault.Goals as goal

pub returns : goal.returns
unfolding fault_line
returns c = cc
