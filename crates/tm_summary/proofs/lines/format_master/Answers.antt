use Rattle.tm_summary.specs.Lines.{master_line}
use Rattle.tm_summary.proofs.lines.format_master.Goals as goal

pub returns : goal.returns
unfolding master_line
returns c = cc
