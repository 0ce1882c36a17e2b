use Rattle.tm_lines.specs.Lines.{master_gap_line}
use Rattle.tm_lines.proofs.lines.format_master_gap.Goals as goal

pub returns : goal.returns
unfolding master_gap_line
returns c = cc
