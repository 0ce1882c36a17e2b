use Rattle.tm_lines.specs.Lines.{gap_line}
use Rattle.tm_lines.proofs.lines.format_gap.Goals as goal

pub returns : goal.returns
unfolding gap_line
returns c = cc
