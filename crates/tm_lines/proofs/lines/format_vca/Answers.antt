use Rattle.tm_lines.specs.Lines.{vca_line}
use Rattle.tm_lines.proofs.lines.format_vca.Goals as goal

pub returns : goal.returns
unfolding vca_line
returns c = cc
