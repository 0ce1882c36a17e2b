use Rattle.tm_lines.specs.Lines.{drop_line}
use Rattle.tm_lines.proofs.lines.format_drop.Goals as goal

pub returns : goal.returns
unfolding drop_line
returns c = cc
