use Rattle.tm_lines.specs.Lines.{bad_line}
use Rattle.tm_lines.proofs.lines.format_bad.Goals as goal

pub returns : goal.returns
unfolding bad_line
returns c = cc
