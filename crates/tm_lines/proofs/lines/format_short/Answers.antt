use Rattle.tm_lines.specs.Lines.{short_line}
use Rattle.tm_lines.proofs.lines.format_short.Goals as goal

pub returns : goal.returns
unfolding short_line
returns c = cc
