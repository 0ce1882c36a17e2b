use Rattle.tm_lines.specs.Lines.{frame_line}
use Rattle.tm_lines.proofs.lines.format_frame.Goals as goal

pub returns : goal.returns
unfolding frame_line
returns c = cc
