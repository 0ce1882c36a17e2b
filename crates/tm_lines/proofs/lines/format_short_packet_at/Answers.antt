use Rattle.tm_lines.specs.Lines.{short_packet_line}
use Rattle.tm_lines.proofs.lines.format_short_packet_at.Goals as goal

pub returns : goal.returns
unfolding short_packet_line
returns c = cc
