use Rattle.tm_lines.specs.code.Parts.{packet_end}
use Rattle.tm_lines.proofs.lines.format_packet_end.Goals as goal

pub returns-clause-text : goal.returns-clause-text
unfolding packet_end
returns-clause-text c = cc
