use Rattle.tm_output.specs.Pieces.{item_line}
use Rattle.tm_output.proofs.output.make_line.Goals as goal

pub returns-in-Packet : goal.returns-in-Packet
unfolding item_line
returns-in-Packet c = rw c.in-Packet.is c.clear.ensures
