-- A whole packet, as an outlet takes it.
use Rattle.std.specs.Prelude.{◌≡◌}
use Rattle.tm_packet.specs.Header.{packet_header_of}
use Rattle.tm_items.specs.Item.{Item}
use Rattle.tm_items.specs.Item as value
use Rattle.tm_lines.specs.declared.packet.Packet as lent

-- the item that it is
abbrev pub item_with : lent.Packet → Item
item_with p = value.Packet p.seen p.channel p.first p.place p.octets.now

-- its header is the one in its octets
abbrev pub HasHeader : lent.Packet → Type 0
HasHeader p = p.header ≡ packet_header_of p.octets.now
