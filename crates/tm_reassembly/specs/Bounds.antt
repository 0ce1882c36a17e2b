-- How much room items take: terms of a law, for callers that keep room for the items of one record.
use Rattle.std.specs.Prelude.{ℕ, List, length, sum_by}
use Rattle.tm_items.specs.Item.{Item, Packet}

-- how many events an item is at most: a packet, with three notes of its header, is four; any other item is one
abbrev pub event_count : Item → ℕ
event_count (Packet seen channel first place octets) = 4
event_count _ = 1

-- how many events items are at most, all together
abbrev pub event_counts : List Item → ℕ
event_counts xs = sum_by event_count xs

-- how many octets an item has of a packet; only a packet has any
abbrev pub packet_size : Item → ℕ
packet_size (Packet seen channel first place octets) = length octets
packet_size _ = 0

-- how many octets of packets items have, all together
abbrev pub packet_sizes : List Item → ℕ
packet_sizes xs = sum_by packet_size xs
