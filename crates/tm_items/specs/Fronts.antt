-- The packets that lie whole at the front of octets, end to end, so that a sink may take all of them in one step.
use Rattle.std.specs.Prelude.{ℕ, suc, zero, pred, ◌+◌, ◌&&◌, nat_le, Bool, Option, Some, None, List, [], ◌∷◌, length, take, if◌then◌else◌}
use Rattle.std.specs.List.{flat_map}
use Rattle.tm_packet.specs.Header.{Fields, packet_header_of}
use Rattle.tm_items.specs.declared.sink.Span.{Span}
use Rattle.tm_items.specs.Item.{Item, Packet}
use Rattle.tm_items.specs.OnePacket.{is_packet, packet_length}

-- a packet of version 0 and at most `limit` octets lies whole at the front of octets (CCSDS 133.0-B-2, 4.1.3)
abbrev pub has_packet : ℕ → List ℕ → Bool
has_packet limit octets = is_packet octets && (nat_le (packet_length octets) limit && nat_le (packet_length octets) (length octets))

-- the header of that packet
abbrev pub front_header : ℕ → List ℕ → Option Fields
front_header limit octets = if has_packet limit octets then Some (packet_header_of octets) else None

-- octets, cut where a packet ends by its header, as far as such packets go; the first `skip` octets are left out
abbrev pub packets_behind : ℕ → ℕ → List ℕ → List (List ℕ)
packets_behind limit skip [] = []
packets_behind limit zero (x ∷ xs) =
    if has_packet limit (x ∷ xs)
    then take (packet_length (x ∷ xs)) (x ∷ xs) ∷ packets_behind limit (pred (packet_length (x ∷ xs))) xs
    else []
packets_behind limit (suc skip) (x ∷ xs) = packets_behind limit skip xs

-- the packets of the longest front that is whole packets
abbrev pub front_packets : ℕ → List ℕ → List (List ℕ)
front_packets limit octets = packets_behind limit 0 octets

-- packets, end to end
abbrev pub octets_of : List (List ℕ) → List ℕ
octets_of ps = flat_map (λ p. p) ps

-- how many octets that front has
abbrev pub front_length : ℕ → List ℕ → ℕ
front_length limit octets = length (octets_of (front_packets limit octets))

-- packets of a channel that lie end to end in the data field of one record, from this place on
abbrev pub placed : ℕ → ℕ → ℕ → List (List ℕ) → List Item
placed seen channel place [] = []
placed seen channel place (p ∷ ps) = Packet seen channel seen place p ∷ placed seen channel (place + length p) ps

-- the packets of that front, as items
abbrev pub front_items : ℕ → Span → List Item
front_items limit s = placed s.seen s.channel s.place (front_packets limit s.octets.now)
