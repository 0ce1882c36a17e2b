-- Which items are among others, and which are of a channel.
use Rattle.std.specs.Prelude.{◌≡◌, ◌⊎◌, ℕ, ◌==◌, Bool, true, false, List, [], ◌∷◌}
use Rattle.tm_items.specs.Item.{Item, Bad, MasterGap, Gap, Vca, Dropped, Packet, Short}

abbrev pub Among : Item → List Item → Type 0
Among x [] = ⊥
Among x (y ∷ ys) = (x ≡ y) ⊎ Among x ys

-- a gap of the master channel
abbrev pub is_master_gap : Item → Bool
is_master_gap (Bad seen fault) = false
is_master_gap (MasterGap seen expected found missing) = true
is_master_gap (Gap seen channel expected found missing) = false
is_master_gap (Vca seen channel) = false
is_master_gap (Dropped seen channel first place octets reason) = false
is_master_gap (Packet seen channel first place octets) = false
is_master_gap (Short seen octets) = false

-- a gap, a VCA frame, a dropped part or a packet of the channel
abbrev pub is_of : ℕ → Item → Bool
is_of channel (Bad seen fault) = false
is_of channel (MasterGap seen expected found missing) = false
is_of channel (Gap seen own expected found missing) = own == channel
is_of channel (Vca seen own) = own == channel
is_of channel (Dropped seen own first place octets reason) = own == channel
is_of channel (Packet seen own first place octets) = own == channel
is_of channel (Short seen octets) = false

-- a packet
abbrev pub is_packet_item : Item → Bool
is_packet_item (Packet seen channel first place octets) = true
is_packet_item _ = false
