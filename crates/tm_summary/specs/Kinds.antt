-- The frames, items and notes that a summary counts, and what of them it adds up.
use Rattle.std.specs.Prelude.{ℕ, ◌==◌, Bool, true, false, length}
use Rattle.tm_frame.specs.declared.frame.Kind.{Kind}
use Rattle.tm_frame.specs.declared.frame.Kind.TheVariants.{Packets, NoStart, Idle}
use Rattle.tm_frame.specs.declared.frame.Kind.TheVariants as kind
use Rattle.tm_frame.specs.FaultWords.{fault_number}
use Rattle.tm_packet.specs.declared.notes.Note.{Note}
use Rattle.tm_packet.specs.declared.notes.Note.TheVariants as note
use Rattle.tm_packet.specs.Header.{packet_header_of}
use Rattle.tm_packet.specs.Merge.{pair_key}
use Rattle.tm_items.specs.Reasons.{reason_place}
use Rattle.tm_items.specs.Item.{Item, Bad, MasterGap, Gap, Dropped, Packet, Short}

-- ---- frames, by what their data fields hold

abbrev pub is_idle_kind : Kind → Bool
is_idle_kind (Packets place) = false
is_idle_kind NoStart = false
is_idle_kind Idle = true
is_idle_kind kind.Vca = false

-- its data field is joined with those of its channel: VCA and idle-only frames are left out
abbrev pub is_joined_kind : Kind → Bool
is_joined_kind (Packets place) = true
is_joined_kind NoStart = true
is_joined_kind Idle = false
is_joined_kind kind.Vca = false

-- ---- items

abbrev pub is_bad : Item → Bool
is_bad (Bad seen fault) = true
is_bad _ = false

-- a bad frame with the fault of this number
abbrev pub has_fault : ℕ → Item → Bool
has_fault n (Bad seen fault) = fault_number fault == n
has_fault n _ = false

abbrev pub master_missing : Item → ℕ
master_missing (MasterGap seen expected found missing) = missing
master_missing _ = 0

-- the octets that are left
abbrev pub rest_octets : Item → ℕ
rest_octets (Short seen octets) = octets
rest_octets _ = 0

abbrev pub is_gap : Item → Bool
is_gap (Gap seen channel expected found missing) = true
is_gap _ = false

abbrev pub gap_missing : Item → ℕ
gap_missing (Gap seen channel expected found missing) = missing
gap_missing _ = 0

abbrev pub packet_item_length : Item → ℕ
packet_item_length (Packet seen channel first place octets) = length octets
packet_item_length _ = 0

abbrev pub is_drop : Item → Bool
is_drop (Dropped seen channel first place octets reason) = true
is_drop _ = false

abbrev pub drop_octets : Item → ℕ
drop_octets (Dropped seen channel first place octets reason) = octets
drop_octets _ = 0

-- a dropped part with the reason at this place
abbrev pub has_reason : ℕ → Item → Bool
has_reason n (Dropped seen channel first place octets reason) = reason_place reason == n
has_reason n _ = false

-- a packet of the channel and application of this number
abbrev pub has_key : ℕ → Item → Bool
has_key key (Packet seen channel first place octets) = pair_key channel (packet_header_of octets).application == key
has_key key _ = false

-- ---- notes

-- a note, and the number of the channel and application whose sequence counts it is of
pub record Noted : Type 0 where
  pub key : ℕ
  pub note : Note

abbrev pub is_sequence_gap : Note → Bool
is_sequence_gap (note.Gap expected found missing) = true
is_sequence_gap _ = false

abbrev pub sequence_missing : Note → ℕ
sequence_missing (note.Gap expected found missing) = missing
sequence_missing _ = 0

abbrev pub is_whole_group : Note → Bool
is_whole_group (note.Whole first last) = true
is_whole_group _ = false

abbrev pub is_broken : Note → Bool
is_broken (note.Broken first last why) = true
is_broken _ = false

abbrev pub is_stray : Note → Bool
is_stray (note.Stray count flags) = true
is_stray _ = false
