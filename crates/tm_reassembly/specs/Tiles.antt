-- How the parts of a channel lie in its joined data fields.
use Rattle.std.specs.Prelude.{◌≡◌, ℕ, ◌+◌, ◌==◌, Bool, false, Option, Some, None, Ok, Err, List, [], ◌∷◌, ◌++◌, length, map, filter, slice_get, if◌then◌else◌}
use Rattle.tm_frame.specs.declared.frame.Kind.TheVariants as got
use Rattle.tm_frame.specs.declared.frame.Kind.{Kind}
use Rattle.tm_reassembly.specs.Readings.{FrameReading}
use Rattle.tm_items.specs.Item as item
use Rattle.tm_items.specs.Item.{Item}
use Rattle.tm_reassembly.specs.State.{State, Last, Tail}

-- an octet of a channel, with the record that holds it and its place in that record's data field
pub record Spot : Type 0 where
  pub record_number : ℕ
  pub place : ℕ
  pub octet : ℕ

-- the octets of a field from a place on
abbrev pub field_spots : ℕ → ℕ → List ℕ → List Spot
field_spots number place [] = []
field_spots number place (x ∷ xs) = record { record_number = number; place = place; octet = x } ∷ field_spots number (place + 1) xs

-- VCA and idle-only frames are left out
abbrev pub kind_spots : ℕ → Kind → List ℕ → List Spot
kind_spots number (got.Packets place) field = field_spots number 0 field
kind_spots number got.NoStart field = field_spots number 0 field
kind_spots number got.Idle field = []
kind_spots number got.Vca field = []

abbrev pub record_spots : ℕ → ℕ → FrameReading → List Spot
record_spots channel number (Err fault) = []
record_spots channel number (Ok f) = if f.channel == channel then kind_spots number f.kind f.field else []

-- a channel's data fields, joined, of records that are numbered from a number on
abbrev pub channel_spots : ℕ → ℕ → List FrameReading → List Spot
channel_spots channel number [] = []
channel_spots channel number (r ∷ rs) = record_spots channel number r ++ channel_spots channel (number + 1) rs

abbrev pub spot_octets : List Spot → List ℕ
spot_octets spots = map (λ x. x.octet) spots

-- there are octets, and the first of them is at this place of this record
abbrev pub BeginsAt : ℕ → ℕ → List Spot → Type 0
BeginsAt first place [] = ⊥
BeginsAt first place (x ∷ xs) = (x.record_number ≡ first) × (x.place ≡ place)

-- an item covers the octets at the front that it tells of, and the others lie after them
abbrev pub Covers : List Spot → Item → List Spot → Type 0
Covers spots (item.Packet seen channel first place octets) rest =
    (these : List Spot) × (spots ≡ these ++ rest) × (spot_octets these ≡ octets) × BeginsAt first place these
Covers spots (item.Dropped seen channel first place octets reason) rest =
    (these : List Spot) × (spots ≡ these ++ rest) × (length these ≡ octets) × BeginsAt first place these
Covers spots (item.Bad seen fault) rest = ⊥
Covers spots (item.MasterGap seen expected found missing) rest = ⊥
Covers spots (item.Gap seen channel expected found missing) rest = ⊥
Covers spots (item.Vca seen channel) rest = ⊥
Covers spots (item.Short seen octets) rest = ⊥

-- items that begin at the first octet, each where the one before ends
abbrev pub Tile : List Spot → List Item → List Spot → Type 0
Tile spots [] rest = spots ≡ rest
Tile spots (x ∷ xs) rest = (middle : List Spot) × Covers spots x middle × Tile middle xs rest

-- the octets that are left are those of the tail, or there are none
abbrev pub IsHeld : Option Tail → List Spot → Type 0
IsHeld None spots = spots ≡ []
IsHeld (Some t) spots = (spot_octets spots ≡ t.octets) × BeginsAt t.first t.place spots

-- the packets and dropped parts of a channel
abbrev pub is_part_of : ℕ → Item → Bool
is_part_of channel (item.Packet seen own first place octets) = own == channel
is_part_of channel (item.Dropped seen own first place octets reason) = own == channel
is_part_of channel (item.Bad seen fault) = false
is_part_of channel (item.MasterGap seen expected found missing) = false
is_part_of channel (item.Gap seen own expected found missing) = false
is_part_of channel (item.Vca seen own) = false
is_part_of channel (item.Short seen octets) = false

abbrev pub parts_of : ℕ → List Item → List Item
parts_of channel xs = filter (λ x. is_part_of channel x) xs

-- the tail that is held of a channel
abbrev pub tail_of : Option (Option Last) → Option Tail
tail_of None = None
tail_of (Some None) = None
tail_of (Some (Some last)) = last.tail

abbrev pub held_tail : State → ℕ → Option Tail
held_tail s channel = tail_of (slice_get s.channels channel)
