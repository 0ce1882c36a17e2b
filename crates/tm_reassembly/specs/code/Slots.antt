-- What the code keeps of a channel, as the state has it, and what a frame makes of it. These stand in private contracts alone, and in
-- the model of the public type.
use Rattle.std.specs.Prelude.{◌≡◌, ℕ, ◌+◌, ◌<◌, ◌≤◌, ◌==◌, length, min, if◌then◌else◌, map, slice_get, Option, Some, None, List, [], ◌∷◌, ◌++◌, Bool, true, false, take, OnOk, Result}
use Rattle.tm_reassembly.specs.Chain.{ChainMember, has_frame_gap, next_frame_count}
use Rattle.tm_reassembly.specs.code.Field.{chain_parts_at, chain_tail_at, frame_parts, part_items}
use Rattle.tm_items.specs.Item.{Item, Vca}
use Rattle.tm_reassembly.specs.Items.{gap_item, gap_at, vca_at, last_with}
use Rattle.tm_reassembly.specs.Parts.{Part, Given}
use Rattle.tm_reassembly.specs.State.{Last, State, Tail, octets_in}
use Rattle.tm_items.specs.OnePacket.{IsOnePacket}

-- what a tail's place is seen as: how many octets a packet may have, for how many octets there is room, and the tail that is held
pub record Buffer : Type 0 where
  pub limit : ℕ
  pub capacity : ℕ
  pub tail : Option Tail

-- the same for a channel, whose last count is kept too
pub record Slot : Type 0 where
  pub limit : ℕ
  pub capacity : ℕ
  pub last : Option Last

-- a channel without anything kept, with capacity for a packet
abbrev pub unused : ℕ → Slot
unused limit = record { limit = limit; capacity = limit; last = None }

-- what is kept of the channels
abbrev pub lasts : List Slot → List (Option Last)
lasts slots = map (λ x. x.last) slots

-- for how many octets of packets there is room in all of them, in each for no more than a packet may have
abbrev pub capacities : List Slot → ℕ
capacities [] = 0
capacities (x ∷ xs) = min x.limit x.capacity + capacities xs

-- a packet may have so many octets here, and there is room for them
abbrev pub IsFor : ℕ → Slot → Type 0
IsFor limit x = (x.limit ≡ limit) × (limit ≤ x.capacity)

-- likewise in each of them
abbrev pub HaveLimit : ℕ → List Slot → Type 0
HaveLimit limit slots = (c : ℕ) (x : Slot) → slice_get slots c ≡ Some x → IsFor limit x

-- octets that are held are a tail, and no octets are none
abbrev pub tail_of_octets : ℕ → ℕ → List ℕ → Option Tail
tail_of_octets first place [] = None
tail_of_octets first place (x ∷ xs) = Some (record { first = first; place = place; octets = x ∷ xs })

-- the last count and the tail
abbrev pub frame_count_in : Option Last → Option ℕ
frame_count_in None = None
frame_count_in (Some last) = Some last.count

abbrev pub tail_in : Option Last → Option Tail
tail_in None = None
tail_in (Some last) = last.tail

-- a frame of a chain, whose count doesn't matter
abbrev pub member_at : ℕ → Option ℕ → List ℕ → ChainMember
member_at number place field = record { number = number; count = 0; is_vca = false; place = place; field = field; base = 0 }

-- a tail with more octets after it
abbrev pub grown : Option Tail → List ℕ → Option Tail
grown None more = None
grown (Some t) more = Some (record { first = t.first; place = t.place; octets = t.octets ++ more })

-- the tail is this from then on; its limit stays, and its room doesn't shrink
abbrev pub HoldsTail : Buffer → Buffer → Option Tail → Type 0
HoldsTail old new tail = (new.tail ≡ tail) × (new.limit ≡ old.limit) × (old.capacity ≤ new.capacity)

-- likewise, but that nothing is said of the tail where the call is refused
abbrev pub LeavesTail : {T F : Type 0} → Buffer → Buffer → Option Tail → Result T F → Type 0
LeavesTail old new tail r = OnOk r (new.tail ≡ tail) × (new.limit ≡ old.limit) × (old.capacity ≤ new.capacity)

-- what is kept of the channel is this from then on; its limit stays, and its room doesn't shrink
abbrev pub HoldsLast : Slot → Slot → Option Last → Type 0
HoldsLast old new last = (new.last ≡ last) × (new.limit ≡ old.limit) × (old.capacity ≤ new.capacity)

-- likewise, but that nothing is said of it where the call is refused
abbrev pub LeavesLast : {T F : Type 0} → Slot → Slot → Option Last → Result T F → Type 0
LeavesLast old new last r = OnOk r (new.last ≡ last) × (new.limit ≡ old.limit) × (old.capacity ≤ new.capacity)

-- a tail is held, and a packet may have its octets and these after them
abbrev pub MayGrow : Buffer → List ℕ → Type 0
MayGrow x more = (0 < length (octets_in x.tail)) × (length (octets_in x.tail) + length more ≤ x.limit)

-- likewise, and these end the packet
abbrev pub MayComplete : Buffer → List ℕ → Type 0
MayComplete x more = MayGrow x more × IsOnePacket (octets_in x.tail ++ more)

-- the packet of a tail with more octets after it
abbrev pub completed : Option Tail → List ℕ → ℕ → List Part
completed None more seen = []
completed (Some t) more seen = record { first = t.first; place = t.place; octets = t.octets ++ more; fate = Given seen } ∷ []

-- likewise, the first octets of a field ending it; and then come the parts of the frame from there on
abbrev pub completed_parts : ℕ → Option Tail → ℕ → ℕ → List ℕ → List Part
completed_parts limit tail seen start field = completed tail (take start field) seen ++ frame_parts limit (member_at seen (Some start) field)

-- The items of one frame's data, after a gap or none, for a channel that keeps this, with no other frame in view. Then what is
-- kept after it.
abbrev pub data_items : ℕ → ℕ → Option Last → Bool → ChainMember → List Item
data_items limit channel last gap m = vca_at channel m ++ part_items channel (chain_parts_at limit gap m.is_vca (tail_in last) m)

abbrev pub last_with_data : ℕ → Option Last → Bool → ChainMember → Option Last
last_with_data limit last gap m = Some (record { count = m.count; tail = chain_tail_at limit gap m.is_vca (tail_in last) m })

-- Likewise of the frame with its gap. That these are what the definitions give for a list of one record is proved.
abbrev pub frame_items : ℕ → ℕ → Option Last → ChainMember → List Item
frame_items limit channel last m = gap_at (gap_item channel) (frame_count_in last) m ++ data_items limit channel last (has_frame_gap (frame_count_in last) m) m

abbrev pub last_after : ℕ → Option Last → ChainMember → Option Last
last_after limit last m = last_with_data limit last (has_frame_gap (frame_count_in last) m) m

-- the parts that a field of packets gives, after a gap or none, and what is kept after it
abbrev pub slot_parts : Slot → Bool → ChainMember → List Part
slot_parts x gap m = chain_parts_at x.limit gap false (tail_in x.last) m

abbrev pub slot_after : Slot → Bool → ChainMember → Option Last
slot_after x gap m = last_with (chain_tail_at x.limit gap false (tail_in x.last) m) (frame_count_in x.last)

-- the count that should have been found after another, where it isn't the one that was
abbrev pub missed_count : Option ℕ → ℕ → Option ℕ
missed_count None found = None
missed_count (Some before) found = if found == next_frame_count before then None else Some (next_frame_count before)

-- a frame if only its count matters
abbrev pub counted : ℕ → ℕ → ChainMember
counted number count = record { number = number; count = count; is_vca = false; place = None; field = []; base = 0 }

-- the items of a VCA frame, after a gap or none
abbrev pub vca_items : Slot → ℕ → ℕ → Bool → List Item
vca_items x seen channel gap = Vca seen channel ∷ part_items channel (chain_parts_at x.limit gap true (tail_in x.last) (counted seen 0))

-- what the code has, as a state
abbrev pub state_in_slots : ℕ → Option ℕ → List Slot → State
state_in_slots records master slots = record { records = records; master = master; channels = lasts slots }
