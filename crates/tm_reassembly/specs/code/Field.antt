-- What one frame gives by itself, with no other frame in view. These stand in private contracts alone; that they agree with the
-- definitions, which look at whole runs, is proved.
use Rattle.std.specs.Prelude.{◌≡◌, ◌<◌, ◌≤◌, ℕ, suc, zero, pred, ◌+◌, ◌-◌, nat_le, Bool, true, false, Option, Some, None, Result, List, [], ◌∷◌, ◌++◌, length, take, drop, if◌then◌else◌}
use Rattle.std.specs.List.{flat_map}
use Rattle.tm_items.specs.declared.items.Reason.TheVariants as why
use Rattle.tm_items.specs.declared.items.Reason.{Reason}
use Rattle.tm_reassembly.specs.State.{Tail}
use Rattle.tm_reassembly.specs.Chain.{ChainMember}
use Rattle.tm_reassembly.specs.Parts.{Part, Given, Lost, begins_packet, agrees, reason_at, unread_reason, lost_lead, lead}
use Rattle.tm_items.specs.declared.sink.Sink as sink
use Rattle.tm_items.specs.Giving.{Gives}
use Rattle.tm_items.specs.Item.{Item}
use Rattle.tm_items.specs.OnePacket.{is_packet, packet_length}
use Rattle.tm_reassembly.specs.Items.{part_item}

-- the tail that these last octets of a field are, if there are any
abbrev pub tail_at : ℕ → ℕ → List ℕ → Option Tail
tail_at number stop [] = None
tail_at number stop (x ∷ xs) = Some (record { first = number; place = stop - length (x ∷ xs); octets = x ∷ xs })

-- the place after a frame's last octet
abbrev pub end_place_of : ChainMember → ℕ
end_place_of m = m.base + length m.field

-- what becomes of a tail at the end of a run
abbrev pub ended_parts : Option Tail → Reason → ℕ → List Part
ended_parts None reason number = []
ended_parts (Some t) reason number =
    record { first = t.first; place = t.place; octets = t.octets; fate = Lost reason number } ∷ []

module _ (limit : ℕ) where
  -- The packets that lie whole in what is left of a field, and its unread part. The first `skip` octets hold no start, and the
  -- field ends before the place `stop` of the record's data field.
  abbrev pub field_parts : ℕ → ℕ → ℕ → List ℕ → List Part
  field_parts number stop skip [] = []
  field_parts number stop zero (x ∷ xs) =
      if begins_packet limit (x ∷ xs)
      then
      (if nat_le (packet_length (x ∷ xs)) (length (x ∷ xs))
      then
      record { first = number; place = stop - length (x ∷ xs); octets = take (packet_length (x ∷ xs)) (x ∷ xs); fate = Given number }
      ∷ field_parts number stop (pred (packet_length (x ∷ xs))) xs
      else [])
      else record { first = number; place = stop - length (x ∷ xs); octets = x ∷ xs; fate = Lost (unread_reason (x ∷ xs)) number } ∷ []
  field_parts number stop (suc skip) (x ∷ xs) = field_parts number stop skip xs

  -- the octets of its last packet, if that doesn't end in the field
  abbrev pub unfinished : ℕ → List ℕ → List ℕ
  unfinished skip [] = []
  unfinished zero (x ∷ xs) =
      if begins_packet limit (x ∷ xs)
      then (if nat_le (packet_length (x ∷ xs)) (length (x ∷ xs)) then unfinished (pred (packet_length (x ∷ xs))) xs else x ∷ xs)
      else []
  unfinished (suc skip) (x ∷ xs) = unfinished skip xs

  abbrev pub parts_in : ℕ → ℕ → Option ℕ → List ℕ → List Part
  parts_in number stop None field = []
  parts_in number stop (Some place) field = field_parts number stop place field

  abbrev pub left_in : Option ℕ → List ℕ → List ℕ
  left_in None field = []
  left_in (Some place) field = unfinished place field

  -- What a frame gives after a tail, or after none, and the tail that it leaves: one step of a run.

  abbrev pub frame_parts : ChainMember → List Part
  frame_parts m = parts_in m.number (end_place_of m) m.place m.field

  -- likewise where no packet is open: what stands before its place is lost for this reason
  abbrev pub begun_parts : Reason → ChainMember → List Part
  begun_parts reason m = lost_lead m reason ++ frame_parts m

  -- where a frame breaks off a tail: that is lost for this reason, and so is what stands before the frame's place
  abbrev pub broken_off_parts : Option Tail → Reason → ChainMember → List Part
  broken_off_parts tail reason m = ended_parts tail reason m.number ++ begun_parts reason m

  abbrev pub frame_tail : ChainMember → Option Tail
  frame_tail m = tail_at m.number (end_place_of m) (left_in m.place m.field)

  abbrev pub tail_parts : Tail → ChainMember → ℕ → List Part
  tail_parts t m reach =
      if agrees limit reach (length t.octets) m
      then
      (if nat_le reach (length (t.octets ++ m.field))
      then
      record { first = t.first; place = t.place; octets = take reach (t.octets ++ m.field); fate = Given m.number }
      ∷ frame_parts m
      else [])
      else broken_off_parts (Some t) (reason_at reach (length t.octets) m) m

  abbrev pub tail_left : Tail → ChainMember → ℕ → Option Tail
  tail_left t m reach =
      if agrees limit reach (length t.octets) m
      then
      (if nat_le reach (length (t.octets ++ m.field))
      then frame_tail m
      else Some (record { first = t.first; place = t.place; octets = t.octets ++ m.field }))
      else frame_tail m

  abbrev pub step_parts : Option Tail → ChainMember → List Part
  step_parts None m = lead limit [] m ++ frame_parts m
  step_parts (Some t) m = tail_parts t m (packet_length (t.octets ++ m.field))

  abbrev pub step_tail : Option Tail → ChainMember → Option Tail
  step_tail None m = frame_tail m
  step_tail (Some t) m = tail_left t m (packet_length (t.octets ++ m.field))

  -- What a frame of a chain gives, and the tail that it leaves: it may have a gap and may be a VCA frame
  abbrev pub chain_parts_at : Bool → Bool → Option Tail → ChainMember → List Part
  chain_parts_at true true tail m = ended_parts tail why.Gap m.number
  chain_parts_at true false tail m = ended_parts tail why.Gap m.number ++ step_parts None m
  chain_parts_at false true tail m = ended_parts tail why.Vca m.number
  chain_parts_at false false tail m = step_parts tail m

  abbrev pub chain_tail_at : Bool → Bool → Option Tail → ChainMember → Option Tail
  chain_tail_at gap true tail m = None
  chain_tail_at true false tail m = step_tail None m
  chain_tail_at false false tail m = step_tail tail m

-- the items of parts
abbrev pub part_items : ℕ → List Part → List Item
part_items channel ps = flat_map (λ p. part_item channel p p.fate) ps

-- a call gives the items of these parts to a sink
abbrev pub GivesParts : {S F T : Type 0} (s : sink.Ghosts S F) → S → S → ℕ → List Part → Result T F → Type 0
GivesParts s old new channel ps r = Gives s old new (part_items channel ps) r

-- the items that a field gives from a place on
abbrev pub items_from : ℕ → ℕ → ℕ → List ℕ → ℕ → List Item
items_from limit seen channel field at = part_items channel (field_parts limit seen (length field) 0 (drop at field))

-- a packet of so many octets begins with these, and is read; it is no longer than the limit where its whole header is there
abbrev pub IsMeasured : ℕ → List ℕ → ℕ → Type 0
IsMeasured limit octets reach =
    (begins_packet limit octets ≡ true) × (is_packet octets ≡ true) × (reach ≡ packet_length octets)
    × (reach ≤ 65542) × (6 ≤ length octets → reach ≤ limit)

-- no packet that is read lies whole in these octets, from the first on
abbrev pub HasNoWholePacket : ℕ → List ℕ → Type 0
HasNoWholePacket limit octets = begins_packet limit octets ≡ true → length octets < packet_length octets

-- the octets of a field from `left` on are these, fewer than a packet may have
abbrev pub IsLeft : ℕ → List ℕ → ℕ → List ℕ → Type 0
IsLeft limit field left rest = (drop left field ≡ rest) × (left ≤ length field) × (length field < left + limit)
