-- A run's text is cut into packets and other parts (CCSDS 132.0-B-3, packet extraction). Each packet is judged by looking ahead over
-- the whole run.
--
-- A place in a run is told by what lies ahead of it. A start is the rest of its frame's field from it on, and with it go the
-- frames that come later in the run. `packet_length` is the number of octets from the start to where its packet ends.
use Rattle.std.specs.Prelude.{ℕ, suc, zero, pred, ◌+◌, ◌==◌, nat_lt, nat_le, Bool, not, ◌&&◌, Option, None, Some, List, [], ◌∷◌, ◌++◌, length, take, map, if◌then◌else◌}
use Rattle.std.specs.List.{flat_map}
use Rattle.tm_items.specs.OnePacket.{is_packet, packet_length}
use Rattle.tm_items.specs.declared.items.Reason.TheVariants as why
use Rattle.tm_items.specs.declared.items.Reason.{Reason}
use Rattle.tm_reassembly.specs.Chain.{ChainMember, Run, End, Unended, Ended}

-- the text of a run: all its fields, joined
abbrev pub text : List ChainMember → List ℕ
text ms = flat_map (λ m. m.field) ms

-- A start: the place of its first octet in the data field of its record, and the rest of its frame's field from there on.
pub record Start : Type 0 where
  pub place : ℕ
  pub octets : List ℕ

-- Octets are counted from the start itself: `reach` is how many there are to where its packet ends, and `at` how many there are to
-- a frame's beginning.

-- how many octets there are from a start to where its packet ends, by the whole text ahead
abbrev pub reach_of : List ℕ → List ChainMember → ℕ
reach_of start later = packet_length (start ++ text later)

-- by its place a frame agrees with a packet: it has no place, and the packet reaches its end; or the packet reaches just its place
abbrev pub agrees_at : ℕ → ℕ → ℕ → Option ℕ → Bool
agrees_at reach at len None = nat_le (at + len) reach
agrees_at reach at len (Some place) = reach == at + place

-- the record that holds a packet's last octet, where the octets before `at` end in the record of this number
abbrev pub holder : ℕ → ℕ → ℕ → List ChainMember → ℕ
holder reach at number [] = number
holder reach at number (m ∷ later) = if nat_le reach at then number else holder reach (at + length m.field) m.number later

-- what becomes of a part: a packet is given at a record, or octets are lost at a record, or a tail is held at the end
pub data Fate : Type 0 where
  Given : (seen : ℕ) → Fate
  Lost : (reason : Reason) (seen : ℕ) → Fate
  Held : Fate

-- a packet, or another part of the text, with the record and the place of its first octet
pub record Part : Type 0 where
  pub first : ℕ
  pub place : ℕ
  pub octets : List ℕ
  pub fate : Fate

abbrev pub fate_at : End → Fate
fate_at Unended = Held
fate_at (Ended reason seen) = Lost reason seen

-- a start that is open at a frame
pub record Claim : Type 0 where
  pub reach : ℕ
  pub at : ℕ

-- the octets before the place, or all of them without one
abbrev pub lead_octets : Option ℕ → List ℕ → List ℕ
lead_octets None field = field
lead_octets (Some place) field = take place field

abbrev pub lead_part : ChainMember → Reason → List ℕ → List Part
lead_part m reason [] = []
lead_part m reason (x ∷ xs) = record { first = m.number; place = m.base; octets = x ∷ xs; fate = Lost reason m.number } ∷ []

-- the octets before a frame's place, lost for this reason
abbrev pub lost_lead : ChainMember → Reason → List Part
lost_lead m reason = lead_part m reason (lead_octets m.place m.field)

-- why a frame doesn't agree: only because the packet is long, where its place agrees; else by its place
abbrev pub reason_at : ℕ → ℕ → ChainMember → Reason
reason_at reach at m = if agrees_at reach at (length m.field) m.place then why.Length else why.Pointer

-- why the rest of a frame is unread: the packet that starts there is long, where it is of version 0; else it is of another version
abbrev pub unread_reason : List ℕ → Reason
unread_reason start = if is_packet start then why.Length else why.Version

-- a tail that a frame breaks off
abbrev pub broken_part : ℕ → ℕ → List ℕ → ℕ → ChainMember → Part
broken_part first place octets reach broken = record {
  first = first;
  place = place;
  octets = octets;
  fate = Lost (reason_at reach (length octets) broken) broken.number;
}

-- All that follows depends on the limit: how many octets a packet may have at most.
module _ (limit : ℕ) where
  -- A packet is long at a frame if it has more octets than the limit, `reach`, and its whole header lies before the frame's end.
  -- That end is `stop` octets from the start.
  abbrev pub is_long : ℕ → ℕ → Bool
  is_long reach stop = nat_le 6 stop && nat_lt limit reach

  -- whether a start begins a packet that is read: it is of version 0, and not long in its own frame
  abbrev pub begins_packet : List ℕ → Bool
  begins_packet start = is_packet start && not (is_long (packet_length start) (length start))

  -- The starts among octets, where the first octet is at a place of its record's data field. The first `skip` octets hold none,
  -- and the next octet is one. Where that begins a packet that is read, the octet after the packet is one too, if it is among
  -- these octets.
  abbrev pub starts : ℕ → ℕ → List ℕ → List Start
  starts place skip [] = []
  starts place zero (x ∷ xs) =
      record { place = place; octets = x ∷ xs } ∷ (if begins_packet (x ∷ xs) then starts (place + 1) (pred (packet_length (x ∷ xs))) xs else [])
  starts place (suc skip) (x ∷ xs) = starts (place + 1) skip xs

  abbrev pub starts_from : ℕ → Option ℕ → List ℕ → List Start
  starts_from base None field = []
  starts_from base (Some place) field = starts base place field

  abbrev pub starts_of : ChainMember → List Start
  starts_of m = starts_from m.base m.place m.field

  -- a frame agrees with a packet: by its place, and the packet isn't long there
  abbrev pub agrees : ℕ → ℕ → ChainMember → Bool
  agrees reach at m = agrees_at reach at (length m.field) m.place && not (is_long reach (at + length m.field))

  -- A start reaches past the frames `between`, and each of them agrees with it. For a start that begins a packet that is read
  -- this says that it is open at the frame after them.
  abbrev pub open_after : ℕ → ℕ → List ChainMember → Bool
  open_after reach at [] = nat_lt at reach
  open_after reach at (m ∷ between) = agrees reach at m && open_after reach (at + length m.field) between

  -- looking ahead, the frames at which a start is open and that agree with it
  abbrev pub joined : ℕ → ℕ → List ChainMember → List ChainMember
  joined reach at [] = []
  joined reach at (m ∷ later) = if nat_lt at reach && agrees reach at m then m ∷ joined reach (at + length m.field) later else []

  -- looking ahead, the frame at which a start is open and that doesn't agree with it
  abbrev pub breaker : ℕ → ℕ → List ChainMember → Option ChainMember
  breaker reach at [] = None
  breaker reach at (m ∷ later) =
      if nat_lt at reach then (if agrees reach at m then breaker reach (at + length m.field) later else Some m) else None

  -- A start that begins a packet that is read. It is a tail up to the frame that doesn't agree; else a whole packet, if the text
  -- has it; else a tail up to the end of the run.
  abbrev pub packet_part : ℕ → ℕ → List ChainMember → End → List ℕ → ℕ → Option ChainMember → Part
  packet_part first place later end start reach (Some broken) =
      broken_part first place (start ++ text (joined reach (length start) later)) reach broken
  packet_part first place later end start reach None =
      if nat_le reach (length (start ++ text later))
      then record {
        first = first;
        place = place;
        octets = take reach (start ++ text later);
        fate = Given (holder reach (length start) first later);
      }
      else record { first = first; place = place; octets = start ++ text later; fate = fate_at end }

  -- else the rest of the frame is unread
  abbrev pub part_from : ℕ → ℕ → List ChainMember → End → List ℕ → Part
  part_from first place later end start =
      if begins_packet start
      then packet_part first place later end start (reach_of start later) (breaker (reach_of start later) (length start) later)
      else record { first = first; place = place; octets = start; fate = Lost (unread_reason start) first }

  abbrev pub start_part : ChainMember → List ChainMember → End → Start → Part
  start_part m later end start = part_from m.number start.place later end start.octets

  -- what one start claims at the first of `ahead`, where `between` are the frames after its own
  abbrev pub claim : List ChainMember → List ChainMember → Start → List Claim
  claim between ahead start =
      if begins_packet start.octets && open_after (reach_of start.octets (between ++ ahead)) (length start.octets) between
      then record { reach = reach_of start.octets (between ++ ahead); at = length start.octets + length (text between) } ∷ []
      else []

  -- the claims at the first of `ahead`, of the starts in the frames before it
  abbrev pub claims : List ChainMember → List ChainMember → List Claim
  claims [] ahead = []
  claims (f ∷ between) ahead = flat_map (claim between ahead) (starts_of f) ++ claims between ahead

  -- the lead of a frame: lost where no start is open there, or where one is and the frame doesn't agree (there is at most one, which is
  -- proved)
  abbrev pub lead : List Claim → ChainMember → List Part
  lead [] m = lost_lead m why.NoStart
  lead (c ∷ more) m = if agrees c.reach c.at m then [] else lost_lead m (reason_at c.reach c.at m)

  -- the parts of a run from a frame on, in the order of the text
  abbrev pub parts_from : List ChainMember → List ChainMember → End → List Part
  parts_from before [] end = []
  parts_from before (m ∷ later) end =
      lead (claims before (m ∷ later)) m
      ++ map (start_part m later end) (starts_of m)
      ++ parts_from (before ++ m ∷ []) later end

  abbrev pub parts : Run → List Part
  parts r = parts_from [] r.members r.end
