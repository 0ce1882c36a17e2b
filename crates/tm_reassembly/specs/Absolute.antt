-- The same said with places in the text of a run: a second reading, that the first one is proved equal to.
use Rattle.std.specs.Prelude.{◌≡◌, ◌⊎◌, ℕ, ◌+◌, ◌<◌, ◌≤◌, nat_le, Option, Some, None, List, [], ◌∷◌, ◌++◌, length, take, drop, slice_range, if◌then◌else◌}
use Rattle.tm_packet.specs.Header.{packet_version_of, packet_header_of}
use Rattle.tm_reassembly.specs.Chain.{ChainMember, End}
use Rattle.tm_reassembly.specs.Parts.{Part, Fate, Lost, Start, text, reach_of, claims, lead, start_part}
use Rattle.tm_items.specs.declared.items.Reason.{Reason}

-- the text of a run: of a frame, with those before it and those after it
abbrev pub text_around : List ChainMember → ChainMember → List ChainMember → List ℕ
text_around before f later = text (before ++ f ∷ later)

-- where in the text the frame begins that comes after some frames
abbrev pub frame_begin : List ChainMember → ℕ
frame_begin before = length (text before)

-- where it ends
abbrev pub frame_end : List ChainMember → ChainMember → ℕ
frame_end before f = frame_begin before + length f.field

-- where a start of it begins, after the octets that it has before the start
abbrev pub start_in_text : List ChainMember → List ℕ → ℕ
start_in_text before skipped = frame_begin before + length skipped

-- where the packet that starts at q ends, by the six octets of its header, or seven octets on where the text doesn't have them
abbrev pub packet_length_at : List ℕ → ℕ → ℕ
packet_length_at t q = if nat_le (q + 6) (length t) then q + ((packet_header_of (take 6 (drop q t))).data_length + 7) else q + 7

-- the octet at q begins with version 0
abbrev pub IsVersionZero : List ℕ → ℕ → Type 0
IsVersionZero t q = packet_version_of (take 1 (drop q t)) ≡ 0

-- by its place a frame whose octets begin at `begin` agrees with a packet that ends at `end_of`
abbrev pub AgreesAt : ℕ → ℕ → ℕ → Option ℕ → Type 0
AgreesAt end_of begin len None = begin + len ≤ end_of
AgreesAt end_of begin len (Some place) = end_of ≡ begin + place

-- All that follows depends on the limit: how many octets a packet may have at most.
module _ (limit : ℕ) where
  -- the packet at q has more octets than the limit, and its whole header lies before the place `stop`
  abbrev pub IsLong : List ℕ → ℕ → ℕ → Type 0
  IsLong t q stop = (q + limit < packet_length_at t q) × (q + 6 ≤ stop)

  -- a packet that is read begins at q, in a frame that ends at `stop`: it is of version 0, and not long there
  abbrev pub BeginsPacket : List ℕ → ℕ → ℕ → Type 0
  BeginsPacket t q stop = IsVersionZero t q × (IsLong t q stop → ⊥)

  -- a frame whose octets begin at `begin` agrees with the packet at q: by its place, and the packet isn't long there
  abbrev pub Agrees : List ℕ → ℕ → ℕ → ChainMember → Type 0
  Agrees t q begin m = AgreesAt (packet_length_at t q) begin (length m.field) m.place × (IsLong t q (begin + length m.field) → ⊥)

  -- The frames `prefix` are those up to and with the start's own, and `between` those from there to the frame in question. A
  -- packet that is read begins at the start, it reaches past the frame's beginning, and each frame between agrees with it.
  abbrev pub IsOpen : List ℕ → ℕ → List ChainMember → List ChainMember → Type 0
  IsOpen t q prefix between =
      BeginsPacket t q (frame_begin prefix) × (frame_begin (prefix ++ between) < packet_length_at t q)
      × ((earlier later : List ChainMember) (g : ChainMember) → between ≡ earlier ++ g ∷ later → Agrees t q (frame_begin (prefix ++ earlier)) g)

  -- a packet that is read begins at q, the text ends it, and each later frame at which it is open agrees with it
  abbrev pub IsWhole : List ℕ → ℕ → List ChainMember → List ChainMember → Type 0
  IsWhole t q prefix later =
      BeginsPacket t q (frame_begin prefix) × (packet_length_at t q ≤ length t)
      × ((between more : List ChainMember) (m : ChainMember) → later ≡ between ++ m ∷ more → IsOpen t q prefix between
      → Agrees t q (frame_begin (prefix ++ between)) m)

  -- The starts of a frame whose octets are those of the text from `begin` up to, not with, `stop`. They are its place, and each
  -- place in it where a packet ends that is read at a start.
  pub data IsStart (t : List ℕ) (begin stop : ℕ) (place : Option ℕ) : ℕ → Type 0 where
    placed : (p : ℕ) → place ≡ Some p → begin + p < stop → IsStart t begin stop place (begin + p)
    reached : (q : ℕ) → IsStart t begin stop place q → BeginsPacket t q stop → packet_length_at t q < stop → IsStart t begin stop place (packet_length_at t q)

  -- at the frame that follows those of `before`, the start at q of one of them is open
  abbrev pub IsOpenAt : List ℕ → List ChainMember → ℕ → Type 0
  IsOpenAt t before q =
      (earlier : List ChainMember) × (between : List ChainMember) × (f : ChainMember) × (before ≡ earlier ++ f ∷ between)
      × IsStart t (frame_begin earlier) (frame_end earlier f) f.place q
      × IsOpen t q (earlier ++ f ∷ []) between

abbrev pub Iff : Type 0 → Type 0 → Type 0
Iff A B = (A → B) × (B → A)

abbrev pub IsIn : Start → List Start → Type 0
IsIn s [] = ⊥
IsIn s (x ∷ xs) = (s ≡ x) ⊎ IsIn s xs

-- what stands before a start in its frame, from the start's place
abbrev pub LiesAfter : ChainMember → Start → List ℕ → Type 0
LiesAfter f s skipped = (f.field ≡ skipped ++ s.octets) × (s.place ≡ f.base + length skipped) × (0 < length s.octets)

-- the part that a start of f becomes, with the octets of a text from q up to, not with, `stop`
abbrev pub part_at : ChainMember → Start → List ℕ → ℕ → ℕ → Fate → Part
part_at f s t q stop fate = record { first = f.number; place = s.place; octets = slice_range t q stop; fate = fate }

-- ---- a frame in a run

-- a frame, with the frames before it and those after it
pub record FrameInRun : Type 0 where
  pub before : List ChainMember
  pub frame : ChainMember
  pub later : List ChainMember

-- the text of its run
abbrev pub text_of_run : FrameInRun → List ℕ
text_of_run r = text_around r.before r.frame r.later

-- a start of the frame is at q
abbrev pub IsStartIn : ℕ → FrameInRun → ℕ → Type 0
IsStartIn limit r q = IsStart limit (text_of_run r) (frame_begin r.before) (frame_end r.before r.frame) r.frame.place q

-- the start at q is open at the frame
abbrev pub IsOpenIn : ℕ → FrameInRun → ℕ → Type 0
IsOpenIn limit r q = IsOpenAt limit (text_of_run r) r.before q

-- the frame agrees with it by its place
abbrev pub AgreesByPlace : FrameInRun → ℕ → Type 0
AgreesByPlace r q = AgreesAt (packet_length_at (text_of_run r) q) (frame_begin r.before) (length r.frame.field) r.frame.place

-- what becomes of the octets before the frame's place
abbrev pub lead_in : ℕ → FrameInRun → List Part
lead_in limit r = lead limit (claims limit r.before (r.frame ∷ r.later)) r.frame

-- ---- a start in a run

-- The octets of a frame from a start on, and those before it, which are skipped; with the frames before this one and those after it.
pub record StartInRun : Type 0 where
  pub before : List ChainMember
  pub frame : ChainMember
  pub later : List ChainMember
  pub skipped : List ℕ
  pub octets : List ℕ
  pub field : frame.field ≡ skipped ++ octets

-- the text of its run
abbrev pub text_with : StartInRun → List ℕ
text_with p = text_around p.before p.frame p.later

-- where in the text the start is
abbrev pub place_of_start : StartInRun → ℕ
place_of_start p = start_in_text p.before p.skipped

-- how many octets there are from it to where its packet ends
abbrev pub reach_of_start : StartInRun → ℕ
reach_of_start p = reach_of p.octets p.later

-- the frames up to and with its own
abbrev pub frames_up_to : StartInRun → List ChainMember
frames_up_to p = p.before ++ p.frame ∷ []

-- its packet is long where the text up to this place is known
abbrev pub IsLongUpTo : ℕ → StartInRun → ℕ → Type 0
IsLongUpTo limit p stop = IsLong limit (text_with p) (place_of_start p) stop

-- it is open at the frame after those that follow its own
abbrev pub IsOpenBehind : ℕ → StartInRun → List ChainMember → Type 0
IsOpenBehind limit p between = IsOpen limit (text_with p) (place_of_start p) (frames_up_to p) between

-- that frame agrees with it by its place
abbrev pub GoesOnByPlace : StartInRun → List ChainMember → ChainMember → Type 0
GoesOnByPlace p between m =
    AgreesAt (packet_length_at (text_with p) (place_of_start p)) (frame_begin (frames_up_to p ++ between)) (length m.field) m.place

-- it agrees, and the packet isn't long there
abbrev pub GoesOnWith : ℕ → StartInRun → List ChainMember → ChainMember → Type 0
GoesOnWith limit p between m = Agrees limit (text_with p) (place_of_start p) (frame_begin (frames_up_to p ++ between)) m

-- its packet is whole
abbrev pub IsWholeIn : ℕ → StartInRun → Type 0
IsWholeIn limit p = IsWhole limit (text_with p) (place_of_start p) (frames_up_to p) p.later

-- the start as its frame has it
abbrev pub start_of : StartInRun → Start
start_of p = record { place = p.frame.base + length p.skipped; octets = p.octets }

-- the part that it becomes in a run with this end
abbrev pub part_of_start : ℕ → StartInRun → End → Part
part_of_start limit p end = start_part limit p.frame p.later end (start_of p)

-- a part with the octets of the text from the start up to, not with, `stop`
abbrev pub part_up_to : StartInRun → ℕ → Fate → Part
part_up_to p stop fate = part_at p.frame (start_of p) (text_with p) (place_of_start p) stop fate

-- the part up to the end of its own frame, lost there for this reason
abbrev pub part_in_frame : StartInRun → Reason → Part
part_in_frame p reason = part_up_to p (frame_end p.before p.frame) (Lost reason p.frame.number)

-- the part up to the frame after those that follow its own, lost there for this reason
abbrev pub part_before : StartInRun → List ChainMember → ChainMember → Reason → Part
part_before p between m reason = part_up_to p (frame_begin (frames_up_to p ++ between)) (Lost reason m.number)
