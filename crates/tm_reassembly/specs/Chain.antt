-- The chain of a channel, its gaps, and its runs (CCSDS 132.0-B-3, 4.1.2.6 and 4.1.2.7); and the master chain, of all channels.
use Rattle.std.specs.Prelude.{ℕ, ◌+◌, ◌%◌, ◌==◌, Bool, true, false, not, Option, None, Some, Ok, Err, List, [], ◌∷◌, ◌++◌, slice_get, if◌then◌else◌}
use Rattle.tm_frame.specs.Frame.{GoodFrame, is_vca_kind}
use Rattle.tm_frame.specs.declared.frame.Kind.TheVariants as got
use Rattle.tm_frame.specs.declared.frame.Kind.{Kind}
use Rattle.tm_reassembly.specs.Readings.{FrameReading}
use Rattle.tm_items.specs.declared.items.Reason.TheVariants as why
use Rattle.tm_items.specs.declared.items.Reason.{Reason}
use Rattle.tm_reassembly.specs.State.{State, Last, Tail}

-- A frame of a chain: its record's number and count, whether it is a VCA frame, the place of the first packet that starts in its
-- field, and the field. `base` is 0 but for the stem, where it is the place of the field's first octet in the data field of its
-- record.
pub record ChainMember : Type 0 where
  pub number : ℕ
  pub count : ℕ
  pub is_vca : Bool
  pub place : Option ℕ
  pub field : List ℕ
  pub base : ℕ

-- the place of the first packet that starts in the field, if one does
abbrev pub start_place_of : Kind → Option ℕ
start_place_of (got.Packets place) = Some place
start_place_of got.NoStart = None
start_place_of got.Idle = None
start_place_of got.Vca = None

-- the field of an idle-only frame counts as empty
abbrev pub counted_field : Kind → List ℕ → List ℕ
counted_field (got.Packets place) field = field
counted_field got.NoStart field = field
counted_field got.Idle field = []
counted_field got.Vca field = field

-- a good frame, as a member
abbrev pub member : ℕ → GoodFrame → ChainMember
member number f =
    record {
      number = number;
      count = f.count;
      is_vca = is_vca_kind f.kind;
      place = start_place_of f.kind;
      field = counted_field f.kind f.field;
      base = 0;
    }

-- The stem: what a state keeps of a channel, as a member before the others. With a tail, its field is the tail, a packet starts at
-- its front, and `number` and `base` are the record and the place where the tail begins. Without one, its field is empty and it has
-- no place; its number then says nothing.
abbrev pub stem_with : ℕ → Option Tail → ChainMember
stem_with count None = record { number = 0; count = count; is_vca = false; place = None; field = []; base = 0 }
stem_with count (Some t) =
    record { number = t.first; count = count; is_vca = false; place = Some 0; field = t.octets; base = t.place }

-- the stem, where the state has a last count
abbrev pub stem_of : Option (Option Last) → List ChainMember
stem_of None = []
stem_of (Some None) = []
stem_of (Some (Some last)) = stem_with last.count last.tail ∷ []

-- the member that a record gives, if it is a good frame of the channel
abbrev pub member_of : ℕ → ℕ → FrameReading → List ChainMember
member_of channel number (Err fault) = []
member_of channel number (Ok f) = if f.channel == channel then member number f ∷ [] else []

-- the members among records that are numbered from a number on
abbrev pub frames : ℕ → ℕ → List FrameReading → List ChainMember
frames channel number [] = []
frames channel number (r ∷ rs) = member_of channel number r ++ frames channel (number + 1) rs

-- the chain of a channel after a state
abbrev pub chain : State → ℕ → List FrameReading → List ChainMember
chain s channel records = stem_of (slice_get s.channels channel) ++ frames channel s.records records

-- A good frame, as a member of the master chain: its count is the one over all channels together (4.1.2.5). Only the number and
-- the count of such a member say anything.
abbrev pub master_member : ℕ → GoodFrame → ChainMember
master_member number f = record (member number f) { count = f.master_count }

-- the member that a record gives, if it is a good frame, of whatever channel
abbrev pub master_member_of : ℕ → FrameReading → List ChainMember
master_member_of number (Err fault) = []
master_member_of number (Ok f) = master_member number f ∷ []

-- the members among records that are numbered from a number on
abbrev pub master_frames : ℕ → List FrameReading → List ChainMember
master_frames number [] = []
master_frames number (r ∷ rs) = master_member_of number r ++ master_frames (number + 1) rs

-- the stem of the master chain, where the state has a last master channel count
abbrev pub master_stem : Option ℕ → List ChainMember
master_stem None = []
master_stem (Some count) = stem_with count None ∷ []

-- the master chain after a state: all good frames, whether their channels are chosen or not
abbrev pub master_chain : State → List FrameReading → List ChainMember
master_chain s records = master_stem s.master ++ master_frames s.records records

-- what a member's count should be, after one with this count
abbrev pub next_frame_count : ℕ → ℕ
next_frame_count count = (count + 1) % 256

-- whether a member has a gap, after one with this count; the first one has none
abbrev pub has_frame_gap : Option ℕ → ChainMember → Bool
has_frame_gap None m = false
has_frame_gap (Some before) m = not (m.count == next_frame_count before)

-- how a run ends: with the records, or at a member, and why
pub data End : Type 0 where
  Unended : End
  Ended : (reason : Reason) (seen : ℕ) → End

pub record Run : Type 0 where
  pub members : List ChainMember
  pub end : End

-- the runs of a chain from some member on: the current one, which may go on from the member before, and the others
pub record Runs : Type 0 where
  pub current : Run
  pub others : List Run

-- an empty run that ended for this reason, before the others
abbrev pub cut : Reason → ℕ → Runs → Runs
cut reason seen rest = record { current = record { members = []; end = Ended reason seen }; others = rest.current ∷ rest.others }

-- a chain is cut at each VCA frame, which is left out
abbrev pub with_member : Bool → ChainMember → Runs → Runs
with_member true m rest = cut why.Vca m.number rest
with_member false m rest = record { current = record { members = m ∷ rest.current.members; end = rest.current.end }; others = rest.others }

-- and before each member with a gap
abbrev pub cut_before : Bool → ChainMember → Runs → Runs
cut_before true m rest = cut why.Gap m.number rest
cut_before false m rest = rest

abbrev pub runs_after : Option ℕ → List ChainMember → Runs
runs_after before [] = record { current = record { members = []; end = Unended }; others = [] }
runs_after before (m ∷ ms) = cut_before (has_frame_gap before m) m (with_member m.is_vca m (runs_after (Some m.count) ms))

-- all runs of a chain
abbrev pub runs : List ChainMember → List Run
runs ms = (runs_after None ms).current ∷ (runs_after None ms).others
