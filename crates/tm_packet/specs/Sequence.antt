-- The sequence notes of one pair of channel and application, by sequence flags and counts (CCSDS 133.0-B-2, section 4.1.3.4).
--
-- A member has a gap where its count is not the one before it plus 1. A group is a member with flags first, and the longest
-- stretch of continuations without a gap after it (`group_of`). The member after the stretch decides what becomes of the group
-- (`decided`). A last without a gap makes it whole; any other breaks it, by its gap if it has one, else by its flags. A group
-- that no member follows is open (`open_at_end`). A continuation or last in no group is a stray. Each note is given at the member
-- that decides it.
use Rattle.std.specs.Prelude.{ℕ, ◌+◌, ◌-◌, ◌%◌, Bool, true, false, not, ◌==◌, ◌&&◌, Option, Some, None, List, [], ◌∷◌, ◌++◌, map, if◌then◌else◌}
use Rattle.tm_packet.specs.declared.header.Flags.{Flags}
use Rattle.tm_packet.specs.declared.header.Flags.TheVariants as flag
use Rattle.tm_packet.specs.declared.notes.Note.{Note}
use Rattle.tm_packet.specs.declared.notes.Note.TheVariants.{Gap, Broken, Whole, Stray}
use Rattle.tm_packet.specs.declared.notes.Why.TheVariants as why
use Rattle.tm_packet.specs.declared.tracker.PairEntry.{PairEntry}
use Rattle.tm_packet.specs.Header.{Fields}

-- A member of a pair's list: its count and flags, and the count that it should have, after the one before it; the first of all
-- has none.
pub record PairMember : Type 0 where
  pub count : ℕ
  pub flags : Flags
  pub expected : Option ℕ

-- the count after this one
abbrev pub next_packet_count : ℕ → ℕ
next_packet_count count = (count + 1) % 16384

-- the headers of a pair as members, after one with this count
abbrev pub members_after : Option ℕ → List Fields → List PairMember
members_after before [] = []
members_after None (h ∷ hs) = record { count = h.count; flags = h.flags; expected = None } ∷ members_after (Some h.count) hs
members_after (Some before) (h ∷ hs) =
    record { count = h.count; flags = h.flags; expected = Some (next_packet_count before) } ∷ members_after (Some h.count) hs

-- a count other than the expected one, if one is expected
abbrev pub differs : Option ℕ → ℕ → Bool
differs None count = false
differs (Some expected) count = not (count == expected)

-- a member whose count is not the expected one
abbrev pub has_packet_gap : PairMember → Bool
has_packet_gap m = differs m.expected m.count

-- flags of a continuation
abbrev pub is_continuation : Flags → Bool
is_continuation flag.Continuation = true
is_continuation flag.First = false
is_continuation flag.Last = false
is_continuation flag.Unsegmented = false

-- a continuation without a gap goes on with what stands before it
abbrev pub goes_on : PairMember → Bool
goes_on m = is_continuation m.flags && not (has_packet_gap m)

-- the longest stretch of continuations without a gap that the list begins with
abbrev pub stretch : List PairMember → List PairMember
stretch [] = []
stretch (m ∷ ms) = if goes_on m then m ∷ stretch ms else []

-- A stretch of the list: a member that doesn't go on with the one before, and all members after it that do.
pub record Stretch : Type 0 where
  pub head : PairMember
  pub rest : List PairMember

abbrev pub stretches : List PairMember → List Stretch
stretches [] = []
stretches (m ∷ ms) = (if goes_on m then [] else record { head = m; rest = stretch ms } ∷ []) ++ stretches ms

-- the last count of a stretch, after a member with this count
abbrev pub last_packet_count : ℕ → List PairMember → ℕ
last_packet_count count [] = count
last_packet_count count (m ∷ ms) = last_packet_count m.count ms

-- a group's first and last count
pub record Group : Type 0 where
  pub first : ℕ
  pub last : ℕ

-- the first count of the group that a member with these flags begins
abbrev pub begun_group : Flags → ℕ → Option ℕ
begun_group flag.Continuation count = None
begun_group flag.First count = Some count
begun_group flag.Last count = None
begun_group flag.Unsegmented count = None

-- the first count of the group that a member begins
abbrev pub opened : PairMember → Option ℕ
opened m = begun_group m.flags m.count

-- the group of a first count, if there is one, with its last count
abbrev pub group_with : Option ℕ → ℕ → Option Group
group_with None last = None
group_with (Some first) last = Some (record { first = first; last = last })

-- a stretch is a group where its head has flags first
abbrev pub group_of : Stretch → Option Group
group_of p = group_with (opened p.head) (last_packet_count p.head.count p.rest)

-- the note of a gap, if there is one
abbrev pub gap_notes : Option ℕ → ℕ → List Note
gap_notes None found = []
gap_notes (Some expected) found =
    if found == expected then [] else Gap expected found ((found + 16384 - expected) % 16384) ∷ []

-- what ends a group: a member of these flags and count, without a gap
abbrev pub end_notes : Group → Flags → ℕ → List Note
end_notes g flag.Continuation count = []
end_notes g flag.First count = Broken g.first g.last why.First ∷ []
end_notes g flag.Last count = Whole g.first count ∷ []
end_notes g flag.Unsegmented count = Broken g.first g.last why.Unsegmented ∷ []

-- a member of these flags is in no group
abbrev pub stray : Flags → ℕ → List Note
stray flag.Continuation count = Stray count flag.Continuation ∷ []
stray flag.First count = []
stray flag.Last count = Stray count flag.Last ∷ []
stray flag.Unsegmented count = []

-- What comes after a group decides it: the head of the next stretch. After no group a continuation or last is a stray; so it is
-- after a gap.
abbrev pub decided : Option Group → PairMember → List Note
decided None m = stray m.flags m.count
decided (Some g) m = if has_packet_gap m then Broken g.first g.last why.Gap ∷ stray m.flags m.count else end_notes g m.flags m.count

-- the notes of a stretch's head, after a stretch that is this group or none
abbrev pub head_notes : Option Group → PairMember → List Note
head_notes before m = gap_notes m.expected m.count ++ decided before m

-- the notes of the others of a stretch: where it is no group they are strays
abbrev pub rest_notes : Option ℕ → PairMember → List Note
rest_notes None m = stray m.flags m.count
rest_notes (Some first) m = []

-- the notes of the stretches' members, after a stretch that is this group or none
abbrev pub notes_of_stretches : Option Group → List Stretch → List (List Note)
notes_of_stretches before [] = []
notes_of_stretches before (p ∷ ps) =
    (head_notes before p.head ∷ map (rest_notes (opened p.head)) p.rest) ++ notes_of_stretches (group_of p) ps

-- what a state has of a pair: nothing, or the last count, and the first count of the open group if there is one
abbrev pub packet_count_in : Option PairEntry → Option ℕ
packet_count_in None = None
packet_count_in (Some e) = Some e.count

-- the first count of the entry's open group
abbrev pub first_in : Option PairEntry → Option ℕ
first_in None = None
first_in (Some e) = e.first

-- the group of a state's entry, with the stretch after it
abbrev pub group_in : Option PairEntry → List PairMember → Option Group
group_in None ms = None
group_in (Some e) ms = group_with e.first (last_packet_count e.count ms)

-- The notes of a pair's members, a list for each: the state's entry stands in front, as the head of a first stretch.
abbrev pub notes_of_members : Option PairEntry → List PairMember → List (List Note)
notes_of_members entry ms =
    map (rest_notes (first_in entry)) (stretch ms) ++ notes_of_stretches (group_in entry (stretch ms)) (stretches ms)

-- the notes of a pair's headers, a list for each, after an entry or none
abbrev pub pair_notes : Option PairEntry → List Fields → List (List Note)
pair_notes entry hs = notes_of_members entry (members_after (packet_count_in entry) hs)

-- the first count of the group that is open where the list of stretches ends, after a stretch with this one or none
abbrev pub open_at_end : Option ℕ → List Stretch → Option ℕ
open_at_end first [] = first
open_at_end first (p ∷ ps) = open_at_end (opened p.head) ps

-- what is kept of a pair after its headers: the last one's count, and the group that is open where the list ends
abbrev pub kept_after : Option PairEntry → ℕ → List PairMember → PairEntry
kept_after entry count ms = record { count = last_packet_count count ms; first = open_at_end (first_in entry) (stretches ms) }

-- what is kept of a pair after its headers, which is what was kept before where there are none
abbrev pub pair_after : Option PairEntry → List Fields → Option PairEntry
pair_after entry [] = entry
pair_after entry (h ∷ hs) = Some (kept_after entry h.count (members_after (packet_count_in entry) (h ∷ hs)))
