-- One header after a state, without looking ahead: for private contracts. That these are what the definitions give for a list of one
-- header is proved.
use Rattle.std.specs.Prelude.{ℕ, ◌+◌, ◌-◌, ◌%◌, Option, Some, None, List, [], ◌∷◌, ◌++◌, if◌then◌else◌}
use Rattle.tm_packet.specs.declared.header.Flags.{Flags}
use Rattle.tm_packet.specs.declared.notes.Note.{Note}
use Rattle.tm_packet.specs.declared.notes.Note.TheVariants.{Gap, Broken}
use Rattle.tm_packet.specs.declared.notes.Why.TheVariants as why
use Rattle.tm_packet.specs.declared.tracker.PairEntry.{PairEntry}
use Rattle.tm_packet.specs.Header.{Fields}
use Rattle.tm_packet.specs.Sequence.{PairMember, next_packet_count, goes_on, rest_notes, head_notes, stray, differs, end_notes, first_in, group_in, opened}

abbrev pub expected_after : Option PairEntry → Option ℕ
expected_after None = None
expected_after (Some e) = Some (next_packet_count e.count)

abbrev pub member_after : Option PairEntry → Fields → PairMember
member_after entry h = record { count = h.count; flags = h.flags; expected = expected_after entry }

abbrev pub member_notes : Option PairEntry → PairMember → List Note
member_notes entry m = if goes_on m then rest_notes (first_in entry) m else head_notes (group_in entry []) m

abbrev pub member_first : Option PairEntry → PairMember → Option ℕ
member_first entry m = if goes_on m then first_in entry else opened m

abbrev pub single_notes : Option PairEntry → Fields → List Note
single_notes entry h = member_notes entry (member_after entry h)

abbrev pub single_after : Option PairEntry → Fields → PairEntry
single_after entry h = record { count = h.count; first = member_first entry (member_after entry h) }

abbrev pub without_gap : Option ℕ → ℕ → Flags → ℕ → List Note
without_gap None last flags count = stray flags count
without_gap (Some first) last flags count = end_notes (record { first = first; last = last }) flags count

abbrev pub lost : Option ℕ → ℕ → List Note
lost None last = []
lost (Some first) last = Broken first last why.Gap ∷ []

-- the notes of a member without a gap, and of one with a gap, by cases
abbrev pub notes_without_gap : PairEntry → Flags → ℕ → List Note
notes_without_gap e flags count = without_gap e.first e.count flags count

abbrev pub notes_behind_gap : PairEntry → ℕ → Flags → ℕ → List Note
notes_behind_gap e expected flags count =
    Gap expected count ((count + 16384 - expected) % 16384) ∷ (lost e.first e.count ++ stray flags count)

-- the first count of the group that a continuation of this count goes on with
abbrev pub first_kept : Option PairEntry → ℕ → Option ℕ
first_kept entry count = if differs (expected_after entry) count then None else first_in entry
