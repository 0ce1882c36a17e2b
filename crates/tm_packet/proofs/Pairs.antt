-- A pair's headers, one by one.
use Rattle.std.proofs.Common.{◌≡◌, ℕ, suc, Bool, true, false, Option, Some, None, List, [], ◌∷◌, ◌++◌, length, map, refl, sym, ap, ◌∙◌}
use Rattle.std.specs.Prelude.{if◌then◌else◌}
use Rattle.tm_packet.specs.declared.tracker.PairEntry.{PairEntry}
use Rattle.tm_packet.specs.Header.{Fields}
use Rattle.tm_packet.specs.Sequence.{PairMember, goes_on, stretch, stretches, last_packet_count, group_with, group_in, opened, head_notes, rest_notes, notes_of_stretches, first_in, members_after, notes_of_members, pair_notes, pair_after, open_at_end, kept_after}
use Rattle.tm_packet.specs.code.Single.{member_after, member_notes, member_first, single_notes, single_after}

notes_by_test : (b : Bool) (entry : Option PairEntry) (m : PairMember) (ms : List PairMember)
    → map (rest_notes (first_in entry)) (if b then m ∷ stretch ms else [])
    ++ notes_of_stretches (group_in entry (if b then m ∷ stretch ms else [])) ((if b then [] else record { head = m; rest = stretch ms } ∷ []) ++ stretches ms)
    ≡ (if b then rest_notes (first_in entry) m else head_notes (group_in entry []) m)
    ∷ (map (rest_notes (if b then first_in entry else opened m)) (stretch ms)
    ++ notes_of_stretches (group_with (if b then first_in entry else opened m) (last_packet_count m.count (stretch ms))) (stretches ms))
notes_by_test true None m ms = refl
notes_by_test true (Some e) m ms = refl
notes_by_test false entry m ms = refl

pub notes_of_members-cons : (entry : Option PairEntry) (m : PairMember) (ms : List PairMember)
    → notes_of_members entry (m ∷ ms) ≡ member_notes entry m ∷ notes_of_members (Some (record { count = m.count; first = member_first entry m })) ms
notes_of_members-cons entry m ms = notes_by_test (goes_on m) entry m ms

-- a header's notes are settled by those before it, and what comes after goes on from what it leaves
pub pair_notes-cons : (entry : Option PairEntry) (h : Fields) (hs : List Fields)
    → pair_notes entry (h ∷ hs) ≡ single_notes entry h ∷ pair_notes (Some (single_after entry h)) hs
pair_notes-cons None h hs = notes_of_members-cons None (member_after None h) (members_after (Some h.count) hs)
pair_notes-cons (Some e) h hs = notes_of_members-cons (Some e) (member_after (Some e) h) (members_after (Some h.count) hs)

open_by_test : (b : Bool) (first : Option ℕ) (m : PairMember) (ms : List PairMember)
    → open_at_end first ((if b then [] else record { head = m; rest = stretch ms } ∷ []) ++ stretches ms) ≡ open_at_end (if b then first else opened m) (stretches ms)
open_by_test true first m ms = refl
open_by_test false first m ms = refl

kept-cons : (entry : Option PairEntry) (m : PairMember) (ms : List PairMember)
    → kept_after entry m.count (m ∷ ms) ≡ kept_after (Some (record { count = m.count; first = member_first entry m })) m.count ms
kept-cons entry m ms =
    rw (open_by_test (goes_on m) (first_in entry) m ms) refl

pub pair_after-cons : (entry : Option PairEntry) (h : Fields) (hs : List Fields)
    → pair_after entry (h ∷ hs) ≡ pair_after (Some (single_after entry h)) hs
pair_after-cons None h [] = ap Some (kept-cons None (member_after None h) [])
pair_after-cons (Some e) h [] = ap Some (kept-cons (Some e) (member_after (Some e) h) [])
pair_after-cons None h (k ∷ hs) = ap Some (kept-cons None (member_after None h) (members_after (Some h.count) (k ∷ hs)))
pair_after-cons (Some e) h (k ∷ hs) = ap Some (kept-cons (Some e) (member_after (Some e) h) (members_after (Some h.count) (k ∷ hs)))

pub pair_notes-append : (entry : Option PairEntry) (xs ys : List Fields) → pair_notes entry (xs ++ ys) ≡ pair_notes entry xs ++ pair_notes (pair_after entry xs) ys
pair_notes-append entry [] ys = refl
pair_notes-append entry (x ∷ xs) ys =
    pair_notes-cons entry x (xs ++ ys)
    ∙ ap (λ r. single_notes entry x ∷ r) (pair_notes-append (Some (single_after entry x)) xs ys)
    ∙ ap (λ e. single_notes entry x ∷ (pair_notes (Some (single_after entry x)) xs ++ pair_notes e ys)) (sym (pair_after-cons entry x xs))
    ∙ ap (λ r. r ++ pair_notes (pair_after entry (x ∷ xs)) ys) (sym (pair_notes-cons entry x xs))

pub pair_after-append : (entry : Option PairEntry) (xs ys : List Fields) → pair_after entry (xs ++ ys) ≡ pair_after (pair_after entry xs) ys
pair_after-append entry [] ys = refl
pair_after-append entry (x ∷ xs) ys =
    rw (pair_after-cons entry x (xs ++ ys), pair_after-cons entry x xs) (pair_after-append (Some (single_after entry x)) xs ys)

pub length-pair_notes : (entry : Option PairEntry) (xs : List Fields) → length (pair_notes entry xs) ≡ length xs
length-pair_notes entry [] = refl
length-pair_notes entry (x ∷ xs) = ap length (pair_notes-cons entry x xs) ∙ ap suc (length-pair_notes (Some (single_after entry x)) xs)
