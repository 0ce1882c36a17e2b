-- Places of the first keys, marks of blocks, and walks that pass over blocks without a mark and end after the last place.
use Rattle.std.proofs.Common.{◌≡◌, ◌≢◌, ℕ, zero, suc, ◌+◌, ◌-◌, ◌*◌, ◌/◌, ◌<◌, ◌≤◌, Bool, true, false, Some, None, List, [], ◌∷◌, ◌++◌, Option, length, take, drop, get_or, set, refl, sym, ap, ◌∙◌, arith}
use Rattle.std.proofs.Math.ListN.{replicate}
use Rattle.std.proofs.lemmas.List.{get_or-set_same, get_or-set_other, get_or_append_left, get_or-append_right, get_or-replicate, length-append, length-replicate, length-set, replicate-append-replicate, set-append_left, append_assoc, take_all}
use Rattle.tm_packet.specs.declared.tracker.PairEntry.{PairEntry}
use Rattle.tm_packet.specs.declared.notes.Note.TheVariants.{Broken}
use Rattle.tm_packet.specs.declared.notes.Why.TheVariants as why
use Rattle.tm_packet.specs.declared.tracker.Unclosed.{Unclosed}
use Rattle.tm_packet.specs.Merge.{Entries, no_entries, unclosed, unclosed_with, next_unclosed_of}
use Rattle.tm_packet.specs.Spelling.{KeyedEntry, entries_from}
use Rattle.tm_packet.specs.code.Blocks.{IsTable, AreMarked, entries_of}
use Rattle.tm_packet.proofs.States.{none_at}

some_not_none : (e : PairEntry) → Some e ≡ None → ⊥
some_not_none e h = cc

-- a place without an entry
none_here : (at k : ℕ) (s : Entries) → get_or s at None ≡ None → entries_from k (drop at s) ≡ entries_from (k + 1) (drop (suc at) s)
none_here zero k [] h = refl
none_here (suc at) k [] h = refl
none_here zero k (None ∷ s) h = refl
none_here zero k (Some e ∷ s) h = absurd (some_not_none e h)
none_here (suc at) k (x ∷ s) h = none_here at k s h

-- places without an entry
none_among : (n at : ℕ) (s : Entries) → ((i : ℕ) → i < n → get_or s (at + i) None ≡ None)
    → entries_from at (drop at s) ≡ entries_from (at + n) (drop (at + n) s)
none_among zero at s none = let z : at + 0 ≡ at = omega arith in rw z refl
none_among (suc n) at s none =
    let here : get_or s at None ≡ None = (let z : at + 0 ≡ at = omega arith in rw z at (none 0 (omega arith))) in
    let one : suc at ≡ at + 1 = omega arith in
    let all : at + suc n ≡ at + 1 + n = omega arith in
    rw (none_here at at s here, one, all)
    (none_among n (at + 1) s (λ i inside. let z : at + 1 + i ≡ at + suc i = omega arith in rw z (none (suc i) (omega arith))))

-- the rest of a block without a mark
block_passed : (marks : List Bool) (s : Entries) (block at : ℕ) → AreMarked marks s → get_or marks block false ≡ false → at / 64 ≡ block
    → entries_from at (drop at s) ≡ entries_from (64 * (block + 1)) (drop (64 * (block + 1)) s)
block_passed marks s block at marked unmarked h =
    let all : at + (64 * (block + 1) - at) ≡ 64 * (block + 1) = omega arith in
    none_among (64 * (block + 1) - at) at s (λ i inside.
    let same : (at + i) / 64 ≡ block = omega arith in
    marked.none (at + i) (rw same unmarked))
    ∙ ap (λ n. entries_from n (drop n s)) all

-- keys without an entry
none_of : (n k : ℕ) → entries_from k (replicate n None) ≡ []
none_of zero k = refl
none_of (suc n) k = none_of n (k + 1)

-- what is left of them
none_left : (n at k : ℕ) → entries_from k (drop at (replicate n None)) ≡ []
none_left n zero k = none_of n k
none_left zero (suc at) k = refl
none_left (suc n) (suc at) k = none_left n at k

marked_none : (marks : List Bool) → AreMarked marks no_entries
marked_none marks = record { none = λ key h. none_at key }

true_not_false : true ≡ false → ⊥
true_not_false h = cc

-- an entry is put, and its block marked
marked_put : (marks : List Bool) (s : Entries) (block key : ℕ) (e : Option PairEntry) → AreMarked marks s → block ≡ key / 64 → block < length marks
    → AreMarked (set marks block true) (set s key e)
marked_put marks s block key e marked at inside = record {
  none = λ (other : ℕ) (h : get_or (set marks block true) (other / 64) false ≡ false).
      let apart : other / 64 ≢ block = (λ (same : other / 64 ≡ block). true_not_false (sym (get_or-set_same marks block true false inside) ∙ rw same at h)) in
      get_or-set_other s key other e None (λ (same : other ≡ key). apart (ap (λ n. n / 64) same ∙ sym at))
      ∙ marked.none other (sym (get_or-set_other marks block (other / 64) true false apart) ∙ h);
}

-- an entry is put in the place of one
marked_change : (marks : List Bool) (s : Entries) (key : ℕ) (e : Option PairEntry) → AreMarked marks s → get_or s key None ≢ None
    → AreMarked marks (set s key e)
marked_change marks s key e marked some = record {
  none = λ (other : ℕ) (h : get_or marks (other / 64) false ≡ false).
      let none : get_or s other None ≡ None = marked.none other h in
      get_or-set_other s key other e None (λ (same : other ≡ key). some (rw same at none)) ∙ none;
}

-- no place was made
pub entries_none : (p : Entries) → p ≡ [] → entries_of p ≡ no_entries
unfolding entries_of no_entries
entries_none p none = rw none refl

-- one entry for each key
pub length-entries_of : (p : Entries) → length p ≤ 16384 → length (entries_of p) ≡ 16384
unfolding entries_of
length-entries_of p most =
    length-append p (replicate (16384 - length p) None)
    ∙ rw (length-replicate {A = Option PairEntry} (16384 - length p) None) (omega arith)

-- a key whose place was made
pub entry_in_place : (p : Entries) (key : ℕ) → key < length p → get_or (entries_of p) key None ≡ get_or p key None
unfolding entries_of
entry_in_place p key inside = get_or_append_left p (replicate (16384 - length p) None) None key inside

-- a key whose place wasn't made
pub entry_nowhere : (p : Entries) (key : ℕ) → length p ≤ key → key < 16384 → get_or (entries_of p) key None ≡ None
unfolding entries_of
entry_nowhere p key after inside =
    get_or-append_right p (replicate (16384 - length p) None) (length p) key None refl after
    ∙ get_or-replicate (16384 - length p) (key - length p) None None (omega arith)

-- it has no entry
pub nowhere_some : (p : Entries) (key : ℕ) (e : PairEntry) → length p ≤ key → key < 16384 → get_or (entries_of p) key None ≡ Some e → false ≡ true
nowhere_some p key e after inside some = absurd (some_not_none e (sym some ∙ entry_nowhere p key after inside))

-- an entry is put in a place
pub entries_set : (p : Entries) (key : ℕ) (e : Option PairEntry) → key < length p → entries_of (set p key e) ≡ set (entries_of p) key e
unfolding entries_of
entries_set p key e inside =
    rw (length-set p key e) (sym (set-append_left p (replicate (16384 - length p) None) key e inside))

-- without a place
pub table_none : (marks : List Bool) (p : Entries) → length marks ≡ 256 → p ≡ [] → IsTable marks p
table_none marks p all none = record { most = rw none (omega arith); all = all; marked = rw (entries_none p none) (marked_none marks) }

-- an entry is put in a place, and its block marked
pub table_put : (marks : List Bool) (p : Entries) (block key : ℕ) (e : Option PairEntry) → IsTable marks p → key < length p → block ≡ key / 64
    → IsTable (set marks block true) (set p key e)
table_put marks p block key e table inside at =
    let most : length p ≤ 16384 = table.most in
    let all : length marks ≡ 256 = table.all in
    record {
      most = rw (length-set p key e) most;
      all = length-set marks block true ∙ all;
      marked = rw (entries_set p key e inside) (marked_put marks (entries_of p) block key e table.marked at (omega arith));
    }

-- an entry is put in the place of one
pub table_change : (marks : List Bool) (p : Entries) (key : ℕ) (before : PairEntry) (e : Option PairEntry) → IsTable marks p → key < length p
    → get_or p key None ≡ Some before → IsTable marks (set p key e)
table_change marks p key before e table inside stood =
    let some : get_or (entries_of p) key None ≢ None = (λ none. some_not_none before (sym stood ∙ sym (entry_in_place p key inside) ∙ none)) in
    record {
      most = rw (length-set p key e) table.most;
      all = table.all;
      marked = rw (entries_set p key e inside) (marked_change marks (entries_of p) key e table.marked some);
    }

-- the entries are the same in more places
pub table_more : (marks : List Bool) (p q : Entries) → IsTable marks p → length q ≤ 16384 → entries_of q ≡ entries_of p → IsTable marks q
table_more marks p q table most same = record { most = most; all = table.all; marked = rw same table.marked }

-- the rest of a block without a mark
pub table_passed : (marks : List Bool) (p : Entries) (block at : ℕ) → IsTable marks p → get_or marks block false ≡ false → at / 64 ≡ block
    → entries_from at (drop at (entries_of p)) ≡ entries_from (64 * (block + 1)) (drop (64 * (block + 1)) (entries_of p))
table_passed marks p block at table unmarked h = block_passed marks (entries_of p) block at table.marked unmarked h

-- after the last place
after_places : (n : ℕ) (p : Entries) (at k : ℕ) → length p ≤ at → entries_from k (drop at (p ++ replicate n None)) ≡ []
after_places n [] at k after = none_left n at k
after_places n (x ∷ p) zero k after = absurd (omega arith)
after_places n (x ∷ p) (suc at) k after = after_places n p at k (omega arith)

pub nothing_after : (p : Entries) (at k : ℕ) → length p ≤ at → entries_from k (drop at (entries_of p)) ≡ []
unfolding entries_of
nothing_after p at k after = after_places (16384 - length p) p at k after

-- more places are made
pub entries_more : (p : Entries) (many : ℕ) → length p ≤ many → many ≤ 16384
    → entries_of (take many p ++ replicate (many - length p) None) ≡ entries_of p
unfolding entries_of
entries_more p many more most =
    let all : take many p ≡ p = take_all many p more in
    let length_now : length (p ++ replicate (many - length p) None) ≡ many =
    length-append p (replicate (many - length p) None) ∙ rw (length-replicate {A = Option PairEntry} (many - length p) None) (omega arith) in
    let rest : (many - length p) + (16384 - many) ≡ 16384 - length p = omega arith in
    rw (all, length_now) (append_assoc p (replicate (many - length p) None) (replicate (16384 - many) None)
    ∙ ap (λ r. p ++ r) (replicate-append-replicate (many - length p) (16384 - many) None ∙ ap (λ n. replicate n None) rest))

-- the open groups of entries
abbrev opens : List KeyedEntry → List Unclosed
opens [] = []
opens (e ∷ es) = unclosed_with e.key e.last.count e.last.first ++ opens es

unclosed_opens : (k : ℕ) (s : Entries) → unclosed k s ≡ opens (entries_from k s)
unclosed_opens k [] = refl
unclosed_opens k (None ∷ s) = unclosed_opens (k + 1) s
unclosed_opens k (Some e ∷ s) = rw (unclosed_opens (k + 1) s) refl

open_with : (s : Entries) (at key : ℕ) (last : PairEntry) → entries_from at (drop at s) ≡ record { key = key; last = last } ∷ entries_from (key + 1) (drop (key + 1) s)
    → unclosed at (drop at s) ≡ unclosed_with key last.count last.first ++ unclosed (key + 1) (drop (key + 1) s)
open_with s at key last found = rw (unclosed_opens at (drop at s), found, unclosed_opens (key + 1) (drop (key + 1) s)) refl

-- the next entry has an open group
pub open_here : (s : Entries) (at key first : ℕ) (last : PairEntry) → entries_from at (drop at s) ≡ record { key = key; last = last } ∷ entries_from (key + 1) (drop (key + 1) s)
    → last.first ≡ Some first → next_unclosed_of s at ≡ Some (record { key = key; note = Broken first last.count why.Close })
open_here s at key first last found some = rw (open_with s at key last found, some) refl

-- it has none
pub open_later : (s : Entries) (at key : ℕ) (last : PairEntry) → entries_from at (drop at s) ≡ record { key = key; last = last } ∷ entries_from (key + 1) (drop (key + 1) s)
    → last.first ≡ None → next_unclosed_of s at ≡ next_unclosed_of s (key + 1)
open_later s at key last found none = rw (open_with s at key last found, none) refl

-- no entry follows
pub open_nowhere : (s : Entries) (at : ℕ) → entries_from at (drop at s) ≡ [] → next_unclosed_of s at ≡ None
open_nowhere s at none = rw (unclosed_opens at (drop at s), none) refl

pub ruleset open_next = (open_here, open_later, open_nowhere)

pub ruleset tables = (table_none, table_put, table_change, table_more)

pub ruleset passed = (table_passed, nothing_after)

pub ruleset no_places = (entries_none)

pub ruleset placed = (entry_in_place, entry_nowhere, nowhere_some, entries_set, length-entries_of)

pub ruleset more_places = (entries_more)
