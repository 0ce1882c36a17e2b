-- The entries that octets spell, one by one.
use Rattle.std.proofs.Common.{◌≡◌, ℕ, zero, suc, ◌+◌, ◌-◌, ◌*◌, ◌%◌, ◌<◌, ◌≤◌, Bool, true, false, ◌||◌, ◌==◌, Option, Some, None, Ok, length, subst, List, [], ◌∷◌, drop, set, refl, sym, ap, arith}
use Rattle.std.specs.Prelude.{nat_lt, replicate, if◌then◌else◌}
use Rattle.std.proofs.lemmas.Bool.{ne_eqb, eq-eqb, ltb-false}
use Rattle.std.proofs.lemmas.Bool.Decides.{nat_tests}
use Rattle.std.proofs.lemmas.List.{drop-drop}
use Rattle.tm_packet.specs.declared.tracker.PairEntry.{PairEntry}
use Rattle.tm_packet.specs.declared.tracker.RawEntry.{RawEntry}
use Rattle.tm_packet.specs.declared.tracker.TrackerFault.{TrackerFault}
use Rattle.tm_packet.specs.declared.tracker.TrackerFault.TheVariants.{Order, Value}
use Rattle.tm_packet.specs.Merge.{Entries, no_entries}
use Rattle.tm_packet.specs.Spelling.{DecodedEntries, entries_decoding_of, decoding_with, raw_of, raws, has_values, rises, fault_after, first_count_of, entries_at_keys, state_of}
use Rattle.tm_bits.specs.Bits.{two_at}

-- the entries from one on are it and those after it
pub raws-step : (n at : ℕ) (xs : List ℕ) → at < n
    → raws (n - at) (drop (2 + 6 * at) xs) ≡ raw_of (drop (2 + 6 * at) xs) ∷ raws (n - (at + 1)) (drop (2 + 6 * (at + 1)) xs)
raws-step n at xs h =
    let one : n - at ≡ suc (n - (at + 1)) = omega arith in
    let next : 2 + 6 * at + 6 ≡ 2 + 6 * (at + 1) = omega arith in
    rw (one, drop-drop 6 (2 + 6 * at) xs, next) refl

-- the fault of the entries from one on: of its values, of its order, or of those after it
pub fault_more : (before : Option ℕ) (n at : ℕ) (xs : List ℕ) → at < n
    → fault_after before (raws (n - at) (drop (2 + 6 * at) xs))
    ≡ (if has_values (raw_of (drop (2 + 6 * at) xs)) then (if rises before (raw_of (drop (2 + 6 * at) xs)).key then fault_after (Some (raw_of (drop (2 + 6 * at) xs)).key) (raws (n - (at + 1)) (drop (2 + 6 * (at + 1)) xs)) else Some Order) else Some Value)
fault_more before n at xs h =
    rw (raws-step n at xs h) refl

-- where there is no fault the first entry has its values and its order, and there is none after it
pub all_right : (before : Option ℕ) (r : RawEntry) (rs : List RawEntry) → fault_after before (r ∷ rs) ≡ None
    → (has_values r ≡ true) × (rises before r.key ≡ true) × (fault_after (Some r.key) rs ≡ None)
all_right before r rs h = grind (arith, nat_tests)

valued_each : (n i : ℕ) (before : Option ℕ) (xs : List ℕ) → fault_after before (raws n xs) ≡ None → i < n → has_values (raw_of (drop (6 * i) xs)) ≡ true
valued_each zero i before xs h inside = absurd (omega arith)
valued_each (suc n) zero before xs h inside = (all_right before (raw_of xs) (raws n (drop 6 xs)) h).0
valued_each (suc n) (suc i) before xs h inside =
    let behind : 6 * suc i ≡ 6 + 6 * i = omega arith in
    rw (behind, ← drop-drop (6 * i) 6 xs) (valued_each n i (Some (raw_of xs).key) (drop 6 xs) (all_right before (raw_of xs) (raws n (drop 6 xs)) h).2 (omega arith))

-- each entry of faultless octets has its values
pub valued_at : (n i : ℕ) (xs : List ℕ) (r : RawEntry) → r ≡ raw_of (drop (2 + 6 * i) xs) → fault_after None (raws n (drop 2 xs)) ≡ None → i < n → has_values r ≡ true
valued_at n i xs r e h inside = rw (e, ← drop-drop (6 * i) 2 xs) (valued_each n i None (drop 2 xs) h inside)

-- what holds of entries that are all there and have no fault holds of what is read
pub read_faultless : (P : DecodedEntries → Type 0) (xs : List ℕ) (d : DecodedEntries) → entries_decoding_of xs ≡ Ok d
    → (2 + 6 * two_at xs 0 ≤ length xs → fault_after None (raws (two_at xs 0) (drop 2 xs)) ≡ None
    → P (record { entries = state_of (raws (two_at xs 0) (drop 2 xs)); octets = 2 + 6 * two_at xs 0 })) → P d
read_faultless P xs d e holds =
    by_tests (nat_lt (length xs) 2) (nat_lt (length xs) (2 + 6 * two_at xs 0)) refl (fault_after None (raws (two_at xs 0) (drop 2 xs))) refl e
  where
    by_tests : (b c : Bool) → nat_lt (length xs) (2 + 6 * two_at xs 0) ≡ c → (found : Option TrackerFault) → fault_after None (raws (two_at xs 0) (drop 2 xs)) ≡ found
        → decoding_with (if b then None else if c then None else Some (two_at xs 0)) xs ≡ Ok d → P d
    by_tests true c is found none e = cc
    by_tests false true is found none e = cc
    by_tests false false is (Some fault) none e = let refused = rw none at e in cc
    by_tests false false is None none e = let read = rw none at e in subst P (cc read) (holds (ltb-false (length xs) (2 + 6 * two_at xs 0) is) none)

-- the numbers are those of an entry
pub record AreValues (r : RawEntry) : Type 0 where
  pub key : r.key < 16384
  pub packets : (r.key % 2048 == 2047) ≡ false
  pub count : r.count < 16384
  pub first : (nat_lt r.first 16384 || (r.first == 65535)) ≡ true

pub values_of : (r : RawEntry) → has_values r ≡ true → AreValues r
values_of r h = grind (arith, nat_tests)

abbrev pub last_in : RawEntry → PairEntry
last_in r = record { count = r.count; first = first_count_of r.first }

-- an entry says nothing of greater keys
pub places-above : (n k : ℕ) (r : RawEntry) (rs : List RawEntry) → r.key < k → entries_at_keys n k (r ∷ rs) ≡ entries_at_keys n k rs
places-above zero k r rs h = refl
places-above (suc n) k r rs h =
    rw (ne_eqb r.key k (λ (e : r.key ≡ k). omega arith), places-above n (k + 1) r rs (omega arith)) refl

places-set : (n k i : ℕ) (r : RawEntry) (rs : List RawEntry) → r.key ≡ k + i → i < n
    → set (entries_at_keys n k rs) i (Some (last_in r)) ≡ entries_at_keys n k (r ∷ rs)
places-set zero k i r rs e h = absurd (omega arith)
places-set (suc n) k zero r rs e h = rw (eq-eqb r.key k (omega arith), places-above n (k + 1) r rs (omega arith)) refl
places-set (suc n) k (suc i) r rs e h =
    rw (ne_eqb r.key k (λ (same : r.key ≡ k). omega arith), places-set n (k + 1) i r rs (omega arith) (omega arith)) refl

-- one more entry in front is put in its place
pub state-set : (r : RawEntry) (rs : List RawEntry) → r.key < 16384
    → set (state_of rs) r.key (Some (last_in r)) ≡ state_of (r ∷ rs)
unfolding state_of
state-set r rs h = places-set 16384 0 r.key r rs (omega arith) h

places-none : (n k : ℕ) → entries_at_keys n k [] ≡ replicate n None
places-none zero k = refl
places-none (suc n) k = ap (λ l. None ∷ l) (places-none n (k + 1))

pub state-none : no_entries ≡ state_of []
unfolding no_entries state_of
state-none = sym (places-none 16384 0)

-- no entries are read, and all places are empty
pub state-begin : (s : Entries) (n : ℕ) (xs : List ℕ) → s ≡ no_entries → s ≡ state_of (raws (n - n) (drop (2 + 6 * n) xs))
state-begin s n xs h =
    let none : n - n ≡ 0 = omega arith in rw (h, none) state-none

-- the entries from one on are put where those after it are
pub state-step : (old new : Entries) (n at : ℕ) (xs : List ℕ) (r : RawEntry) → 1 ≤ at → at ≤ n
    → old ≡ state_of (raws (n - at) (drop (2 + 6 * at) xs)) → r ≡ raw_of (drop (2 + 6 * (at - 1)) xs)
    → new ≡ set old r.key (Some (last_in r)) → fault_after None (raws n (drop 2 xs)) ≡ None
    → new ≡ state_of (raws (n - (at - 1)) (drop (2 + 6 * (at - 1)) xs))
state-step old new n at xs r some inside before e set_entry faultless =
    let back : at - 1 + 1 ≡ at = omega arith in
    let values : AreValues r = values_of r (valued_at n (at - 1) xs r e faultless (omega arith)) in
    rw (set_entry, before, state-set r (raws (n - at) (drop (2 + 6 * at) xs)) values.key, e, raws-step n (at - 1) xs (omega arith), back) refl

pub ruleset entries_set = (state-begin, state-step, valued_at)
