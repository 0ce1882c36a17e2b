-- What is read are valid entries.
use Rattle.std.proofs.Common.{◌≡◌, ℕ, zero, suc, ◌+◌, ◌*◌, ◌%◌, Bool, true, false, ◌||◌, Ok, Option, Some, None, List, [], ◌∷◌, length, get_or, refl, ap, arith, ltb, eqb}
use Rattle.std.proofs.lemmas.Bool.{cond_both, ltb-true, eqb-true, eqb-false}
use Rattle.std.specs.List.{AllByRecursion}
use Rattle.tm_packet.specs.declared.tracker.PairEntry.{PairEntry}
use Rattle.tm_packet.specs.declared.tracker.RawEntry.{RawEntry}
use Rattle.tm_packet.specs.Spelling.{DecodedEntries, fault_after, first_count_of, entry_at_key, entries_at_keys, state_of, entries_decoding_of}
use Rattle.tm_packet.specs.Valid.{AreValidEntries, EntryFits, FirstFits}
use Rattle.tm_packet.proofs.DecodingLemmas.{read_faultless, AreValues, values_of, all_right, last_in}

abbrev AllValues : List RawEntry → Type 0
AllValues rs = AllByRecursion AreValues rs

all-values : (before : Option ℕ) (rs : List RawEntry) → fault_after before rs ≡ None → AllValues rs
all-values before [] h = tt
all-values before (r ∷ rs) h =
    let right = all_right before r rs h in
    (values_of r right.0, all-values (Some r.key) rs right.2)

left_of : (a b : Bool) → (a || b) ≡ true → b ≡ false → a ≡ true
left_of true b e f = refl
left_of false b e f = cc

first_fits : (n : ℕ) → (ltb n 16384 || eqb n 65535) ≡ true → FirstFits (first_count_of n)
first_fits n h =
    cond_both (eqb n 65535) None (Some n) FirstFits (λ p. tt) (λ p. ltb-true n 16384 (left_of (ltb n 16384) (eqb n 65535) h p))

place_fits : (key : ℕ) (rs : List RawEntry) → AllValues rs → EntryFits (entry_at_key key rs)
place_fits key [] h = tt
place_fits key (r ∷ rs) h =
    cond_both (eqb r.key key) (Some (last_in r)) (entry_at_key key rs) EntryFits
    (λ p. record { count = h.0.count; first = first_fits r.first h.0.first })
    (λ p. place_fits key rs h.1)

no_idle : (key : ℕ) (rs : List RawEntry) → AllValues rs → key % 2048 ≡ 2047 → entry_at_key key rs ≡ None
no_idle key [] h e = refl
no_idle key (r ∷ rs) h e =
    cond_both (eqb r.key key) (Some (last_in r)) (entry_at_key key rs) (λ (l : Option PairEntry). l ≡ None)
    (λ p. let same = eqb-true r.key key p in absurd (eqb-false (r.key % 2048) 2047 h.0.packets (rw same e)))
    (λ p. no_idle key rs h.1 e)

length-places : (n k : ℕ) (rs : List RawEntry) → length (entries_at_keys n k rs) ≡ n
length-places zero k rs = refl
length-places (suc n) k rs = ap suc (length-places n (k + 1) rs)

-- what is at a place: what the entries say of its key, or nothing
place-at : (n k i : ℕ) (rs : List RawEntry) (P : Option PairEntry → Type 0) → P (entry_at_key (k + i) rs) → P None → P (get_or (entries_at_keys n k rs) i None)
place-at zero k i rs P h none = none
place-at (suc n) k zero rs P h none = let z : k + 0 ≡ k = omega arith in rw z at h
place-at (suc n) k (suc i) rs P h none =
    let z : k + suc i ≡ k + 1 + i = omega arith in place-at n (k + 1) i rs P (rw z at h) none

entries-valid : (rs : List RawEntry) → AllValues rs → AreValidEntries (state_of rs)
unfolding state_of
entries-valid rs h = record {
  places = length-places 16384 0 rs;
  fit = λ key. place-at 16384 0 key rs EntryFits (place_fits (0 + key) rs h) tt;
  idle = λ channel. place-at 16384 0 (2048 * channel + 2047) rs (λ (l : Option PairEntry). l ≡ None)
      (no_idle (0 + (2048 * channel + 2047)) rs h (omega arith)) refl;
}

pub entries_read : (xs : List ℕ) (d : DecodedEntries) → entries_decoding_of xs ≡ Ok d → AreValidEntries d.entries
entries_read xs d e = read_faultless (λ (d : DecodedEntries). AreValidEntries d.entries) xs d e (λ long none. entries-valid _ (all-values None _ none))
