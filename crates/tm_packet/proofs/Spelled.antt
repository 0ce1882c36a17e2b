-- What is read is the spelling of what it is read as.
use Rattle.std.proofs.Common.{◌≡◌, ℕ, zero, suc, ◌+◌, ◌*◌, ◌/◌, ◌%◌, ◌<◌, ◌≤◌, Bool, true, false, Ok, Option, Some, None, List, [], ◌∷◌, ◌++◌, length, map, take, drop, refl, sym, ap, subst, ◌∙◌, ⊎_elim, arith, eqb}
use Rattle.std.specs.Prelude.{if◌then◌else◌}
use Rattle.std.proofs.lemmas.Bool.{ne_eqb, cases_lt, ltb-true, eqb-true, eq-eqb}
use Rattle.std.proofs.lemmas.List.{length-map}
use Rattle.tm_bits.specs.Bits.{AreOctets, two_octets, two_at}
use Rattle.tm_bits.proofs.PartLemmas.{octets_behind}
use Rattle.tm_packet.specs.declared.tracker.PairEntry.{PairEntry}
use Rattle.tm_packet.specs.declared.tracker.RawEntry.{RawEntry}
use Rattle.tm_packet.specs.Spelling.{KeyedEntry, DecodedEntries, first_number, first_count_of, entries_from, spelled, entries_spelling, raws, rises, fault_after, entry_at_key, entries_at_keys, state_of, entries_decoding_of}
use Rattle.tm_packet.proofs.SpellingLemmas.{decoding-spelling, no_prefix}
use Rattle.tm_packet.proofs.DecodingLemmas.{read_faultless, AreValues, values_of, all_right, last_in, places-above}

-- ---- the entries that numbers are

abbrev on : ℕ → PairEntry → KeyedEntry
on key last = record { key = key; last = last }

abbrev entry : RawEntry → KeyedEntry
entry r = on r.key (last_in r)

-- each has the values of an entry, and their keys rise from one on
abbrev Rising : ℕ → List RawEntry → Type 0
Rising k [] = Unit {0}
Rising k (r ∷ rs) = (k ≤ r.key) × (r.key < 16384) × Rising (r.key + 1) rs

-- the least key that may follow
abbrev next : Option ℕ → ℕ
next None = 0
next (Some before) = before + 1

rises_from : (before : Option ℕ) (key : ℕ) → rises before key ≡ true → next before ≤ key
rises_from None key e = omega arith
rises_from (Some before) key e = let h = ltb-true before key e in omega arith

rising : (before : Option ℕ) (rs : List RawEntry) → fault_after before rs ≡ None → Rising (next before) rs
rising before [] h = tt
rising before (r ∷ rs) h =
    let right = all_right before r rs h in
    let values : AreValues r = values_of r right.0 in
    (rises_from before r.key right.1, values.key, rising (Some r.key) rs right.2)

-- a key below them has no entry
absent : (key k : ℕ) (rs : List RawEntry) → Rising k rs → key < k → entry_at_key key rs ≡ None
absent key k [] h low = refl
absent key k (r ∷ rs) h low =
    let above = h.0 in
    rw (ne_eqb r.key key (λ (e : r.key ≡ key). omega arith)) (absent key (r.key + 1) rs h.2 (omega arith))

-- what the entries say of all keys from one on has just these entries
entries_back : (n k : ℕ) (rs : List RawEntry) → Rising k rs → k + n ≡ 16384 → entries_from k (entries_at_keys n k rs) ≡ map entry rs
entries_back zero k [] h all = refl
entries_back zero k (r ∷ rs) h all = let a = h.0 in let b = h.1 in absurd (omega arith)
entries_back (suc n) k [] h all = entries_back n (k + 1) [] tt (omega arith)
entries_back (suc n) k (r ∷ rs) h all =
    let least = h.0 in
    ⊎_elim
    (λ (above : k < r.key).
    rw (ne_eqb r.key k (λ (e : r.key ≡ k). omega arith), absent k (r.key + 1) rs h.2 (omega arith)) (entries_back n (k + 1) (r ∷ rs) (omega arith, h.1, h.2) (omega arith)))
    (λ (below : r.key ≤ k).
    let e : r.key ≡ k = omega arith in
    let rest = entries_back n (k + 1) rs (subst (λ (m : ℕ). Rising (m + 1) rs) e h.2) (omega arith) in
    rw (eq-eqb r.key k e, places-above n (k + 1) r rs (omega arith), rest, e) refl)
    (cases_lt k r.key)

-- ---- the octets of entries

high : (a b : ℕ) → b < 256 → (256 * a + b) / 256 ≡ a
high a b small = omega arith

low : (a b : ℕ) → b < 256 → (256 * a + b) % 256 ≡ b
low a b small = omega arith

first_again : (n : ℕ) → first_number (first_count_of n) ≡ n
first_again n = by_test (eqb n 65535) refl
  where
    by_test : (b : Bool) → eqb n 65535 ≡ b → first_number (if b then None else Some n) ≡ n
    by_test true e = sym (eqb-true n 65535 e)
    by_test false e = refl

spelled_from : (n : ℕ) (xs : List ℕ) → AreOctets xs → 6 * n ≤ length xs → spelled (map entry (raws n xs)) ≡ take (6 * n) xs
spelled_from zero xs h long = refl
spelled_from (suc n) (a ∷ b ∷ c ∷ d ∷ e ∷ f ∷ more) h long =
    let m : 6 * suc n ≡ suc (suc (suc (suc (suc (suc (6 * n)))))) = omega arith in
    let xs : List ℕ = a ∷ b ∷ c ∷ d ∷ e ∷ f ∷ more in
    rw (first_again (256 * e + f), high a b (h.below 1), low a b (h.below 1), high c d (h.below 3), low c d (h.below 3), high e f (h.below 5), low e f (h.below 5))
    (rw (spelled_from n more (octets_behind 6 xs h) (omega arith), m) refl)
spelled_from (suc n) xs h long = absurd (omega arith)

length-raws : (n : ℕ) (xs : List ℕ) → length (raws n xs) ≡ n
length-raws zero xs = refl
length-raws (suc n) xs = ap suc (length-raws n (drop 6 xs))

-- ---- all

faultless : (xs : List ℕ) (n : ℕ) → AreOctets xs → n ≡ two_at xs 0 → 2 + 6 * n ≤ length xs → fault_after None (raws n (drop 2 xs)) ≡ None
    → take (2 + 6 * n) xs ≡ entries_spelling (state_of (raws n (drop 2 xs)))
unfolding state_of
faultless (a ∷ b ∷ more) n h e long none =
    let m : 2 + 6 * n ≡ suc (suc (6 * n)) = omega arith in
    let xs : List ℕ = a ∷ b ∷ more in
    let rs : List RawEntry = raws n more in
    let back : entries_from 0 (entries_at_keys 16384 0 rs) ≡ map entry rs = entries_back 16384 0 rs (rising None rs none) (omega arith) in
    let many : length (map entry rs) ≡ n = length-map rs entry ∙ length-raws n more in
    let whole : n ≡ 256 * a + b = e in
    let small : b < 256 = h.below 1 in
    let first : n / 256 ≡ a = omega arith in
    let second : n % 256 ≡ b = omega arith in
    sym
    (ap (λ (es : List KeyedEntry). two_octets (length es) ++ spelled es) back
    ∙ rw (many, first, second, spelled_from n more (octets_behind 2 xs h) (omega arith), m) refl)
faultless xs n h e long none = absurd (omega arith)

pub spelled-again : (octets : List ℕ) (d : DecodedEntries) → AreOctets octets → entries_decoding_of octets ≡ Ok d
    → (d.octets ≤ length octets) × (take d.octets octets ≡ entries_spelling d.entries)
spelled-again octets d h e =
    read_faultless (λ (d : DecodedEntries). (d.octets ≤ length octets) × (take d.octets octets ≡ entries_spelling d.entries)) octets d e
    (λ long none. (long, faultless octets (two_at octets 0) h refl long none))

pub ruleset spells = (decoding-spelling, no_prefix, spelled-again)
