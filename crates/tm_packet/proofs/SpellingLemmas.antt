-- What is spelled is read again.
use Rattle.std.proofs.Common.{◌≡◌, ℕ, zero, suc, ◌+◌, ◌*◌, ◌/◌, ◌%◌, ◌<◌, ◌≤◌, true, ◌||◌, ◌==◌, Option, Some, None, List, [], ◌∷◌, ◌++◌, length, map, drop, get_or, refl, sym, ap, ◌∙◌, arith, length-append}
use Rattle.std.specs.Prelude.{Ok, nat_lt, Result}
use Rattle.std.proofs.lemmas.Bool.{ne_eqb, eq-eqb, lt-ltb, le-ltb, ltb-true}
use Rattle.std.proofs.lemmas.List.{append-nil, nil_from_length}
use Rattle.tm_packet.specs.declared.tracker.TrackerFault.{TrackerFault}
use Rattle.tm_packet.specs.declared.tracker.PairEntry.{PairEntry}
use Rattle.tm_packet.specs.Merge.{Entries}
use Rattle.tm_packet.specs.declared.tracker.RawEntry.{RawEntry}
use Rattle.tm_packet.specs.Valid.{AreValidEntries, IsEntry, EntryFits, FirstFits}
use Rattle.tm_packet.specs.Spelling.{KeyedEntry, DecodedEntries, first_number, entries_from, spelled, entries_spelling, raws, has_values, rises, fault_after, first_count_of, entry_at_key, entries_at_keys, state_of, entries_decoding_of}
use Rattle.tm_bits.specs.Bits.{two_at}

abbrev raw : KeyedEntry → RawEntry
raw e = record { key = e.key; count = e.last.count; first = first_number e.last.first }

joined : (n : ℕ) → 256 * (n / 256) + n % 256 ≡ n
joined n = omega arith

raws-spelled : (es : List KeyedEntry) (rest : List ℕ) → raws (length es) (spelled es ++ rest) ≡ map raw es
raws-spelled [] rest = refl
raws-spelled (e ∷ es) rest = rw (joined e.key, joined e.last.count, joined (first_number e.last.first), raws-spelled es rest) refl

pub length-spelled : (es : List KeyedEntry) → length (spelled es) ≡ 6 * length es
length-spelled [] = refl
length-spelled (e ∷ es) = let h = length-spelled es in omega arith

pub first_back : (f : Option ℕ) → FirstFits f → first_count_of (first_number f) ≡ f
first_back None h = refl
first_back (Some n) h = rw (ne_eqb n 65535 (λ (e : n ≡ 65535). omega arith)) refl

first_valued : (f : Option ℕ) → FirstFits f → (nat_lt (first_number f) 16384 || (first_number f == 65535)) ≡ true
first_valued None h = refl
first_valued (Some n) h = rw (lt-ltb n 16384 h) refl

-- the places from a key on: their entries fit, there is none at an idle packet's key, and the keys are keys
record Fit (k : ℕ) (s : Entries) : Type 0 where
  entries : (i : ℕ) → EntryFits (get_or s i None)
  idle : (i : ℕ) → (k + i) % 2048 ≡ 2047 → get_or s i None ≡ None
  keys : k + length s ≤ 16384

fit_rest : (k : ℕ) (l : Option PairEntry) (s : Entries) → Fit k (l ∷ s) → Fit (k + 1) s
fit_rest k l s h = record {
  entries = λ i. h.entries (suc i);
  idle = λ i e. h.idle (suc i) ((let z : k + suc i ≡ k + 1 + i = omega arith in ap (λ n. n % 2048) z) ∙ e);
  keys = let keys = h.keys in omega arith;
}

none_not_some : (l : PairEntry) → Some l ≡ None → ⊥
none_not_some l e = cc

valued : (k : ℕ) (l : PairEntry) (s : Entries) → Fit k (Some l ∷ s) → has_values (raw (record { key = k; last = l })) ≡ true
valued k l s h =
    let fits : IsEntry l = h.entries 0 in
    let keys = h.keys in
    let zeroth : k + 0 ≡ k = omega arith in
    rw (lt-ltb k 16384 (omega arith), ne_eqb (k % 2048) 2047 (λ e. none_not_some l (h.idle 0 (rw zeroth e))), lt-ltb l.count 16384 fits.count, first_valued l.first fits.first) refl

rises_next : (before : Option ℕ) (k : ℕ) → rises before k ≡ true → rises before (k + 1) ≡ true
rises_next None k h = refl
rises_next (Some n) k h = let less = ltb-true n k h in lt-ltb n (k + 1) (omega arith)

faultless : (before : Option ℕ) (k : ℕ) (s : Entries) → rises before k ≡ true → Fit k s → fault_after before (map raw (entries_from k s)) ≡ None
faultless before k [] b h = refl
faultless before k (None ∷ s) b h = faultless before (k + 1) s (rises_next before k b) (fit_rest k None s h)
faultless before k (Some l ∷ s) b h =
    rw (valued k l s h, b) (faultless (Some k) (k + 1) s (lt-ltb k (k + 1) (omega arith)) (fit_rest k (Some l) s h))

-- no entry of a key below
lower : (key k : ℕ) (s : Entries) → key < k → entry_at_key key (map raw (entries_from k s)) ≡ None
lower key k [] h = refl
lower key k (None ∷ s) h = lower key (k + 1) s (omega arith)
lower key k (Some l ∷ s) h = rw (ne_eqb k key (λ (e : k ≡ key). omega arith)) (lower key (k + 1) s (omega arith))

found : (k i : ℕ) (s : Entries) → Fit k s → i < length s → entry_at_key (k + i) (map raw (entries_from k s)) ≡ get_or s i None
found k i [] h inside = absurd (omega arith)
found k zero (None ∷ s) h inside = lower (k + 0) (k + 1) s (omega arith)
found k zero (Some l ∷ s) h inside =
    let fits : IsEntry l = h.entries 0 in
    rw (eq-eqb k (k + 0) (omega arith), first_back l.first fits.first) refl
found k (suc i) (None ∷ s) h inside =
    let z : k + suc i ≡ k + 1 + i = omega arith in ap (λ n. entry_at_key n (map raw (entries_from (k + 1) s))) z ∙ found (k + 1) i s (fit_rest k None s h) (omega arith)
found k (suc i) (Some l ∷ s) h inside =
    let z : k + suc i ≡ k + 1 + i = omega arith in
    rw (ne_eqb k (k + suc i) (λ (e : k ≡ k + suc i). omega arith)) (ap (λ n. entry_at_key n (map raw (entries_from (k + 1) s))) z ∙ found (k + 1) i s (fit_rest k (Some l) s h) (omega arith))

filled : (n k : ℕ) (s : Entries) (rs : List RawEntry) → length s ≡ n → ((i : ℕ) → i < length s → entry_at_key (k + i) rs ≡ get_or s i None) → entries_at_keys n k rs ≡ s
filled zero k [] rs l h = refl
filled zero k (x ∷ s) rs l h = absurd (omega arith)
filled (suc n) k [] rs l h = absurd (omega arith)
filled (suc n) k (x ∷ s) rs l h =
    let zeroth : k + 0 ≡ k = omega arith in
    let here : entry_at_key k rs ≡ x = rw zeroth at (h 0 (omega arith)) in
    rw (here, filled n (k + 1) s rs (omega arith) (λ i inside. let z : k + 1 + i ≡ k + suc i = omega arith in rw z (h (suc i) (omega arith)))) refl

fit_all : (s : Entries) → AreValidEntries s → Fit 0 s
fit_all s valid = record {
  entries = λ i. valid.fit i;
  idle = λ i e. ap (λ n. get_or s n None) (let z : i ≡ 2048 * ((0 + i) / 2048) + 2047 = omega arith in z) ∙ valid.idle ((0 + i) / 2048);
  keys = let all = valid.places in omega arith;
}

state_back : (s : Entries) → AreValidEntries s → state_of (map raw (entries_from 0 s)) ≡ s
unfolding state_of
state_back s valid = filled 16384 0 s (map raw (entries_from 0 s)) valid.places (λ i inside. found 0 i s (fit_all s valid) inside)

abbrev decoded : Entries → ℕ → DecodedEntries
decoded entries octets = record { entries = entries; octets = octets }

decode_with : (xs : List ℕ) (n : ℕ) (rs : List RawEntry) (s : Entries) → two_at xs 0 ≡ n → 2 + 6 * n ≤ length xs
    → raws n (drop 2 xs) ≡ rs → fault_after None rs ≡ None → state_of rs ≡ s → entries_decoding_of xs ≡ Ok (decoded s (2 + 6 * n))
decode_with xs n rs s e room read ok back =
    rw (le-ltb (length xs) 2 (omega arith), e, le-ltb (length xs) (2 + 6 * n) room, read, ok, back) refl

pub decoding-spelling : (s : Entries) (rest : List ℕ) → AreValidEntries s
    → entries_decoding_of (entries_spelling s ++ rest) ≡ Ok (record { entries = s; octets = length (entries_spelling s) })
decoding-spelling s rest valid =
    let es : List KeyedEntry = entries_from 0 s in
    let n : ℕ = length es in
    let number : two_at (entries_spelling s ++ rest) 0 ≡ n = joined n in
    let long : length (entries_spelling s ++ rest) ≡ 2 + 6 * n + length rest = length-append (entries_spelling s) rest ∙ omega (arith, length-spelled es) in
    let all : 2 + 6 * n ≡ length (entries_spelling s) = omega (arith, length-spelled es) in
    decode_with (entries_spelling s ++ rest) n (map raw es) s number (omega arith) (raws-spelled es rest) (faultless None 0 s refl (fit_all s valid)) (state_back s valid)
    ∙ ap (λ m. Ok (decoded s m)) all

abbrev good : DecodedEntries → Result DecodedEntries TrackerFault
good d = Ok d

-- no spelling is a proper prefix of another
pub no_prefix : (s t : Entries) (rest : List ℕ) → AreValidEntries s → AreValidEntries t → entries_spelling s ++ rest ≡ entries_spelling t → (s ≡ t) × (rest ≡ [])
no_prefix s t rest vs vt e =
    let same : good (decoded s (length (entries_spelling s))) ≡ good (decoded t (length (entries_spelling t))) =
    sym (decoding-spelling s rest vs) ∙ ap entries_decoding_of (e ∙ sym (append-nil (entries_spelling t))) ∙ decoding-spelling t [] vt in
    let held : decoded s (length (entries_spelling s)) ≡ decoded t (length (entries_spelling t)) = cc in
    let sum : length (entries_spelling s) + length rest ≡ length (entries_spelling t) = sym (length-append (entries_spelling s) rest) ∙ ap length e in
    (ap (λ (d : DecodedEntries). d.entries) held, nil_from_length rest (omega (arith, ap (λ (d : DecodedEntries). d.octets) held)))

pub ruleset lengths = (length-spelled)
