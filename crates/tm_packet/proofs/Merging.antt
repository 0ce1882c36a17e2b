-- All pairs' headers together.
use Rattle.std.proofs.Common.{◌≡◌, ℕ, ◌+◌, ◌<◌, zero, suc, Bool, true, false, not, Option, Some, List, [], ◌∷◌, ◌++◌, length, set, refl, sym, ap, ◌∙◌, append_assoc, arith, length-append, subst}
use Rattle.std.proofs.lemmas.List.{append-nil, get_or-append-add, get_or_append_left}
use Rattle.std.proofs.Math.Bool.{and-false}
use Rattle.std.proofs.lemmas.Bool.{eq-eqb, ne_eqb}
use Rattle.std.specs.Prelude.{if◌then◌else◌}
use Rattle.tm_packet.specs.declared.notes.Note.{Note}
use Rattle.tm_packet.specs.declared.tracker.PairEntry.{PairEntry}
use Rattle.tm_packet.specs.Header.{Fields}
use Rattle.tm_packet.specs.Sequence.{pair_notes, pair_after}
use Rattle.tm_packet.specs.code.Single.{single_notes, single_after}
use Rattle.tm_packet.specs.Merge.{after_from, belongs, Entries, entries_after, entry_at, is_idle, key_of, notes, notes_at, notes_behind, pair, Sent}
use Rattle.tm_packet.specs.Valid.{Fits, AllHeadersFit, AreValidEntries}
use Rattle.tm_packet.proofs.Pairs.{pair_notes-append, pair_notes-cons, pair_after-cons, pair_after-append, length-pair_notes}

pub pair-append : (key : ℕ) (xs ys : List Sent) → pair key (xs ++ ys) ≡ pair key xs ++ pair key ys
pair-append key [] ys = refl
pair-append key (p ∷ ps) ys = rw (pair-append key ps ys, append_assoc) refl

own_key : (p : Sent) → is_idle p.header ≡ false → belongs (key_of p) p ≡ true
own_key p h = rw (h, eq-eqb (key_of p) (key_of p) refl) refl

-- a header is among those of its pair
pub pair_own : (p : Sent) (ps : List Sent) → is_idle p.header ≡ false → pair (key_of p) (p ∷ ps) ≡ p.header ∷ pair (key_of p) ps
pair_own p ps h = rw (own_key p h) refl

pub unless_idle : (b : Bool) (x y : List Note) → (b ≡ false → x ≡ y) → (if b then [] else x) ≡ (if b then [] else y)
unless_idle true x y h = refl
unless_idle false x y h = h refl

-- what comes after a header doesn't change its notes
pub notes_at-ahead : (s : Entries) (before : List Sent) (p : Sent) (ahead more : List Sent)
    → notes_at s before p (ahead ++ more) ≡ notes_at s before p ahead
notes_at-ahead s before p ahead more =
    unless_idle (is_idle p.header) _ _ (λ (h : is_idle p.header ≡ false).
    let k : ℕ = key_of p in
    let e : Option PairEntry = entry_at s k in
    let cut : pair k (before ++ p ∷ (ahead ++ more)) ≡ pair k (before ++ p ∷ ahead) ++ pair k more =
    ap (pair k) (sym (append_assoc before (p ∷ ahead) more)) ∙ pair-append k (before ++ p ∷ ahead) more in
    let parts : pair k (before ++ p ∷ ahead) ≡ pair k before ++ p.header ∷ pair k ahead =
    pair-append k before (p ∷ ahead) ∙ ap (λ r. pair k before ++ r) (pair_own p ahead h) in
    let long : length (pair_notes e (pair k (before ++ p ∷ ahead))) ≡ length (pair k before) + suc (length (pair k ahead)) =
    length-pair_notes e (pair k (before ++ p ∷ ahead)) ∙ ap length parts ∙ length-append (pair k before) (p.header ∷ pair k ahead) in
    let inside : length (pair k before) < length (pair_notes e (pair k (before ++ p ∷ ahead))) = omega arith in
    rw (cut, pair_notes-append e (pair k (before ++ p ∷ ahead)) (pair k more)) (get_or_append_left (pair_notes e (pair k (before ++ p ∷ ahead))) _ [] _ inside))

pub entry_at-after : (n : ℕ) (s : Entries) (ps : List Sent) (i : ℕ) → i < length s
    → entry_at (after_from n s ps) i ≡ pair_after (entry_at s i) (pair (n + i) ps)
entry_at-after n [] ps i inside = absurd (omega arith)
entry_at-after n (e ∷ es) ps zero inside = let same : n + 0 ≡ n = omega arith in rw same refl
entry_at-after n (e ∷ es) ps (suc i) inside =
    let same : n + suc i ≡ n + 1 + i = omega arith in rw same (entry_at-after (n + 1) es ps i (omega arith))

-- what the headers before have left stands for them
pub notes_at-before : (s : Entries) (a b : List Sent) (p : Sent) (ahead : List Sent) → key_of p < length s
    → notes_at s (a ++ b) p ahead ≡ notes_at (entries_after s a) b p ahead
notes_at-before s a b p ahead inside =
    unless_idle (is_idle p.header) _ _ (λ (h : is_idle p.header ≡ false).
    let k : ℕ = key_of p in
    let e : Option PairEntry = entry_at s k in
    let rest : List Fields = pair k (b ++ p ∷ ahead) in
    let cut : pair k ((a ++ b) ++ p ∷ ahead) ≡ pair k a ++ rest =
    ap (pair k) (append_assoc a b (p ∷ ahead)) ∙ pair-append k a (b ++ p ∷ ahead) in
    let place : length (pair k (a ++ b)) ≡ length (pair_notes e (pair k a)) + length (pair k b) =
    ap length (pair-append k a b) ∙ length-append (pair k a) (pair k b) ∙ ap (λ n. n + length (pair k b)) (sym (length-pair_notes e (pair k a))) in
    let left : pair_after e (pair k a) ≡ entry_at (entries_after s a) k =
    (let z : 0 + k ≡ k = omega arith in sym (rw z at (entry_at-after 0 s a k inside))) in
    rw (cut, pair_notes-append e (pair k a) rest, place, get_or-append-add (pair_notes e (pair k a)) (pair_notes (pair_after e (pair k a)) rest) (length (pair k b)) [], left) refl)

pub notes_behind-append : (s : Entries) (before ps qs : List Sent)
    → notes_behind s before (ps ++ qs) ≡ notes_behind s before ps ++ notes_behind s (before ++ ps) qs
notes_behind-append s before [] qs = rw (append-nil before) refl
notes_behind-append s before (p ∷ ps) qs =
    rw (notes_at-ahead s before p ps qs, notes_behind-append s (before ++ p ∷ []) ps qs, append_assoc before (p ∷ []) ps) refl

key_fits : (s : Entries) (p : Sent) → AreValidEntries s → Fits p → key_of p < length s
key_fits s p valid fits = let all = valid.places in let c = fits.channel in let a = fits.application in omega arith

pub notes_behind-after : (s : Entries) (a b ps : List Sent) → AreValidEntries s → AllHeadersFit ps
    → notes_behind s (a ++ b) ps ≡ notes_behind (entries_after s a) b ps
notes_behind-after s a b [] valid fits = refl
notes_behind-after s a b (p ∷ ps) valid fits =
    rw (notes_at-before s a b p ps (key_fits s p valid fits.0), append_assoc a b (p ∷ []), notes_behind-after s a (b ++ p ∷ []) ps valid fits.1) refl

-- the notes of headers and more headers are those of the first, and those of the others from the state after them
pub notes-append : (s : Entries) (a b : List Sent) → AreValidEntries s → AllHeadersFit b → notes s (a ++ b) ≡ notes s a ++ notes (entries_after s a) b
notes-append s a b valid fits =
    rw (notes_behind-append s [] a b, ← notes_behind-after s a [] b valid fits, append-nil a) refl

pub after_from-append : (n : ℕ) (s : Entries) (a b : List Sent) → after_from n s (a ++ b) ≡ after_from n (after_from n s a) b
after_from-append n [] a b = refl
after_from-append n (e ∷ es) a b =
    rw (pair-append n a b, pair_after-append e (pair n a) (pair n b), after_from-append (n + 1) es a b) refl

pub after-append : (s : Entries) (a b : List Sent) → entries_after s (a ++ b) ≡ entries_after (entries_after s a) b
after-append s a b = after_from-append 0 s a b

pub length-after_from : (n : ℕ) (s : Entries) (a : List Sent) → length (after_from n s a) ≡ length s
length-after_from n [] a = refl
length-after_from n (e ∷ es) a = ap suc (length-after_from (n + 1) es a)

pub after_from-none : (n : ℕ) (s : Entries) → after_from n s [] ≡ s
after_from-none n [] = refl
after_from-none n (e ∷ es) = ap (λ r. e ∷ r) (after_from-none (n + 1) es)

-- a header that belongs to no key from n on changes none
skipped : (n : ℕ) (s : Entries) (p : Sent) → ((m : ℕ) → belongs (n + m) p ≡ false) → after_from n s (p ∷ []) ≡ s
skipped n [] p none = refl
skipped n (e ∷ es) p none =
    let here : belongs n p ≡ false = (let z : n + 0 ≡ n = omega arith in rw z at (none 0)) in
    rw (here, skipped (n + 1) es p (λ m. let z : n + 1 + m ≡ n + (1 + m) = omega arith in rw z (none (1 + m)))) refl

not_own : (p : Sent) (n : ℕ) → (key_of p ≡ n → ⊥) → belongs n p ≡ false
not_own p n other = rw (ne_eqb (key_of p) n other) (and-false (not (is_idle p.header)))

pub after-idle : (s : Entries) (p : Sent) → is_idle p.header ≡ true → entries_after s (p ∷ []) ≡ s
after-idle s p h = skipped 0 s p (λ m. rw h refl)

pub after_from-one : (n i : ℕ) (s : Entries) (p : Sent) → is_idle p.header ≡ false → n + i ≡ key_of p → i < length s
    → after_from n s (p ∷ []) ≡ set s i (Some (single_after (entry_at s i) p.header))
after_from-one n i [] p h at inside = absurd (omega arith)
after_from-one n zero (e ∷ es) p h at inside =
    let own : n ≡ key_of p = omega arith in
    let here : belongs n p ≡ true = rw own (own_key p h) in
    rw (here, skipped (n + 1) es p (λ m. not_own p (n + 1 + m) (λ same. omega arith)), pair_after-cons e p.header []) refl
after_from-one n (suc i) (e ∷ es) p h at inside =
    rw (not_own p n (λ same. omega arith), after_from-one (n + 1) i es p h (omega arith) (omega arith)) refl

-- one header leaves the place of its key changed
pub after-one : (s : Entries) (p : Sent) → is_idle p.header ≡ false → key_of p < length s
    → entries_after s (p ∷ []) ≡ set s (key_of p) (Some (single_after (entry_at s (key_of p)) p.header))
after-one s p h inside = after_from-one 0 (key_of p) s p h (omega arith) inside

-- the notes of one header
pub notes-one : (s : Entries) (p : Sent) → is_idle p.header ≡ false
    → notes s (p ∷ []) ≡ single_notes (entry_at s (key_of p)) p.header ∷ []
notes-one s p h =
    rw (pair_own p [] h, h, pair_notes-cons (entry_at s (key_of p)) p.header []) refl

-- the same, as the code has it
pub left_by : (old entries : Entries) (p : Sent) (k : ℕ) (e : Option PairEntry) (kept : PairEntry) → entries ≡ old → k ≡ key_of p
    → is_idle p.header ≡ false → k < length entries → e ≡ entry_at entries k → kept ≡ single_after e p.header
    → set entries k (Some kept) ≡ entries_after old (p ∷ [])
left_by old entries p k e kept same at h inside found is =
    let there : key_of p < length old = subst (λ n. n < length old) at (subst (λ s. k < length s) same inside) in
    rw (after-one old p h there, is, found, same, at) refl

pub noted_by : (old entries : Entries) (p : Sent) (k : ℕ) (e : Option PairEntry) (result : List Note) → entries ≡ old → k ≡ key_of p
    → is_idle p.header ≡ false → e ≡ entry_at entries k → result ≡ single_notes e p.header → notes old (p ∷ []) ≡ result ∷ []
noted_by old entries p k e result same at h found is =
    rw (notes-one old p h, is, found, same, at) refl

pub ruleset joins = (notes-append, after-append)

pub ruleset one_header = (after-idle, left_by, noted_by)
