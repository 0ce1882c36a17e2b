-- Items but for gaps of the master channel at some records.
use Rattle.std.proofs.Common.{◌≡◌, ⊎_elim, ◌≤◌, ◌+◌, Ok, Err, Bool, true, false, Option, Some, None, ℕ, List, [], ◌∷◌, ◌++◌, length, refl, sym, ap, subst, ◌∙◌, arith}
use Rattle.std.specs.List.{filter, list_any}
use Rattle.std.specs.Prelude.{◌==◌, ◌||◌, ◌&&◌, not}
use Rattle.std.proofs.lemmas.Bool.{cases_Bool, cases_eq, cond_both, ne_eqb}
pub use Rattle.std.proofs.Math.Bool.{and-false}
use Rattle.std.proofs.Math.Bool.{or-false}
use Rattle.std.proofs.lemmas.List.Elements.{filter-append}
use Rattle.std.proofs.lemmas.List.Filters.{length-filter_both}
use Rattle.std.proofs.lemmas.List.Folds.{list_any-append}
use Rattle.tm_items.specs.Among.{is_master_gap}
use Rattle.tm_items.specs.Item.{Item, seen_of}
use Rattle.tm_reassembly.specs.Chain.{ChainMember, has_frame_gap, master_frames, master_member}
use Rattle.tm_reassembly.specs.Items.{gap_at, gaps, master_gap_item, seen_at}
use Rattle.tm_reassembly.specs.OlderForms.{is_gap_at, without_gaps_at}
use Rattle.tm_reassembly.specs.Readings.{FrameReading}
use Rattle.tm_bits.proofs.Each.{Each, Each-every, Each-weaken, filter-all}
use Rattle.tm_reassembly.proofs.Joining.{none_before}
use Rattle.tm_reassembly.proofs.Masters.{master_after, masters-from, masters-here, masters-there}

-- items with none of those gaps among them
pub without-none : (numbers : List ℕ) (xs : List Item) → Each (λ x. is_gap_at numbers x ≡ false) xs → without_gaps_at numbers xs ≡ xs
without-none numbers xs h =
    filter-all (λ x. not (is_gap_at numbers x)) xs (Each-weaken (λ x. is_gap_at numbers x ≡ false) (λ x. not (is_gap_at numbers x) ≡ true) xs (λ x e. ap not e) h)

pub without-append : (numbers : List ℕ) (xs ys : List Item) → without_gaps_at numbers (xs ++ ys) ≡ without_gaps_at numbers xs ++ without_gaps_at numbers ys
without-append numbers xs ys = filter-append (λ x. not (is_gap_at numbers x)) xs ys

pub no-gap : (numbers : List ℕ) (x : Item) → is_master_gap x ≡ false → is_gap_at numbers x ≡ false
no-gap numbers x e = ap (λ (b : Bool). b && list_any (λ n. seen_of x == n) numbers) e

pub not-there : (n : ℕ) (x : Item) → (seen_of x ≡ n → ⊥) → is_gap_at (n ∷ []) x ≡ false
not-there n x ne = ap (λ (b : Bool). is_master_gap x && (b || false)) (ne_eqb (seen_of x) n ne) ∙ and-false (is_master_gap x)

-- one test after another
filter-filter : {X : Type 0} (p q r : X → Bool) → ((x : X) → (q x && p x) ≡ r x) → (xs : List X) → filter p (filter q xs) ≡ filter r xs
filter-filter p q r h [] = refl
filter-filter {X} p q r h (x ∷ xs) =
    ⊎_elim
    (λ (e : q x ≡ true).
    let same : p x ≡ r x = sym (ap (λ (b : Bool). b && p x) e) ∙ h x in
    rw (e, same, filter-filter p q r h xs))
    (λ (e : q x ≡ false).
    let none : r x ≡ false = sym (h x) ∙ ap (λ (b : Bool). b && p x) e in
    rw (e, none) (filter-filter p q r h xs))
    (cases_Bool (q x))

neither : (m a b : Bool) → (not (m && a) && not (m && b)) ≡ not (m && (a || b))
neither false a b = refl
neither true true b = refl
neither true false b = refl

-- but for some gaps, and then for others
pub without-but : (a b : List ℕ) (xs : List Item) → without_gaps_at b (without_gaps_at a xs) ≡ without_gaps_at (a ++ b) xs
without-but a b xs =
    filter-filter (λ x. not (is_gap_at b x)) (λ x. not (is_gap_at a x)) (λ x. not (is_gap_at (a ++ b) x))
    (λ x.
    neither (is_master_gap x) (list_any (λ n. seen_of x == n) a) (list_any (λ n. seen_of x == n) b)
    ∙ ap (λ (t : Bool). not (is_master_gap x && t)) (sym (list_any-append (λ n. seen_of x == n) a b)))
    xs

pub without-no : (xs : List Item) → without_gaps_at [] xs ≡ xs
without-no xs = without-none [] xs (Each-every (λ x. is_gap_at [] x ≡ false) xs (λ x. and-false (is_master_gap x)))

-- ---- how many are left out

shorter : (p q : Item → Bool) (xs : List Item) → length (filter p (filter q xs)) ≤ length (filter p xs)
shorter p q [] = omega arith
shorter p q (x ∷ xs) =
    let less = shorter p q xs in
    ⊎_elim
    (λ (e : q x ≡ true). ⊎_elim (λ (f : p x ≡ true). rw (e, f) (omega arith)) (λ (f : p x ≡ false). rw (e, f) (omega arith)) (cases_Bool (p x)))
    (λ (e : q x ≡ false). ⊎_elim (λ (f : p x ≡ true). rw (e, f) (omega arith)) (λ (f : p x ≡ false). rw (e, f) (omega arith)) (cases_Bool (p x)))
    (cases_Bool (q x))

-- one number
at-one : (n : ℕ) (xs : List Item) → seen_at n (filter is_master_gap xs) ≡ filter (λ x. is_gap_at (n ∷ []) x) xs
at-one n xs =
    filter-filter (λ x. seen_of x == n) is_master_gap (λ x. is_gap_at (n ∷ []) x) (λ x. ap (λ (b : Bool). is_master_gap x && b) (sym (or-false (seen_of x == n)))) xs

-- where at each record there is one gap at most, for each number one is left out at most
few-from : (numbers : List ℕ) (xs : List Item) → ((n : ℕ) → length (filter (λ x. is_gap_at (n ∷ []) x) xs) ≤ 1) → length xs ≤ length (without_gaps_at numbers xs) + length numbers
few-from [] xs h = rw (without-no xs) (omega arith)
few-from (n ∷ numbers) xs h =
    let first = length-filter_both (λ x. is_gap_at (n ∷ []) x) (λ x. not (is_gap_at (n ∷ []) x)) (λ x. refl) xs in
    let others = few-from numbers (without_gaps_at (n ∷ []) xs)
    (λ m. let less = shorter (λ x. is_gap_at (m ∷ []) x) (λ x. not (is_gap_at (n ∷ []) x)) xs in let most = h m in omega (arith, h n)) in
    let same : length (without_gaps_at numbers (without_gaps_at (n ∷ []) xs)) ≡ length (without_gaps_at (n ∷ numbers) xs) = ap (λ (ys : List Item). length ys) (without-but (n ∷ []) numbers xs) in
    omega (arith, h n)

pub few : (numbers : List ℕ) (xs : List Item) → ((n : ℕ) → length (seen_at n (filter is_master_gap xs)) ≤ 1) → length xs ≤ length (without_gaps_at numbers xs) + length numbers
few numbers xs h = few-from numbers xs (λ n. subst (λ (ys : List Item). length ys ≤ 1) (at-one n xs) (h n))

-- at each record there is one gap of the master channel at most

one-gap : (before : Option ℕ) (m : ChainMember) → length (gap_at master_gap_item before m) ≤ 1
one-gap None m = omega arith
one-gap (Some before) m = cond_both (has_frame_gap (Some before) m) _ _ (λ xs. length xs ≤ 1) (λ e. omega arith) (λ e. omega arith)

pub one-at : (n k : ℕ) (before : Option ℕ) (rs : List FrameReading) → length (seen_at n (gaps master_gap_item before (master_frames k rs))) ≤ 1
one-at n k before [] = omega arith
one-at n k before (r ∷ rs) =
    ⊎_elim
    (λ e. subst (λ (m : ℕ). length (seen_at m (gaps master_gap_item before (master_frames k (r ∷ rs)))) ≤ 1) e (here r))
    (λ ne. subst (λ (xs : List Item). length xs ≤ 1) (sym (masters-there k n before r rs ne)) (one-at n (k + 1) (master_after before r) rs))
    (cases_eq k n)
  where
    here : (q : FrameReading) → length (seen_at k (gaps master_gap_item before (master_frames k (q ∷ rs)))) ≤ 1
    here (Err fault) =
        subst (λ (xs : List Item). length xs ≤ 1)
        (sym (none_before (k + 1) k (gaps master_gap_item before (master_frames (k + 1) rs)) (omega arith) (masters-from (k + 1) before rs))) (omega arith)
    here (Ok g) = subst (λ (xs : List Item). length xs ≤ 1) (sym (masters-here k before g rs)) (one-gap before (master_member k g))
