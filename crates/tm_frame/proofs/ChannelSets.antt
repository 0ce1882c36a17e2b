-- The loop that reads a set of channels: the numbers so far, and one more.
use Rattle.std.proofs.Common.{◌≡◌, ℕ, suc, zero, ◌+◌, ◌<◌, ◌≤◌, Bool, true, false, ◌||◌, List, [], ◌∷◌, ◌++◌, map, length, take, drop, get_or, refl, sym, ap, ◌∙◌, ⊎_elim, arith, eqb}
use Rattle.std.specs.Prelude.{slice_set, slice_index_or, nat_lt, Some, None}
use Rattle.std.proofs.Math.Bool.{or-false, or_assoc}
use Rattle.std.proofs.lemmas.List.{length-set, take_all, take_more, get_or-map, get_or-replicate, get_or_default, get_or-set_same, get_or-set_other, ext_get_or}
use Rattle.std.proofs.lemmas.Bool.{eq-eqb, ne_eqb, eqb-true, eqb-false, cond-true, cond-false, lt-ltb, le-ltb, or_cases, or_left, or_right, or_parts, or_from, cases_eq, agree_below_at}
use Rattle.tm_frame.specs.Channels.{holds, is_wrong, eight, channels_of}

split_at : (xs : List ℕ) (i : ℕ) → i < length xs → xs ≡ take i xs ++ get_or xs i 0 ∷ drop (suc i) xs
split_at [] i h = absurd (omega arith)
split_at (x ∷ xs) zero h = refl
split_at (x ∷ xs) (suc i) h = ap (λ (l : List ℕ). x ∷ l) (split_at xs i (omega arith))

holds_more : (front : List ℕ) (x c : ℕ) → holds (front ++ x ∷ []) c ≡ (holds front c || eqb x c)
holds_more [] x c = or-false (eqb x c)
holds_more (y ∷ front) x c = ap (λ (b : Bool). eqb y c || b) (holds_more front x c) ∙ sym (or_assoc (eqb y c) (holds front c) (eqb x c))

holds_at : (front rest : List ℕ) (x : ℕ) → holds (front ++ x ∷ rest) x ≡ true
holds_at [] rest x = or_left (eqb x x) (holds rest x) (eq-eqb x x refl)
holds_at (y ∷ front) rest x = or_right (eqb y x) (holds (front ++ x ∷ rest) x) (holds_at front rest x)

-- a number that is over 7 makes a list wrong
wrong_over : (front rest : List ℕ) (x : ℕ) → nat_lt 7 x ≡ true → is_wrong (front ++ x ∷ rest) ≡ true
wrong_over [] rest x h = rw h refl
wrong_over (y ∷ front) rest x h = or_right _ (is_wrong (front ++ x ∷ rest)) (wrong_over front rest x h)

-- and so does one that stands before
wrong_twice : (front rest : List ℕ) (x : ℕ) → holds front x ≡ true → is_wrong (front ++ x ∷ rest) ≡ true
wrong_twice [] rest x h = cc
wrong_twice (y ∷ front) rest x h =
    ⊎_elim
    (λ (same : eqb y x ≡ true).
    let again : holds (front ++ x ∷ rest) y ≡ true = ap (λ (k : ℕ). holds (front ++ x ∷ rest) k) (eqb-true y x same) ∙ holds_at front rest x in
    or_left _ (is_wrong (front ++ x ∷ rest)) (or_right (nat_lt 7 y) (holds (front ++ x ∷ rest) y) again))
    (λ (later : holds front x ≡ true). or_right _ (is_wrong (front ++ x ∷ rest)) (wrong_twice front rest x later)) (or_cases (eqb y x) (holds front x) h)

-- one that is neither leaves a right list right
right_more : (front : List ℕ) (x : ℕ) → is_wrong front ≡ false → nat_lt 7 x ≡ false → holds front x ≡ false → is_wrong (front ++ x ∷ []) ≡ false
right_more [] x h k n = rw k refl
right_more (y ∷ front) x h k n =
    let both = or_parts (nat_lt 7 y || holds front y) (is_wrong front) h in
    let first = or_parts (nat_lt 7 y) (holds front y) both.0 in
    let own = or_parts (eqb y x) (holds front x) n in
    let other : eqb x y ≡ false = ne_eqb x y (λ (e : x ≡ y). eqb-false y x own.0 (sym e)) in
    rw (first.0, holds_more front x y, first.1, other, right_more front x both.1 k own.1) refl

-- what the loop keeps: of each channel whether a number so far is it, and that these are right
pub record KeepsMarks (numbers : List ℕ) (chosen : List Bool) (i : ℕ) : Type 0 where
  pub places : length chosen ≡ 8
  pub marked : (c : ℕ) → c < 8 → get_or chosen c false ≡ holds (take i numbers) c
  pub right : is_wrong (take i numbers) ≡ false

pub marks_start : (numbers : List ℕ) → KeepsMarks numbers (false ∷ false ∷ false ∷ false ∷ false ∷ false ∷ false ∷ false ∷ []) 0
marks_start numbers = record { places = refl; marked = λ c small. get_or-replicate 8 c false false small; right = refl }

-- whether a channel is marked, as the code reads it
read_mark : (numbers : List ℕ) (chosen : List Bool) (i x : ℕ) (d : Bool) → KeepsMarks numbers chosen i → x ≤ 7 → holds (take i numbers) x ≡ slice_index_or chosen x d
read_mark numbers chosen i x d k small =
    let places = k.places in sym (get_or_default chosen x d false (omega arith) ∙ k.marked x (omega arith))

pub marks_more : (numbers : List ℕ) (chosen : List Bool) (i : ℕ) (d : Bool) → KeepsMarks numbers chosen i → i < length numbers → get_or numbers i 0 ≤ 7
    → slice_index_or chosen (get_or numbers i 0) d ≡ false
    → KeepsMarks numbers (slice_set chosen (get_or numbers i 0) true) (i + 1)
marks_more numbers chosen i d k h small unset =
    let x : ℕ = get_or numbers i 0 in
    let front : List ℕ = take i numbers in
    let next : take (i + 1) numbers ≡ front ++ x ∷ [] = take_more numbers i 0 h in
    let places = k.places in
    record {
      places = length-set chosen x true ∙ k.places;
      marked = λ c below.
          ⊎_elim
          (λ (e : c ≡ x). rw e (get_or-set_same chosen x true false (omega arith) ∙ sym (ap (λ (l : List ℕ). holds l x) next ∙ holds_at front [] x)))
          (λ (ne : c ≡ x → ⊥).
          let other : eqb x c ≡ false = ne_eqb x c (λ (e : x ≡ c). ne (sym e)) in
          get_or-set_other chosen x c true false ne ∙ k.marked c below ∙ sym (ap (λ (l : List ℕ). holds l c) next ∙ holds_more front x c ∙ rw other (or-false (holds front c))))
          (cases_eq c x);
      right = ap is_wrong next ∙ right_more front x k.right (le-ltb 7 x small) (read_mark numbers chosen i x d k small ∙ unset);
    }

refused_at : (numbers : List ℕ) (i : ℕ) → i < length numbers → is_wrong (take i numbers ++ get_or numbers i 0 ∷ drop (suc i) numbers) ≡ true → None ≡ channels_of numbers
refused_at numbers i h wrong =
    sym (cond-true (eqb (length numbers) 0 || is_wrong numbers) _ _ (or_right (eqb (length numbers) 0) (is_wrong numbers) (ap is_wrong (split_at numbers i h) ∙ wrong)))

-- a number over 7
pub marks_over : (numbers : List ℕ) (i : ℕ) → i < length numbers → 7 < get_or numbers i 0 → None ≡ channels_of numbers
marks_over numbers i h big = refused_at numbers i h (wrong_over (take i numbers) (drop (suc i) numbers) (get_or numbers i 0) (lt-ltb 7 (get_or numbers i 0) big))

-- one that stands before
pub marks_twice : (numbers : List ℕ) (chosen : List Bool) (i : ℕ) (d : Bool) → KeepsMarks numbers chosen i → i < length numbers
    → get_or numbers i 0 ≤ 7 → slice_index_or chosen (get_or numbers i 0) d ≡ true → None ≡ channels_of numbers
marks_twice numbers chosen i d k h small before =
    refused_at numbers i h
    (wrong_twice (take i numbers) (drop (suc i) numbers) (get_or numbers i 0) (read_mark numbers chosen i (get_or numbers i 0) d k small ∙ before))

-- computed: the number at each of the eight places is the place
eight_at : (c : ℕ) → c < 8 → get_or eight c 0 ≡ c
eight_at c small = eqb-true (get_or eight c 0) c (agree_below_at (λ k. eqb (get_or eight k 0) k) (λ k. true) 8 c refl small)

-- all numbers read
pub marks_done : (numbers : List ℕ) (chosen : List Bool) (i : ℕ) → KeepsMarks numbers chosen i → 0 < length numbers → length numbers ≤ i
    → Some chosen ≡ channels_of numbers
marks_done numbers chosen i k some h =
    let all : take i numbers ≡ numbers = take_all i numbers h in
    let places = k.places in
    let same : chosen ≡ map (holds numbers) eight =
    ext_get_or false chosen (map (holds numbers) eight) k.places
    (λ c below.
    let small : c < 8 = omega arith in
    k.marked c small ∙ ap (λ (l : List ℕ). holds l c) all ∙ sym (get_or-map (holds numbers) eight c 0 false small ∙ ap (holds numbers) (eight_at c small))) in
    ap (λ (l : List Bool). Some l) same
    ∙ sym (cond-false (eqb (length numbers) 0 || is_wrong numbers) _ _ (or_from _ (is_wrong numbers) (ne_eqb (length numbers) 0 (λ e. omega arith)) (ap is_wrong (sym all) ∙ k.right)))
