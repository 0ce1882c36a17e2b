-- Folding: bits may be taken away where they are subtracted at three later places.
use Rattle.std.proofs.Common.{◌≡◌, ℕ, ◌+◌, ◌*◌, Bool, true, false, List, [], ◌∷◌, ◌++◌, length, refl, sym, ap, ap₂, ◌∙◌, arith}
use Rattle.std.specs.Prelude.{replicate, bit_xor}
use Rattle.std.proofs.lemmas.List.{replicate-append-replicate}
use Rattle.tm_bits.specs.Bits.{low_bits, number}
use Rattle.tm_frame.specs.ErrorControl.{subtract, long_division}
use Rattle.tm_frame.specs.code.Folding.{Folds, remainder_from, shifted}
use Rattle.tm_frame.proofs.Division.{remainder_from-append}
use Rattle.tm_frame.proofs.Linear.{IsLinear, sum_linear, passed_linear, zero_linear, agree_joined, remainder_from-zeros, remainder_from-apart}

-- ---- the widths

-- computed: a single 1 is divided
pub folds_64 : Folds 64
unfolding remainder_from number long_division subtract low_bits
folds_64 = record { sum = refl }

pub folds_32 : Folds 32
unfolding remainder_from number long_division subtract low_bits
folds_32 = record { sum = refl }

pub folds_16 : Folds 16
unfolding remainder_from number long_division subtract low_bits
folds_16 = record { sum = refl }

-- ---- zeros after

-- the register after n zeros
abbrev pub passed : ℕ → ℕ → ℕ
passed n register = remainder_from register (replicate n false)

pub shifted-passed : (n : ℕ) (xs : List Bool) → shifted n xs ≡ passed n (remainder_from 0 xs)
shifted-passed n xs = remainder_from-append 0 xs (replicate n false)

pub passed-add : (m n register : ℕ) → passed (m + n) register ≡ passed n (passed m register)
passed-add m n register =
    ap (remainder_from register) (sym (replicate-append-replicate m n false)) ∙ remainder_from-append register (replicate m false) (replicate n false)

passed-swap : (m n register : ℕ) → passed n (passed m register) ≡ passed m (passed n register)
passed-swap m n register =
    let turned_round : m + n ≡ n + m = omega arith in
    sym (passed-add m n register) ∙ ap (λ k. passed k register) turned_round ∙ passed-add n m register

-- zeros in front are passed over
pub zeros-passed : (n : ℕ) (ys : List Bool) → remainder_from 0 (replicate n false ++ ys) ≡ remainder_from 0 ys
zeros-passed n ys = remainder_from-append 0 (replicate n false) ys ∙ ap (λ r. remainder_from r ys) (remainder_from-zeros n)

-- bits in front apart from those after
pub remainder-apart : (xs ys : List Bool) → remainder_from 0 (xs ++ ys) ≡ bit_xor (shifted (length ys) xs) (remainder_from 0 ys)
remainder-apart xs ys =
    remainder_from-append 0 xs ys
    ∙ remainder_from-apart (remainder_from 0 xs) ys
    ∙ ap (λ r. bit_xor r (remainder_from 0 ys)) (sym (shifted-passed (length ys) xs))

-- ---- the law

-- what three later places give
abbrev folded : ℕ → ℕ → ℕ
folded width register = bit_xor (passed (12 * width) register) (bit_xor (passed (5 * width) register) (passed 0 register))

abbrev Law : ℕ → ℕ → Type 0
Law width register = passed (16 * width) register ≡ folded width register

folded_linear : (width : ℕ) → IsLinear (folded width)
folded_linear width = sum_linear (passed_linear (12 * width)) (sum_linear (passed_linear (5 * width)) (passed_linear 0))

-- it holds of a register of zeros, of a sum, and after zeros
zero-folds : (width register : ℕ) → register ≡ 0 → Law width register
zero-folds width register e =
    ap (passed (16 * width)) e ∙ zero_linear (passed (16 * width)) (passed_linear (16 * width)) ∙ sym (ap (folded width) e ∙ zero_linear (folded width) (folded_linear width))

sum-folds : (width register a b : ℕ) → register ≡ bit_xor a b → Law width a → Law width b → Law width register
sum-folds width register a b e x y =
    ap (passed (16 * width)) e
    ∙ agree_joined (passed (16 * width)) (folded width) (passed_linear (16 * width)) (folded_linear width) a b x y
    ∙ sym (ap (folded width) e)

passed-folds : (width m register : ℕ) → Law width register → Law width (passed m register)
passed-folds width m register h =
    let places : folded width (passed m register) ≡ bit_xor (passed m (passed (12 * width) register)) (bit_xor (passed m (passed (5 * width) register)) (passed m (passed 0 register))) =
    ap₂ bit_xor (passed-swap m (12 * width) register) (ap₂ bit_xor (passed-swap m (5 * width) register) (passed-swap m 0 register)) in
    let joins = (passed_linear m).joins in
    passed-swap m (16 * width) register
    ∙ ap (passed m) h
    ∙ joins (passed (12 * width) register) (bit_xor (passed (5 * width) register) (passed 0 register))
    ∙ ap (bit_xor (passed m (passed (12 * width) register))) (joins (passed (5 * width) register) (passed 0 register))
    ∙ sym places

-- of one bit
one-folds : (width : ℕ) → Folds width → Law width (remainder_from 0 (true ∷ []))
one-folds width folds =
    let one : List Bool = true ∷ [] in
    sym (shifted-passed (16 * width) one)
    ∙ folds.sum
    ∙ ap₂ bit_xor (shifted-passed (12 * width) one) (ap₂ bit_xor (shifted-passed (5 * width) one) (shifted-passed 0 one))

bit-folds : (width : ℕ) (b : Bool) → Folds width → Law width (remainder_from 0 (b ∷ []))
bit-folds width true folds = one-folds width folds
bit-folds width false folds = zero-folds width (remainder_from 0 (false ∷ [])) (remainder_from-zeros 1)

-- of any bits
all-fold : (width : ℕ) (xs : List Bool) → Folds width → Law width (remainder_from 0 xs)
all-fold width [] folds = zero-folds width (remainder_from 0 []) (remainder_from-zeros 0)
all-fold width (b ∷ xs) folds =
    let first : ℕ = passed (length xs) (remainder_from 0 (b ∷ [])) in
    let apart : remainder_from 0 (b ∷ xs) ≡ bit_xor first (remainder_from 0 xs) =
    remainder-apart (b ∷ []) xs ∙ ap (λ r. bit_xor r (remainder_from 0 xs)) (shifted-passed (length xs) (b ∷ [])) in
    sum-folds width (remainder_from 0 (b ∷ xs)) first (remainder_from 0 xs) apart
    (passed-folds width (length xs) (remainder_from 0 (b ∷ [])) (bit-folds width b folds)) (all-fold width xs folds)

-- bits may be taken away where they are subtracted 4, 11 and 16 times `width` bits further on
pub bits-fold : (width m : ℕ) (xs : List Bool) → Folds width
    → shifted (m + 16 * width) xs ≡ bit_xor (shifted (m + 12 * width) xs) (bit_xor (shifted (m + 5 * width) xs) (shifted m xs))
bits-fold width m xs folds =
    let none : m ≡ m + 0 = omega arith in
    let at : (k : ℕ) → shifted (m + k) xs ≡ passed k (passed m (remainder_from 0 xs)) = λ k. shifted-passed (m + k) xs ∙ passed-add m k (remainder_from 0 xs) in
    at (16 * width)
    ∙ passed-folds width m (remainder_from 0 xs) (all-fold width xs folds)
    ∙ sym (ap₂ bit_xor (at (12 * width)) (ap₂ bit_xor (at (5 * width)) (ap (λ k. shifted k xs) none ∙ at 0)))
