-- Long division, bit by bit: what is left of it is a register of 16 bits.
use Rattle.std.proofs.Common.{◌≡◌, ℕ, zero, suc, ◌+◌, ◌*◌, ◌%◌, ◌^◌, ◌<◌, ◌≤◌, Bool, true, false, cond, ◌==◌, List, [], ◌∷◌, ◌++◌, length, take, drop, refl, sym, ap, ◌∙◌, arith, length-append}
use Rattle.std.specs.Prelude.{replicate, bit_xor}
use Rattle.std.specs.Int.{bit_at}
use Rattle.std.proofs.lemmas.Nat.{shl-shr}
use Rattle.std.proofs.lemmas.Nat.Bits.{bit_at-zero, bit_at-lt, bit_at_xor}
use Rattle.std.proofs.lemmas.List.{take-append-drop}
use Rattle.std.proofs.lemmas.Bool.Decides.{nat_tests}
use Rattle.tm_bits.specs.Bits.{low_bits, bits_of, digit, number}
use Rattle.tm_bits.proofs.BitLemmas.{length-low_bits, number-low_bits, low_bits-cat, low_bits-mod, low_bits-split, length-bits_of, bits_of-append}
use Rattle.tm_frame.specs.ErrorControl.{differ, generator, subtract, long_division, invert_first, error_control_of}
use Rattle.tm_frame.specs.code.Folding.{remainder_from}

-- ---- bits are subtracted

differ_assoc : (a b c : Bool) → differ (differ a b) c ≡ differ a (differ b c)
differ_assoc a b c = grind arith

differ-false : (a : Bool) → differ a false ≡ a
differ-false false = refl
differ-false true = refl

subtract_assoc : (xs ps qs : List Bool) → length qs ≤ length ps → subtract (subtract xs ps) qs ≡ subtract xs (subtract ps qs)
unfolding subtract
subtract_assoc [] ps qs h = refl
subtract_assoc (x ∷ xs) [] [] h = refl
subtract_assoc (x ∷ xs) [] (b ∷ qs) h = absurd (omega arith)
subtract_assoc (x ∷ xs) (a ∷ ps) [] h = refl
subtract_assoc (x ∷ xs) (a ∷ ps) (b ∷ qs) h = rw (differ_assoc x a b, subtract_assoc xs ps qs (omega arith)) refl

pub subtract-zeros : (n : ℕ) (xs : List Bool) → subtract xs (replicate n false) ≡ xs
unfolding subtract
subtract-zeros n [] = refl
subtract-zeros zero (x ∷ xs) = refl
subtract-zeros (suc n) (x ∷ xs) = rw (differ-false x, subtract-zeros n xs) refl

-- a zero at the end of what is subtracted changes nothing
subtract-append_false : (xs ds : List Bool) → subtract xs (ds ++ false ∷ []) ≡ subtract xs ds
unfolding subtract
subtract-append_false [] ds = refl
subtract-append_false (x ∷ []) [] = rw differ-false refl
subtract-append_false (x ∷ y ∷ xs) [] = rw differ-false refl
subtract-append_false (x ∷ xs) (d ∷ ds) = rw (subtract-append_false xs ds) refl

-- zeros with bits subtracted are these bits
pub zeros-subtract : (ds : List Bool) → subtract (replicate (length ds) false) ds ≡ ds
unfolding subtract
zeros-subtract [] = refl
zeros-subtract (d ∷ ds) = rw (zeros-subtract ds) refl

-- ---- the bits of numbers

low_bits-cons : (k x : ℕ) → low_bits (suc k) x ≡ (bit_at x k == 1) ∷ low_bits k x
unfolding low_bits
low_bits-cons k x = refl

pub low_bits-zero : (n : ℕ) → low_bits n 0 ≡ replicate n false
unfolding low_bits
low_bits-zero zero = refl
low_bits-zero (suc n) = rw (bit_at-zero n, low_bits-zero n) refl

pub low_bits-shl : (j k x : ℕ) → low_bits (j + k) (x * 2 ^ k) ≡ low_bits j x ++ replicate k false
low_bits-shl j k x =
    let none : x * 2 ^ k ≡ x * 2 ^ k + 0 = omega arith in
    let low : low_bits k (x * 2 ^ k) ≡ replicate k false = ap (low_bits k) none ∙ low_bits-cat k x k 0 (omega arith) ∙ low_bits-zero k in
    low_bits-split j k (x * 2 ^ k) ∙ ap (λ n. low_bits j n ++ low_bits k (x * 2 ^ k)) (shl-shr x k) ∙ ap (λ l. low_bits j x ++ l) low

test-sum : (a b : ℕ) → a < 2 → b < 2 → ((a + b) % 2 == 1) ≡ differ (a == 1) (b == 1)
test-sum a b h k = grind (arith, nat_tests)

pub test-xor : (k x y : ℕ) → (bit_at (bit_xor x y) k == 1) ≡ differ (bit_at x k == 1) (bit_at y k == 1)
test-xor k x y = ap (λ n. n == 1) (bit_at_xor x y k) ∙ test-sum (bit_at x k) (bit_at y k) (bit_at-lt x k) (bit_at-lt y k)

-- the bits of two numbers' `^`
pub low_bits-xor : (k x y : ℕ) → low_bits k (bit_xor x y) ≡ subtract (low_bits k x) (low_bits k y)
unfolding low_bits subtract
low_bits-xor zero x y = refl
low_bits-xor (suc k) x y = rw (test-xor k x y, low_bits-xor k x y) refl

-- ---- a register goes on by one bit

-- the register after a bit: its own first bit goes, and where that differs from the bit the generator is subtracted
abbrev pub moved : ℕ → Bool → ℕ
moved register b = bit_xor (register * 2) (digit (differ b (bit_at register 15 == 1)) * 0x1021)

low_bits-moved : (register : ℕ) (c : Bool)
    → low_bits 16 (bit_xor (register * 2) (digit c * 0x1021)) ≡ subtract (low_bits 15 register ++ false ∷ []) (low_bits 16 (digit c * 0x1021))
low_bits-moved register c =
    low_bits-xor 16 (register * 2) (digit c * 0x1021) ∙ ap (λ l. subtract l (low_bits 16 (digit c * 0x1021))) (low_bits-shl 15 1 register)

-- one step of division: what is left, with the register subtracted, is what is left with the next register subtracted
step : (c : Bool) (xs register : List Bool) → length register ≡ 15
    → drop 1 (cond c (subtract (c ∷ subtract xs register) generator) (c ∷ subtract xs register))
    ≡ subtract xs (subtract (register ++ false ∷ []) (low_bits 16 (digit c * 0x1021)))
unfolding subtract low_bits
step false xs register h =
    sym (ap (subtract xs) (subtract-zeros 16 (register ++ false ∷ [])) ∙ subtract-append_false xs register)
step true xs register h =
    let grown : length (register ++ false ∷ []) ≡ 16 = simp length-append (omega arith) in
    ap (λ ys. subtract ys (drop 1 generator)) (sym (subtract-append_false xs register))
    ∙ subtract_assoc xs (register ++ false ∷ []) (drop 1 generator) (omega (arith, grown))

pub remainder_from-cons : (register : ℕ) (b : Bool) (bits : List Bool) → remainder_from register (b ∷ bits) ≡ remainder_from (moved register b) bits
unfolding remainder_from long_division subtract
remainder_from-cons register b bits =
    let c : Bool = differ b (bit_at register 15 == 1) in
    let rest : List Bool = bits ++ replicate 16 false in
    ap (λ l. number (long_division (suc (length bits)) (subtract (b ∷ rest) l))) (low_bits-cons 15 register)
    ∙ ap (λ l. number (long_division (length bits) l))
    (step c rest (low_bits 15 register) (length-low_bits 15 register) ∙ ap (subtract rest) (sym (low_bits-moved register c)))

-- no bits leave the register as it is
pub remainder_from-none : (register : ℕ) → remainder_from register [] ≡ register % 2 ^ 16
unfolding remainder_from long_division subtract low_bits
remainder_from-none register = number-low_bits 16 register

pub remainder_from-nil : (register : ℕ) → register < 2 ^ 16 → remainder_from register [] ≡ register
remainder_from-nil register h = remainder_from-none register ∙ omega arith

-- the higher bits of a register play no part
remainder_from-mod : (register : ℕ) (bits : List Bool) → remainder_from register bits ≡ remainder_from (register % 2 ^ 16) bits
unfolding remainder_from
remainder_from-mod register bits =
    ap (λ l. number (long_division (length bits) (subtract (bits ++ replicate 16 false) l))) (sym (low_bits-mod 16 register))

-- some bits, and then the others
pub remainder_from-append : (register : ℕ) (xs ys : List Bool)
    → remainder_from register (xs ++ ys) ≡ remainder_from (remainder_from register xs) ys
remainder_from-append register [] ys = remainder_from-mod register ys ∙ ap (λ r. remainder_from r ys) (sym (remainder_from-none register))
remainder_from-append register (x ∷ xs) ys =
    remainder_from-cons register x (xs ++ ys)
    ∙ remainder_from-append (moved register x) xs ys
    ∙ ap (λ r. remainder_from r ys) (sym (remainder_from-cons register x xs))

-- what is left has 16 bits
pub remainder_from-lt : (register : ℕ) (bits : List Bool) → remainder_from register bits < 2 ^ 16
remainder_from-lt register [] = omega (arith, remainder_from-none register)
remainder_from-lt register (b ∷ bits) = rw (remainder_from-cons register b bits) (remainder_from-lt (moved register b) bits)

-- ---- octets

-- to invert bits is to subtract ones
invert_first-subtract : (n : ℕ) (xs : List Bool) → n ≤ length xs → invert_first n xs ≡ subtract xs (replicate n true)
unfolding subtract
invert_first-subtract zero xs h = sym (subtract-zeros 0 xs)
invert_first-subtract (suc n) [] h = absurd (omega arith)
invert_first-subtract (suc n) (false ∷ xs) h = rw (invert_first-subtract n xs (omega arith)) refl
invert_first-subtract (suc n) (true ∷ xs) h = rw (invert_first-subtract n xs (omega arith)) refl

-- error control starts from a register of ones
pub error_control_of-remainder : (octets : List ℕ) → error_control_of octets ≡ remainder_from 65535 (bits_of octets)
unfolding error_control_of remainder_from low_bits
error_control_of-remainder octets =
    let room : 16 ≤ length (bits_of octets ++ replicate 16 false) = simp length-append (omega arith) in
    rw (invert_first-subtract 16 (bits_of octets ++ replicate 16 false) room, ← length-bits_of octets) refl

-- some octets, and then the others
pub octets_apart : (register after n : ℕ) (octets front back : List ℕ) → front ≡ take n octets → back ≡ drop n octets
    → after ≡ remainder_from register (bits_of front) → remainder_from after (bits_of back) ≡ remainder_from register (bits_of octets)
octets_apart register after n octets front back first last moved =
    rw (moved, first, last, ← remainder_from-append register (bits_of (take n octets)) (bits_of (drop n octets)), ← bits_of-append (take n octets) (drop n octets), take-append-drop n octets) refl
