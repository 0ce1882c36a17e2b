-- Lists of bits as numbers.
use Rattle.std.proofs.Common.{◌≡◌, ℕ, zero, suc, ◌+◌, ◌*◌, ◌/◌, ◌%◌, ◌^◌, ◌<◌, ◌≤◌, Bool, true, false, List, [], ◌∷◌, ◌++◌, length, ◌==◌, refl, sym, ap, ◌∙◌, arith, length-append, append_assoc, zero-add}
use Rattle.std.proofs.Math.Nat.{pow-suc, mul-le-mul_right}
use Rattle.std.proofs.lemmas.List.{append-nil}
use Rattle.std.proofs.lemmas.Nat.{pow-add, mod-pow-add, shr_high, shr-shr, shr_split}
use Rattle.std.proofs.lemmas.Nat.Bits.{bit_at_cat_low}
use Rattle.std.specs.Int.{bit_at}
use Rattle.tm_bits.specs.Bits.{low_bits, bits_of, digit, number}

pub length-low_bits : (k x : ℕ) → length (low_bits k x) ≡ k
unfolding low_bits
length-low_bits zero x = refl
length-low_bits (suc k) x = let e = length-low_bits k x in omega (arith, e)

-- a number below 2 is the digit of its test
digit-test : (n : ℕ) → n < 2 → digit (n == 1) ≡ n
digit-test zero h = refl
digit-test (suc zero) h = refl
digit-test (suc (suc n)) h = absurd (omega arith)

pub digit-lt : (b : Bool) → digit b < 2
digit-lt false = omega arith
digit-lt true = omega arith

pub number-low_bits : (k x : ℕ) → number (low_bits k x) ≡ x % 2 ^ k
unfolding low_bits number
number-low_bits zero x = omega arith
number-low_bits (suc k) x =
    let small : bit_at x k < 2 = omega arith in
    let e : suc k ≡ 1 + k = omega arith in
    let split : x % 2 ^ suc k ≡ (x / 2 ^ k % 2) * 2 ^ k + x % 2 ^ k = rw e (mod-pow-add x 1 k) in
    rw (digit-test (bit_at x k) small, length-low_bits k x, number-low_bits k x, split) refl

pub number-append : (xs ys : List Bool) → number (xs ++ ys) ≡ number xs * 2 ^ length ys + number ys
unfolding number
number-append [] ys = omega arith
number-append (x ∷ xs) ys =
    let l : 2 ^ length (xs ++ ys) ≡ 2 ^ length xs * 2 ^ length ys = rw (length-append xs ys, pow-add 2 (length xs) (length ys)) refl in
    rw (number-append xs ys, l) (grind arith)

pub number-lt : (xs : List Bool) → number xs < 2 ^ length xs
unfolding number
number-lt [] = omega arith
number-lt (x ∷ xs) =
    let rest = number-lt xs in
    let one : digit x * 2 ^ length xs ≤ 1 * 2 ^ length xs = mul-le-mul_right (2 ^ length xs) (let h = digit-lt x in omega arith) in
    let e : 2 ^ suc (length xs) ≡ 2 ^ length xs * 2 = pow-suc 2 (length xs) in
    omega arith

-- the bits below a place do not see what stands above it
pub low_bits-cat : (n a k y : ℕ) → n ≤ k → low_bits n (a * 2 ^ k + y) ≡ low_bits n y
unfolding low_bits
low_bits-cat zero a k y h = refl
low_bits-cat (suc n) a k y h =
    let one : bit_at (a * 2 ^ k + y) n ≡ bit_at y n = bit_at_cat_low a k y n (omega arith) in
    let rest = low_bits-cat n a k y (omega arith) in
    rw (one, rest) refl

pub low_bits-mod : (k n : ℕ) → low_bits k (n % 2 ^ k) ≡ low_bits k n
low_bits-mod k n = sym (low_bits-cat k (n / 2 ^ k) k (n % 2 ^ k) (omega arith)) ∙ ap (low_bits k) (shr_split n k)

digit-is_one : (b : Bool) → (digit b == 1) ≡ b
digit-is_one false = refl
digit-is_one true = refl

-- the bits of the number that bits spell are these bits
pub low_bits-number : (xs : List Bool) → low_bits (length xs) (number xs) ≡ xs
unfolding low_bits number
low_bits-number [] = refl
low_bits-number (x ∷ xs) =
    let small = number-lt xs in
    let top : (digit x * 2 ^ length xs + number xs) / 2 ^ length xs ≡ digit x = shr_high (digit x) (length xs) (number xs) small in
    let d = digit-lt x in
    let one : bit_at (digit x * 2 ^ length xs + number xs) (length xs) ≡ digit x = rw top (omega arith) in
    rw (one, digit-is_one x, low_bits-cat (length xs) (digit x) (length xs) (number xs) (omega arith), low_bits-number xs) refl

pub bits_spelled : (n w : ℕ) (xs : List Bool) → length xs ≡ n → w ≡ number xs → low_bits n w ≡ xs
bits_spelled n w xs l e = rw (e, ← l) (low_bits-number xs)

-- the high bits, and then the low ones
pub low_bits-split : (j k x : ℕ) → low_bits (j + k) x ≡ low_bits j (x / 2 ^ k) ++ low_bits k x
unfolding low_bits
low_bits-split zero k x = ap (λ n. low_bits n x) (zero-add k)
low_bits-split (suc j) k x =
    let more : suc j + k ≡ suc (j + k) = omega arith in
    let top : bit_at x (j + k) ≡ bit_at (x / 2 ^ k) j =
    ap (λ n. n % 2) (ap (λ n. x / 2 ^ n) (let e : j + k ≡ k + j = omega arith in e) ∙ sym (shr-shr x k j)) in
    ap (λ n. low_bits n x) more ∙ rw (top, low_bits-split j k x) refl

-- eight bits for each octet
pub length-bits_of : (octets : List ℕ) → length (bits_of octets) ≡ 8 * length octets
unfolding bits_of
length-bits_of [] = refl
length-bits_of (x ∷ xs) =
    rw (length-append (low_bits 8 x) (bits_of xs), length-low_bits 8 x) (omega (arith, length-bits_of xs))

pub bits_of-append : (xs ys : List ℕ) → bits_of (xs ++ ys) ≡ bits_of xs ++ bits_of ys
unfolding bits_of
bits_of-append [] ys = refl
bits_of-append (x ∷ xs) ys = rw (bits_of-append xs ys) (sym (append_assoc (low_bits 8 x) (bits_of xs) (bits_of ys)))

pub bits_of-one : (x : ℕ) → bits_of (x ∷ []) ≡ low_bits 8 x
unfolding bits_of
bits_of-one x = append-nil (low_bits 8 x)
