-- Long division is linear: it can be done for two registers and two lists of bits apart.
use Rattle.std.proofs.Common.{◌≡◌, ℕ, zero, suc, ◌-◌, ◌*◌, ◌/◌, ◌%◌, ◌^◌, ◌<◌, Bool, true, false, ◌==◌, List, [], ◌∷◌, length, inl, inr, refl, sym, ap, ap₂, ◌∙◌, arith, add-zero}
use Rattle.std.specs.Prelude.{replicate, bit_xor}
use Rattle.std.specs.Int.{bit_at}
use Rattle.std.specs.Int.Bits.{xor_assoc, xor_self, xor_zero_r, xor_shifted}
use Rattle.std.proofs.lemmas.Nat.{xor_comm, xor_shr, xor_mod, xor_block, pow_pos}
use Rattle.std.proofs.lemmas.Bool.{agree_below, agree_below_at, eqb-true, cases_lt}
use Rattle.std.proofs.lemmas.List.{length-replicate}
use Rattle.tm_bits.specs.Bits.{low_bits, digit}
use Rattle.tm_bits.proofs.BitLemmas.{length-low_bits}
use Rattle.tm_frame.specs.ErrorControl.{differ, subtract}
use Rattle.tm_frame.specs.code.Folding.{remainder_from}
use Rattle.tm_frame.proofs.Division.{subtract-zeros, zeros-subtract, test-xor, low_bits-xor, moved, remainder_from-cons, remainder_from-none}

-- ---- one bit

differ_exchange : (a b c d : Bool) → differ (differ a b) (differ c d) ≡ differ (differ a c) (differ b d)
differ_exchange a b c d = grind arith

gain-differ : (c d : Bool) → digit (differ c d) * 0x1021 ≡ bit_xor (digit c * 0x1021) (digit d * 0x1021)
gain-differ c d = grind arith

pub xor_exchange : (a b c d : ℕ) → bit_xor (bit_xor a b) (bit_xor c d) ≡ bit_xor (bit_xor a c) (bit_xor b d)
xor_exchange a b c d =
    xor_assoc a b (bit_xor c d)
    ∙ ap (bit_xor a) (sym (xor_assoc b c d) ∙ ap (λ n. bit_xor n d) (xor_comm b c) ∙ xor_assoc c b d)
    ∙ sym (xor_assoc a c (bit_xor b d))

shl-xor : (k a b : ℕ) → bit_xor a b * 2 ^ k ≡ bit_xor (a * 2 ^ k) (b * 2 ^ k)
shl-xor k a b = sym (simp add-zero at (xor_block k a b 0 0 (pow_pos k) (pow_pos k)))

moved-xor : (a b : ℕ) (x y : Bool) → moved (bit_xor a b) (differ x y) ≡ bit_xor (moved a x) (moved b y)
moved-xor a b x y =
    let c : Bool = differ x (bit_at a 15 == 1) in
    let d : Bool = differ y (bit_at b 15 == 1) in
    ap (λ n. bit_xor n (digit (differ (differ x y) (bit_at (bit_xor a b) 15 == 1)) * 0x1021)) (shl-xor 1 a b)
    ∙ ap (λ e. bit_xor (bit_xor (a * 2) (b * 2)) (digit e * 0x1021))
    (ap (differ (differ x y)) (test-xor 15 a b) ∙ differ_exchange x y (bit_at a 15 == 1) (bit_at b 15 == 1))
    ∙ ap (bit_xor (bit_xor (a * 2) (b * 2))) (gain-differ c d)
    ∙ xor_exchange (a * 2) (b * 2) (digit c * 0x1021) (digit d * 0x1021)

-- ---- all bits

-- a remainder is linear, in the register and in the bits
pub remainder_from-xor : (a b : ℕ) (xs ys : List Bool) → length xs ≡ length ys
    → remainder_from (bit_xor a b) (subtract xs ys) ≡ bit_xor (remainder_from a xs) (remainder_from b ys)
unfolding subtract
remainder_from-xor a b [] [] same =
    remainder_from-none (bit_xor a b) ∙ xor_mod a b 16 ∙ sym (ap₂ bit_xor (remainder_from-none a) (remainder_from-none b))
remainder_from-xor a b [] (y ∷ ys) same = absurd (omega arith)
remainder_from-xor a b (x ∷ xs) [] same = absurd (omega arith)
remainder_from-xor a b (x ∷ xs) (y ∷ ys) same =
    remainder_from-cons (bit_xor a b) (differ x y) (subtract xs ys)
    ∙ ap (λ r. remainder_from r (subtract xs ys)) (moved-xor a b x y)
    ∙ remainder_from-xor (moved a x) (moved b y) xs ys (omega arith)
    ∙ sym (ap₂ bit_xor (remainder_from-cons a x xs) (remainder_from-cons b y ys))

-- zeros leave a register of zeros as it is
pub remainder_from-zeros : (n : ℕ) → remainder_from 0 (replicate n false) ≡ 0
remainder_from-zeros n =
    let z : List Bool = replicate n false in
    ap (remainder_from 0) (sym (subtract-zeros n z)) ∙ remainder_from-xor 0 0 z z refl ∙ xor_self (remainder_from 0 z)

-- the register apart from the bits
pub remainder_from-apart : (register : ℕ) (bits : List Bool)
    → remainder_from register bits ≡ bit_xor (remainder_from register (replicate (length bits) false)) (remainder_from 0 bits)
remainder_from-apart register bits =
    ap₂ remainder_from (sym (xor_zero_r register)) (sym (zeros-subtract bits))
    ∙ remainder_from-xor register 0 (replicate (length bits) false) bits (length-replicate (length bits) false)

-- ---- linear functions

pub record IsLinear (f : ℕ → ℕ) : Type 0 where
  pub joins : (a b : ℕ) → f (bit_xor a b) ≡ bit_xor (f a) (f b)

pub same_linear : IsLinear (λ n. n)
same_linear = record { joins = λ a b. refl }

pub sum_linear : {f g : ℕ → ℕ} → IsLinear f → IsLinear g → IsLinear (λ n. bit_xor (f n) (g n))
sum_linear {f} {g} p q = record { joins = λ a b. ap₂ bit_xor (p.joins a b) (q.joins a b) ∙ xor_exchange (f a) (f b) (g a) (g b) }

pub after_linear : {f g : ℕ → ℕ} → IsLinear f → IsLinear g → IsLinear (λ n. f (g n))
after_linear {f} {g} p q = record { joins = λ a b. ap f (q.joins a b) ∙ p.joins (g a) (g b) }

pub shr_linear : (k : ℕ) → IsLinear (λ n. n / 2 ^ k)
shr_linear k = record { joins = λ a b. xor_shr a b k }

pub shl_linear : (k w : ℕ) → IsLinear (λ n. n * 2 ^ k % 2 ^ w)
shl_linear k w = record { joins = λ a b. ap (λ n. n % 2 ^ w) (shl-xor k a b) ∙ xor_mod (a * 2 ^ k) (b * 2 ^ k) w }

-- the register after zeros
pub passed_linear : (n : ℕ) → IsLinear (λ register. remainder_from register (replicate n false))
passed_linear n = record {
  joins = λ a b.
      let z : List Bool = replicate n false in
      ap (remainder_from (bit_xor a b)) (sym (subtract-zeros n z)) ∙ remainder_from-xor a b z z refl;
}

-- the remainder of a number's bits
pub bits_linear : (k : ℕ) → IsLinear (λ n. remainder_from 0 (low_bits k n))
bits_linear k = record {
  joins = λ a b.
      ap (remainder_from 0) (low_bits-xor k a b)
      ∙ remainder_from-xor 0 0 (low_bits k a) (low_bits k b) (length-low_bits k a ∙ sym (length-low_bits k b));
}

pub zero_linear : (f : ℕ → ℕ) → IsLinear f → f 0 ≡ 0
zero_linear f p = p.joins 0 0 ∙ xor_self (f 0)

-- two that agree on two numbers agree on their sum
pub agree_joined : (f g : ℕ → ℕ) → IsLinear f → IsLinear g → (a b : ℕ) → f a ≡ g a → f b ≡ g b → f (bit_xor a b) ≡ g (bit_xor a b)
agree_joined f g p q a b x y = p.joins a b ∙ ap₂ bit_xor x y ∙ sym (q.joins a b)

-- two functions agree at each number below n
abbrev pub agree : (ℕ → ℕ) → (ℕ → ℕ) → ℕ → Bool
agree f g n = agree_below (λ k. f k == g k) (λ k. true) n

pub agree_at : (f g : ℕ → ℕ) (n k : ℕ) → agree f g n ≡ true → k < n → f k ≡ g k
agree_at f g n k h below = eqb-true (f k) (g k) (agree_below_at (λ j. f j == g j) (λ j. true) n k h below)

-- two that agree on the powers of 2 below one agree on all numbers below it
agree_all : (f g : ℕ → ℕ) → IsLinear f → IsLinear g → (n : ℕ) → ((k : ℕ) → k < n → f (2 ^ k) ≡ g (2 ^ k)) → (x : ℕ) → x < 2 ^ n → f x ≡ g x
agree_all f g p q zero h x small =
    let none : x ≡ 0 = omega arith in ap f none ∙ zero_linear f p ∙ sym (ap g none ∙ zero_linear g q)
agree_all f g p q (suc n) h x small =
    elim (cases_lt x (2 ^ n)) [
      | inl lower ↦ agree_all f g p q n (λ k below. h k (omega arith)) x lower
      | inr upper ↦
          let y : ℕ = x - 2 ^ n in
          let less : y < 2 ^ n = omega arith in
          let one : 2 ^ n ≡ 1 * 2 ^ n = omega arith in
          let whole : x ≡ bit_xor (2 ^ n) y = sym (ap (λ m. bit_xor m y) one ∙ xor_shifted 1 n y less ∙ omega arith) in
          ap f whole
          ∙ agree_joined f g p q (2 ^ n) y (h n (omega arith)) (agree_all f g p q n (λ k below. h k (omega arith)) y less)
          ∙ sym (ap g whole)
    ]

pub linear_agree : (f g : ℕ → ℕ) → IsLinear f → IsLinear g → (n : ℕ) → agree (λ k. f (2 ^ k)) (λ k. g (2 ^ k)) n ≡ true → (x : ℕ) → x < 2 ^ n → f x ≡ g x
linear_agree f g p q n h = agree_all f g p q n (λ k below. agree_at (λ j. f (2 ^ j)) (λ j. g (2 ^ j)) n k h below)
