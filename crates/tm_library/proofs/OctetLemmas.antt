-- Numbers read back from their octets.
use Rattle.std.proofs.Common.{◌≡◌, ℕ, zero, suc, ◌+◌, ◌-◌, ◌*◌, ◌/◌, ◌%◌, ◌^◌, ◌<◌, ◌≤◌, Bool, List, [], length, take, drop, refl, sym, ap, ◌∙◌, arith, length-drop, inl, inr, append-nil}
use Rattle.std.proofs.Math.Nat.{add-mul, div-one, mod-eq_of_lt, mul-add-div_right, mul-add-mod_self_right, mul_assoc, one-le-pow, one-mul, pow-succ'}
use Rattle.std.proofs.lemmas.Nat.{div-mul-add, pow-add}
use Rattle.std.proofs.Math.Seq.{take-add}
use Rattle.std.proofs.lemmas.List.{drop-drop, length-take-le}
use Rattle.std.specs.Int.{byte_at, bytes_high_first}
use Rattle.tm_bits.specs.Bits.{bits_of, number, part}
use Rattle.tm_bits.proofs.BitLemmas.{length-bits_of, number-append}
use Rattle.tm_bits.proofs.PartLemmas.{part-lt, pow-octets}
use Rattle.std.proofs.Math.Pow.{pow_mono}
use Rattle.std.proofs.lemmas.Bool.{cases_lt, le-ltb, lt-ltb}
use Rattle.std.proofs.lemmas.Bool.Decides.{leb_tells}
use Rattle.byteorder.specs.Endian.{little_bytes, little_number}
use Rattle.byteorder.specs.Numbers.{little_from-bytes}
use Rattle.tm_fields.specs.Binary.{extended, number_length}
use Rattle.tm_fields.specs.Numbers.{bits_in, octets_at}
use Rattle.tm_fields.specs.Rows.{signed}

-- an octet of a number, by its power
byte_power : (k x : ℕ) → byte_at k x ≡ x / 256 ^ k % 256
byte_power zero x = ap (λ (y : ℕ). y % 256) (sym (div-one x))
byte_power (suc k) x = refl

-- the lower octets of a number say nothing of the higher ones
byte_of_low : (k n high low : ℕ) → k < n → byte_at k (high * 256 ^ n + low) ≡ byte_at k low
byte_of_low k n high low inside =
    let j : ℕ = n - suc k in
    let whole : n ≡ (j + 1) + k = omega arith in
    let powers : 256 ^ n ≡ 256 ^ j * 256 * 256 ^ k = ap (λ (m : ℕ). 256 ^ m) whole ∙ pow-add 256 (j + 1) k ∙ ap (λ (p : ℕ). p * 256 ^ k) (pow-add 256 j 1) in
    let up : ℕ = high * 256 ^ j in
    let factors : high * 256 ^ n ≡ up * 256 * 256 ^ k =
    ap (λ (p : ℕ). high * p) powers ∙ sym (mul_assoc high (256 ^ j * 256) (256 ^ k)) ∙ ap (λ (p : ℕ). p * 256 ^ k) (sym (mul_assoc high (256 ^ j) 256)) in
    byte_power k (high * 256 ^ n + low)
    ∙ ap (λ (p : ℕ). (p + low) / 256 ^ k % 256) factors
    ∙ ap (λ (p : ℕ). p % 256) (mul-add-div_right {m = 256 ^ k} (one-le-pow k 256 (omega arith)) (up * 256) low)
    ∙ mul-add-mod_self_right up 256 (low / 256 ^ k)
    ∙ sym (byte_power k low)

low_bytes_of : (k n high low : ℕ) → k ≤ n → bytes_high_first k (high * 256 ^ n + low) ≡ bytes_high_first k low
low_bytes_of zero n high low few = refl
low_bytes_of (suc k) n high low few =
    rw (byte_of_low k n high low few, low_bytes_of k n high low (omega arith)) refl

-- ---- parts of octets

-- a part, by its first octet and the others
part_behind_octet : (octets : List ℕ) (at n : ℕ) → at + 8 * suc n ≤ bits_in octets
    → part octets at (at + 8 * suc n) ≡ part octets at (at + 8) * 256 ^ n + part octets (at + 8) (at + 8 + 8 * n)
unfolding part
part_behind_octet octets at n inside =
    let bits : List Bool = drop at (bits_of octets) in
    let rest : List Bool = take (8 * n) (drop 8 bits) in
    let all : length (bits_of octets) ≡ 8 * length octets = length-bits_of octets in
    let left : length bits ≡ length (bits_of octets) - at = length-drop at (bits_of octets) in
    let after : length (drop 8 bits) ≡ length bits - 8 = length-drop 8 bits in
    let size : length rest ≡ 8 * n = length-take-le (8 * n) (drop 8 bits) (omega (arith, all, left, after)) in
    let width : at + 8 * suc n - at ≡ 8 + 8 * n = omega arith in
    let first : at + 8 - at ≡ 8 = omega arith in
    let last : at + 8 + 8 * n - (at + 8) ≡ 8 * n = omega arith in
    rw (width, first, last, ← drop-drop 8 at (bits_of octets), take-add 8 (8 * n) bits)
    (number-append (take 8 bits) rest ∙ rw (size, pow-octets n) refl)

-- the octets of a part are those from its first bit on
pub part_octets : (octets : List ℕ) (at n : ℕ) → at + 8 * n ≤ bits_in octets → bytes_high_first n (part octets at (at + 8 * n)) ≡ octets_at octets at n
part_octets octets at zero inside = refl
part_octets octets at (suc n) inside =
    let first : ℕ = part octets at (at + 8) in
    let rest : ℕ = part octets (at + 8) (at + 8 + 8 * n) in
    let eight : at + 8 - at ≡ 8 = omega arith in
    let many : at + 8 + 8 * n - (at + 8) ≡ 8 * n = omega arith in
    let small : first < 256 = rw eight at (part-lt octets at (at + 8)) in
    let fewer : rest < 256 ^ n = rw (many, pow-octets n) at (part-lt octets (at + 8) (at + 8 + 8 * n)) in
    let top : byte_at n (first * 256 ^ n + rest) ≡ first = byte_power n (first * 256 ^ n + rest) ∙ ap (λ (p : ℕ). p % 256) (div-mul-add first (256 ^ n) rest fewer) ∙ mod-eq_of_lt small in
    rw (part_behind_octet octets at n inside, top, low_bytes_of n n first rest (omega arith), part_octets octets (at + 8) n (omega arith)) refl

-- ---- numbers with their sign

-- a power of two is twice the one before
twice : (bits : ℕ) → 1 ≤ bits → 2 ^ bits ≡ 2 * 2 ^ (bits - 1)
twice bits some = let whole : bits ≡ suc (bits - 1) = omega arith in ap (λ (m : ℕ). 2 ^ m) whole ∙ pow-succ' 2 (bits - 1)

-- so many octets of a number hold what is left of it by their power
read_back : (size number : ℕ) → little_number size (little_bytes size number) ≡ number % 2 ^ (8 * size)
read_back size number =
    ap (little_number size) (sym (append-nil (little_bytes size number)))
    ∙ little_from-bytes size 0 number []
    ∙ ap (λ (n : ℕ). n % 256 ^ size) (div-one number)
    ∙ ap (λ (p : ℕ). number % p) (sym (pow-octets size))

-- a number that has few enough bits stands in the octets
pub read_back_whole : (size bits number : ℕ) → bits ≤ 8 * size → number < 2 ^ bits → little_number size (little_bytes size number) ≡ number
read_back_whole size bits number fits small =
    let more : 2 ^ bits ≤ 2 ^ (8 * size) = pow_mono fits in
    read_back size number ∙ mod-eq_of_lt (omega (arith, small, more))

-- the octets of a number whose sign is extended
abbrev spread : ℕ → ℕ → ℕ → List ℕ
spread size bits number = little_bytes size (extended bits number)

-- a negative number stands there with more ones in front
minus_back : (size bits number : ℕ) → bits ≤ 8 * size → 8 * size ≤ 64 → number < 2 ^ bits → 2 ^ (bits - 1) ≤ number
    → little_number size (spread size bits number) ≡ number + (2 ^ (8 * size) - 2 ^ bits)
minus_back size bits number fits most small minus =
    let whole : ℕ = 2 ^ (8 * size) in
    let more : 2 ^ bits ≤ whole = pow_mono fits in
    let width : 64 ≡ (64 - 8 * size) + 8 * size = omega (arith, most) in
    let times : ℕ = 2 ^ (64 - 8 * size) - 1 in
    let once : 2 ^ (64 - 8 * size) ≡ times + 1 = omega (arith, one-le-pow (64 - 8 * size) 2 (omega arith)) in
    let powers : 2 ^ 64 ≡ times * whole + whole =
    ap (λ (m : ℕ). 2 ^ m) width ∙ pow-add 2 (64 - 8 * size) (8 * size) ∙ ap (λ (p : ℕ). p * whole) once ∙ add-mul times 1 whole ∙ ap (λ (p : ℕ). times * whole + p) (one-mul whole) in
    let sum : number + (2 ^ 64 - 2 ^ bits) ≡ times * whole + (number + (whole - 2 ^ bits)) = omega (arith, powers, more) in
    rw (le-ltb number (2 ^ (bits - 1)) minus)
    (read_back size (number + (2 ^ 64 - 2 ^ bits)) ∙ ap (λ (n : ℕ). n % whole) sum
    ∙ mul-add-mod_self_right times whole (number + (whole - 2 ^ bits)) ∙ mod-eq_of_lt (omega (arith, small, more)))

-- read with its sign it is printed as it was
pub same_sign : (size bits number : ℕ) → 1 ≤ bits → bits ≤ 8 * size → 8 * size ≤ 64 → number < 2 ^ bits
    → signed (8 * size) (little_number size (spread size bits number)) ≡ signed bits number
same_sign size bits number some fits most small =
    let here = twice bits some in
    let there = twice (8 * size) (omega (arith, some, fits)) in
    let more : 2 ^ bits ≤ 2 ^ (8 * size) = pow_mono fits in
    elim (cases_lt number (2 ^ (bits - 1))) [
      | inl plus ↦
          let back = read_back_whole size bits number fits small in
          rw (lt-ltb number (2 ^ (bits - 1)) plus, back, lt-ltb number (2 ^ (8 * size - 1)) (omega (arith, plus, here, there, more))) refl
      | inr minus ↦
          let back = minus_back size bits number fits most small minus in
          let left : 2 ^ (8 * size) - (number + (2 ^ (8 * size) - 2 ^ bits)) ≡ 2 ^ bits - number = omega (arith, small, more) in
          let above = le-ltb (number + (2 ^ (8 * size) - 2 ^ bits)) (2 ^ (8 * size - 1)) (omega (arith, minus, here, there, more)) in
          rw (back, above, le-ltb number (2 ^ (bits - 1)) minus, left) refl
    ]

-- a number's octets hold its bits, and are no more than eight
pub fitting : (bits : ℕ) → 1 ≤ bits → bits ≤ 64 → (bits ≤ 8 * number_length bits) × (8 * number_length bits ≤ 64)
fitting bits some few = grind (arith, leb_tells)
