-- Slices of the bits of octets as quotients and remainders.
use Rattle.std.proofs.Common.{◌≡◌, ℕ, zero, suc, ◌+◌, ◌-◌, ◌*◌, ◌/◌, ◌%◌, ◌^◌, ◌<◌, ◌≤◌, Bool, List, ◌∷◌, ◌++◌, length, take, drop, refl, sym, ap, ◌∙◌, subst, arith, length-drop, length-take, pow_mono}
use Rattle.std.proofs.lemmas.Nat.{field_of, shr_high, mod_low, pow-add}
use Rattle.std.proofs.lemmas.List.{take-append-drop, length-take-le, take-append-le, drop-append-le, get_or-drop}
use Rattle.std.proofs.Math.Seq.{drop-append-add}
use Rattle.std.proofs.Math.Nat.{pow-suc}
use Rattle.std.specs.Prelude.{slice_range}
use Rattle.tm_bits.specs.Bits.{AreOctets, low_bits, bits_of, number, part}
use Rattle.tm_bits.proofs.BitLemmas.{number-low_bits, number-append, number-lt, length-bits_of, bits_of-append}

-- the number of bits, by the number of the first k and that of the others
number-parts : (k : ℕ) (xs : List Bool)
    → (number (drop k xs) < 2 ^ (length xs - k)) × (number xs ≡ number (take k xs) * 2 ^ (length xs - k) + number (drop k xs))
number-parts k xs =
    let front : List Bool = take k xs in
    let back : List Bool = drop k xs in
    let l : length back ≡ length xs - k = length-drop k xs in (
      subst (λ n. number back < 2 ^ n) l (number-lt back),
      ap number (sym (take-append-drop k xs)) ∙ number-append front back ∙ ap (λ n. number front * 2 ^ n + number back) l,
    )

-- the first bits are the number without its low bits
number-take : (k : ℕ) (xs : List Bool) → number (take k xs) ≡ number xs / 2 ^ (length xs - k)
number-take k xs =
    let (small, whole) = number-parts k xs in
    sym (ap (λ n. n / 2 ^ (length xs - k)) whole ∙ shr_high (number (take k xs)) (length xs - k) (number (drop k xs)) small)

-- the last bits are its low bits
number-drop : (k : ℕ) (xs : List Bool) → number (drop k xs) ≡ number xs % 2 ^ (length xs - k)
number-drop k xs =
    let (small, whole) = number-parts k xs in
    sym (ap (λ n. n % 2 ^ (length xs - k)) whole ∙ mod_low (number (take k xs)) (length xs - k) (number (drop k xs)) small)

-- a slice of bits as a number
pub number-slice : (xs : List Bool) (from to : ℕ) → from ≤ to → to ≤ length xs
    → number (slice_range xs from to) ≡ number xs / 2 ^ (length xs - to) % 2 ^ (to - from)
number-slice xs from to ordered inside =
    let back : List Bool = drop from xs in
    let l : length back ≡ length xs - from = length-drop from xs in
    let left : length back - (to - from) ≡ length xs - to = omega arith in
    let width : length xs - from ≡ (to - from) + (length xs - to) = omega arith in
    number-take (to - from) back
    ∙ ap (λ n. number back / 2 ^ n) left
    ∙ ap (λ n. n / 2 ^ (length xs - to)) (number-drop from xs)
    ∙ ap (λ n. number xs % 2 ^ n / 2 ^ (length xs - to)) width
    ∙ field_of (number xs) (to - from) (length xs - to)

pub octets_after : (x : ℕ) (xs : List ℕ) → AreOctets (x ∷ xs) → AreOctets xs
octets_after x xs h = record { below = λ i. h.below (suc i) }

pub octets_behind : (k : ℕ) (xs : List ℕ) → AreOctets xs → AreOctets (drop k xs)
octets_behind k xs h = record { below = λ i. rw (get_or-drop k xs i 0) (h.below (k + i)) }

pub pow-octets : (n : ℕ) → 2 ^ (8 * n) ≡ 256 ^ n
pow-octets zero = refl
pow-octets (suc n) =
    let more : 8 * suc n ≡ 8 * n + 8 = omega arith in
    ap (λ m. 2 ^ m) more ∙ pow-add 2 (8 * n) 8 ∙ ap (λ p. p * 256) (pow-octets n) ∙ sym (pow-suc 256 n)

-- an octet in front adds its place value
pub number-bits_of-cons : (x : ℕ) (xs : List ℕ) → x < 256 → number (bits_of (x ∷ xs)) ≡ x * 256 ^ length xs + number (bits_of xs)
unfolding bits_of
number-bits_of-cons x xs small =
    let top : number (low_bits 8 x) ≡ x = number-low_bits 8 x ∙ omega arith in
    number-append (low_bits 8 x) (bits_of xs)
    ∙ rw (length-bits_of xs, top, pow-octets (length xs)) refl

-- the bits of the first n octets, and those of the others
bits_apart : (n : ℕ) (octets : List ℕ) → bits_of octets ≡ bits_of (take n octets) ++ bits_of (drop n octets)
bits_apart n octets = ap bits_of (sym (take-append-drop n octets)) ∙ bits_of-append (take n octets) (drop n octets)

pub length-bits_of-take : (n : ℕ) (octets : List ℕ) → n ≤ length octets → length (bits_of (take n octets)) ≡ 8 * n
length-bits_of-take n octets room = length-bits_of (take n octets) ∙ ap (λ m. 8 * m) (length-take-le n octets room)

-- a part within the first n octets
pub part-front : (n : ℕ) (octets : List ℕ) (from to : ℕ) → n ≤ length octets → from ≤ to → to ≤ 8 * n → part octets from to ≡ part (take n octets) from to
unfolding part
part-front n octets from to room ordered inside =
    let front : List Bool = bits_of (take n octets) in
    let back : List Bool = bits_of (drop n octets) in
    let l : length front ≡ 8 * n = length-bits_of-take n octets room in
    let left : length (drop from front) ≡ length front - from = length-drop from front in
    ap (λ bits. number (slice_range bits from to)) (bits_apart n octets)
    ∙ ap (λ bits. number (take (to - from) bits)) (drop-append-le from front back (omega arith))
    ∙ ap number (take-append-le (to - from) (drop from front) back (omega arith))

-- by the number that these spell
pub part-word : (n : ℕ) (octets : List ℕ) (from to : ℕ) → n ≤ length octets → from ≤ to → to ≤ 8 * n
    → part octets from to ≡ number (bits_of (take n octets)) / 2 ^ (8 * n - to) % 2 ^ (to - from)
unfolding part
part-word n octets from to room ordered inside =
    let front : List Bool = bits_of (take n octets) in
    let l : length front ≡ 8 * n = length-bits_of-take n octets room in
    part-front n octets from to room ordered inside
    ∙ number-slice front from to ordered (omega arith)
    ∙ ap (λ m. number front / 2 ^ (m - to) % 2 ^ (to - from)) l

-- a part after k octets
pub part-behind : (k : ℕ) (octets : List ℕ) (from to : ℕ) → k ≤ length octets → from ≤ to
    → part octets (8 * k + from) (8 * k + to) ≡ part (drop k octets) from to
unfolding part
part-behind k octets from to room ordered =
    let front : List Bool = bits_of (take k octets) in
    let back : List Bool = bits_of (drop k octets) in
    let width : 8 * k + to - (8 * k + from) ≡ to - from = omega arith in
    ap (λ bits. number (slice_range bits (8 * k + from) (8 * k + to))) (bits_apart k octets)
    ∙ ap (λ m. number (take m (drop (8 * k + from) (front ++ back)))) width
    ∙ ap (λ m. number (take (to - from) (drop (m + from) (front ++ back)))) (sym (length-bits_of-take k octets room))
    ∙ ap (λ bits. number (take (to - from) bits)) (drop-append-add front back from)

-- a part of n bits is below 2 ^ n, also where bits are missing
pub part-lt : (octets : List ℕ) (from to : ℕ) → part octets from to < 2 ^ (to - from)
unfolding part
part-lt octets from to =
    let bits : List Bool = slice_range (bits_of octets) from to in
    let short : length bits ≤ to - from = omega (arith, length-take (to - from) (drop from (bits_of octets))) in
    let less : 2 ^ length bits ≤ 2 ^ (to - from) = pow_mono short in
    omega (arith, number-lt bits)
