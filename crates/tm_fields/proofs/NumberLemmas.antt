-- Numbers in octets that hold them, and octets of eight bits.
use Rattle.std.proofs.Common.{◌≡◌, ℕ, zero, suc, ◌+◌, ◌-◌, ◌*◌, ◌/◌, ◌%◌, ◌^◌, ◌<◌, ◌≤◌, List, [], ◌∷◌, length, get_or, take, drop, refl, ap, ◌∙◌, arith, length-drop}
use Rattle.std.specs.Prelude.{bit_and, slice_range}
use Rattle.std.specs.Int.Bits.{mask_lt}
use Rattle.std.proofs.lemmas.Nat.{and_mask}
use Rattle.std.proofs.Math.Nat.{pow-le-pow_right}
use Rattle.std.proofs.lemmas.Nat.Bits.{ones_shr}
use Rattle.std.proofs.Math.Seq.{drop-cons}
use Rattle.std.proofs.lemmas.List.{length-take-le, take_more}
use Rattle.byteorder.specs.Endian.{big_number}
use Rattle.byteorder.specs.Numbers.{big_from-cons}
use Rattle.tm_bits.specs.Bits.{AreOctets, bits_of, number, part}
use Rattle.tm_bits.proofs.BitLemmas.{number-low_bits, number-append, length-bits_of, bits_of-append, bits_of-one}
use Rattle.tm_bits.proofs.PartLemmas.{number-bits_of-cons, octets_after, octets_behind, part-word, part-behind}
use Rattle.tm_fields.specs.Numbers.{octets_at}

number_of_one : (x : ℕ) → x < 256 → number (bits_of (x ∷ [])) ≡ x
number_of_one x h = ap number (bits_of-one x) ∙ number-low_bits 8 x ∙ omega arith

pub none_spelled : number (bits_of []) ≡ 0
unfolding bits_of number
none_spelled = refl

-- the octets up to one more place
pub one_more_spelled : (octets : List ℕ) (i : ℕ) → i < length octets → get_or octets i 0 < 256
    → number (bits_of (take (i + 1) octets)) ≡ 256 * number (bits_of (take i octets)) + get_or octets i 0
one_more_spelled octets i inside small =
    let x : ℕ = get_or octets i 0 in
    let size : length (bits_of (x ∷ [])) ≡ 8 = length-bits_of (x ∷ []) in
    rw (take_more octets i 0 inside, bits_of-append (take i octets) (x ∷ []), number-append (bits_of (take i octets)) (bits_of (x ∷ [])), size, number_of_one x small)
    (omega arith)

pub power_most : (n i : ℕ) → 0 < n → i ≤ 8 → n ^ i ≤ n ^ 8
power_most n i some few = pow-le-pow_right {n = n} some few

mask_is : (count : ℕ) → count ≤ 64 → 18446744073709551615 / 2 ^ (64 - count) ≡ 2 ^ count - 1
mask_is count few =
    let left : 64 - (64 - count) ≡ count = omega arith in ones_shr 64 (64 - count) (omega arith) ∙ ap (λ n. 2 ^ n - 1) left

-- the last bits of a word, by a mask
pub masked : (word count : ℕ) → count ≤ 64 → bit_and word (18446744073709551615 / 2 ^ (64 - count)) ≡ word % 2 ^ count
masked word count few = rw (mask_is count few) (and_mask word count)

pub masked_below : (word count : ℕ) → count ≤ 64 → bit_and word (18446744073709551615 / 2 ^ (64 - count)) < 2 ^ count
masked_below word count few = rw (mask_is count few) (mask_lt word count)

-- bits that lie in the octets from `first` up to, not with, `last`, from the number that these spell
pub part_between : (octets : List ℕ) (first last from to : ℕ) → last ≤ length octets → 8 * first ≤ from → from ≤ to → to ≤ 8 * last → first ≤ last
    → part octets from to ≡ number (bits_of (slice_range octets first last)) / 2 ^ (8 * last - to) % 2 ^ (to - from)
part_between octets first last from to inside low ordered high forward =
    let start : from ≡ 8 * first + (from - 8 * first) = omega arith in
    let stop : to ≡ 8 * first + (to - 8 * first) = omega arith in
    let room : last - first ≤ length (drop first octets) = omega (arith, length-drop first octets) in
    let behind : 8 * (last - first) - (to - 8 * first) ≡ 8 * last - to = omega arith in
    let width : to - 8 * first - (from - 8 * first) ≡ to - from = omega arith in
    ap (λ n. part octets n to) start
    ∙ ap (part octets (8 * first + (from - 8 * first))) stop
    ∙ rw (
      part-behind first octets (from - 8 * first) (to - 8 * first) (omega arith) (omega arith),
      part-word (last - first) (drop first octets) (from - 8 * first) (to - 8 * first) room (omega arith) (omega arith),
      behind,
      width,
    ) refl

-- the number of the first octets is what `byteorder` reads
number_read : (n : ℕ) (xs : List ℕ) → AreOctets xs → n ≤ length xs → number (bits_of (take n xs)) ≡ big_number n xs
unfolding bits_of number
number_read zero xs are room = refl
number_read (suc n) [] are room = absurd (omega arith)
number_read (suc n) (x ∷ xs) are room =
    number-bits_of-cons x (take n xs) (are.below 0)
    ∙ rw (length-take-le n xs (omega arith), number_read n xs (octets_after x xs are) (omega arith), big_from-cons 0 n x xs) refl

-- bits that lie in the eight octets before `last`, from the word that is read there
pub part_read : (octets : List ℕ) (last from to word : ℕ) → AreOctets octets → 8 ≤ last → last ≤ length octets → 8 * (last - 8) ≤ from → from ≤ to → to ≤ 8 * last
    → word ≡ big_number 8 (drop (last - 8) octets) → part octets from to ≡ word / 2 ^ (8 * last - to) % 2 ^ (to - from)
part_read octets last from to word are whole inside low ordered high is =
    let size : last - (last - 8) ≡ 8 = omega arith in
    let room : 8 ≤ length (drop (last - 8) octets) = omega (arith, length-drop (last - 8) octets) in
    let read = number_read 8 (drop (last - 8) octets) (octets_behind (last - 8) octets are) room in
    part_between octets (last - 8) last from to inside low ordered high (omega arith)
    ∙ rw (size, read, is) refl

-- the eight bits of an octet
part_octet : (octets : List ℕ) (i : ℕ) → AreOctets octets → i < length octets → part octets (8 * i) (8 * i + 8) ≡ get_or octets i 0
part_octet octets i are h =
    let one : i + 1 - i ≡ 1 = omega arith in
    let behind : 8 * (i + 1) - (8 * i + 8) ≡ 0 = omega arith in
    let width : 8 * i + 8 - 8 * i ≡ 8 = omega arith in
    part_between octets i (i + 1) (8 * i) (8 * i + 8) (omega arith) (omega arith) (omega arith) (omega arith) (omega arith)
    ∙ rw (one, behind, width, drop-cons octets i 0 h, number_of_one (get_or octets i 0) (are.below i)) (omega (arith, are.below i))

octets_from : (octets : List ℕ) (first count : ℕ) → AreOctets octets → first + count ≤ length octets → octets_at octets (8 * first) count ≡ take count (drop first octets)
octets_from octets first zero are h = refl
octets_from octets first (suc count) are h =
    let next : 8 * first + 8 ≡ 8 * suc first = omega arith in
    let inside : first < length octets = omega arith in
    rw (part_octet octets first are inside, next, octets_from octets (suc first) count are (omega arith), drop-cons octets first 0 inside) refl

-- octets from the first bit of an octet on are octets of the list
pub octets_at_border : (octets : List ℕ) (at count : ℕ) → AreOctets octets → at % 8 ≡ 0 → at / 8 + count ≤ length octets
    → slice_range octets (at / 8) (at / 8 + count) ≡ octets_at octets at count
octets_at_border octets at count are border h =
    let place : 8 * (at / 8) ≡ at = omega arith in
    let size : at / 8 + count - at / 8 ≡ count = omega arith in
    rw (size, ← octets_from octets (at / 8) count are h, place) refl

-- one octet in front of the others
pub octets_next : (octets : List ℕ) (at count i : ℕ) → i < count
    → octets_at octets (at + 8 * i) (count - i) ≡ part octets (at + 8 * i) (at + 8 * i + 8) ∷ octets_at octets (at + 8 * (i + 1)) (count - (i + 1))
octets_next octets at count i h =
    let left : count - i ≡ suc (count - (i + 1)) = omega arith in
    let place : at + 8 * (i + 1) ≡ at + 8 * i + 8 = omega arith in
    rw (left, place) refl

pub octets_at_length : (octets : List ℕ) (at count : ℕ) → length (octets_at octets at count) ≡ count
octets_at_length octets at zero = refl
octets_at_length octets at (suc count) = ap suc (octets_at_length octets (at + 8) count)
