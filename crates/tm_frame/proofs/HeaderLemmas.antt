-- The parts of a frame's headers as the code reads them.
use Rattle.std.proofs.Common.{◌≡◌, ℕ, zero, suc, ◌+◌, ◌-◌, ◌*◌, ◌/◌, ◌%◌, ◌^◌, ◌<◌, ◌≤◌, List, [], ◌∷◌, length, take, drop, get_or, refl, sym, ap, ◌∙◌, arith, length-drop}
use Rattle.std.specs.Prelude.{bit_and}
use Rattle.std.proofs.lemmas.Nat.{and_mask, one_shl}
use Rattle.std.proofs.lemmas.List.{length-take-le, get_or-drop}
use Rattle.byteorder.specs.Endian.{big_number, big_from}
use Rattle.byteorder.specs.Numbers.{big_from-cons}
use Rattle.tm_bits.specs.Bits.{AreOctets, bits_of, number, part}
use Rattle.tm_bits.proofs.PartLemmas.{octets_after, octets_behind, number-bits_of-cons, part-word, part-behind}

-- the lowest k bits
pub masked : (n k : ℕ) → k < 64 → bit_and n (1 * 2 ^ k % 2 ^ 64 - 1) ≡ n % 2 ^ k
masked n k small = rw (one_shl k 64 small) (and_mask n k)

-- the number of the first n octets is what `byteorder` reads
pub number-bits_of-take : (n : ℕ) (xs : List ℕ) → AreOctets xs → n ≤ length xs → number (bits_of (take n xs)) ≡ big_from 0 n xs
unfolding bits_of number
number-bits_of-take zero xs h room = refl
number-bits_of-take (suc n) [] h room = absurd (omega arith)
number-bits_of-take (suc n) (x ∷ xs) h room =
    number-bits_of-cons x (take n xs) (h.below 0)
    ∙ rw (length-take-le n xs (omega arith), number-bits_of-take n xs (octets_after x xs h) (omega arith), big_from-cons 0 n x xs) refl

-- a part within the first n octets, by the number that the code reads
part-big : (n : ℕ) (octets : List ℕ) (from to : ℕ) → AreOctets octets → n ≤ length octets → from ≤ to → to ≤ 8 * n
    → part octets from to ≡ big_number n octets / 2 ^ (8 * n - to) % 2 ^ (to - from)
part-big n octets from to are room ordered inside =
    rw (part-word n octets from to room ordered inside, number-bits_of-take n octets are room) refl

-- what the code reads of the word is the part of the frame
pub part_read : (frame : List ℕ) (word from to read : ℕ) → AreOctets frame → 6 ≤ length frame → word ≡ big_number 6 frame → from ≤ to → to ≤ 48
    → read ≡ word / 2 ^ (48 - to) % 2 ^ (to - from) → read ≡ part frame from to
part_read frame word from to read octets room whole ordered inside is =
    is ∙ ap (λ n. n / 2 ^ (48 - to) % 2 ^ (to - from)) whole ∙ sym (part-big 6 frame from to octets room ordered inside)

-- a part of the octet after the primary header
pub part_secondary : (frame : List ℕ) (from to : ℕ) → AreOctets frame → 7 ≤ length frame → from ≤ to → to ≤ 8
    → part frame (48 + from) (48 + to) ≡ get_or frame 6 0 / 2 ^ (8 - to) % 2 ^ (to - from)
part_secondary frame from to octets room ordered inside =
    let left : 1 ≤ length (drop 6 frame) = omega (arith, length-drop 6 frame) in
    let value : big_number 1 (drop 6 frame) ≡ get_or frame 6 0 = rw (get_or-drop 6 frame 0 0) (omega arith) in
    rw (part-behind 6 frame from to (omega arith) ordered, part-big 1 (drop 6 frame) from to (octets_behind 6 frame octets) left ordered inside, value) refl

-- the version of the secondary header, and its length field
pub version_read : (frame : List ℕ) → AreOctets frame → 7 ≤ length frame → part frame 48 50 ≡ get_or frame 6 0 / 64
version_read frame octets room = let small = octets.below 6 in part_secondary frame 0 2 octets room (omega arith) (omega arith) ∙ omega arith

pub length_read : (frame : List ℕ) → AreOctets frame → 7 ≤ length frame → part frame 50 56 ≡ bit_and (get_or frame 6 0) 63
length_read frame octets room =
    part_secondary frame 2 8 octets room (omega arith) (omega arith) ∙ omega arith ∙ sym (and_mask (get_or frame 6 0) 6)

-- the last two octets
pub part_control : (frame : List ℕ) → AreOctets frame → 2 ≤ length frame
    → part frame (8 * (length frame - 2)) (8 * length frame) ≡ big_number 2 (drop (length frame - 2) frame)
part_control frame octets room =
    let k : ℕ = length frame - 2 in
    let start : 8 * (length frame - 2) ≡ 8 * (length frame - 2) + 0 = omega arith in
    let end : 8 * length frame ≡ 8 * (length frame - 2) + 16 = omega arith in
    let behind : AreOctets (drop (length frame - 2) frame) = octets_behind (length frame - 2) frame octets in
    let left : 2 ≤ length (drop (length frame - 2) frame) = omega (arith, length-drop (length frame - 2) frame) in
    let first = behind.below 0 in
    let second = behind.below 1 in
    ap (λ n. part frame n (8 * length frame)) start
    ∙ ap (part frame (8 * (length frame - 2) + 0)) end
    ∙ part-behind (length frame - 2) frame 0 16 (omega arith) (omega arith)
    ∙ part-big 2 (drop (length frame - 2) frame) 0 16 behind left (omega arith) (omega arith)
    ∙ omega arith
