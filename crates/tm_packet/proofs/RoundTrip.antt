-- What is written of a header that was read.
use Rattle.std.proofs.Common.{◌≡◌, ℕ, zero, suc, ◌+◌, ◌-◌, ◌<◌, ◌≤◌, Bool, true, false, ◌==◌, List, [], ◌∷◌, ◌++◌, length, take, drop, refl, sym, ap, ◌∙◌, arith, length-drop, append_assoc}
use Rattle.std.proofs.lemmas.List.{take-append-drop, length-take-le, take_all, drop-drop}
use Rattle.tm_bits.specs.Bits.{AreOctets, low_bits, bits_of, number, part}
use Rattle.tm_packet.specs.Header.{Fields, flags_of, flags_number, packet_version_of, packet_header_of, header_bits}
use Rattle.tm_bits.proofs.BitLemmas.{number-low_bits, bits_spelled}
use Rattle.tm_bits.proofs.PartLemmas.{octets_after, length-bits_of-take, part-front, part-lt}

cut : (b : List Bool) (i n : ℕ) → drop i b ≡ take n (drop i b) ++ drop (i + n) b
cut b i n = rw (← drop-drop n i b) (sym (take-append-drop n (drop i b)))

single : (xs : List Bool) → length xs ≡ 1 → (number xs == 1) ∷ [] ≡ xs
unfolding number
single [] l = absurd (omega arith)
single (true ∷ []) l = refl
single (false ∷ []) l = refl
single (x ∷ y ∷ xs) l = absurd (omega arith)

two_bits : (n : ℕ) → n < 4 → flags_number (flags_of n) ≡ n
two_bits zero h = refl
two_bits (suc zero) h = refl
two_bits (suc (suc zero)) h = refl
two_bits (suc (suc (suc zero))) h = refl
two_bits (suc (suc (suc (suc n)))) h = absurd (omega arith)

-- a list of 48 bits is its parts
parts : (b : List Bool) → length b ≡ 48
    → ((((take 3 b ++ (take 1 (drop 3 b) ++ (take 1 (drop 4 b) ++ take 11 (drop 5 b)))) ++ take 2 (drop 16 b)) ++ take 14 (drop 18 b)) ++ take 16 (drop 32 b)) ≡ b
parts b l =
    let last : take 16 (drop 32 b) ≡ drop 32 b = take_all 16 (drop 32 b) (omega (arith, length-drop 32 b)) in
    rw last (simp append_assoc (rw (← cut b 18 14, ← cut b 16 2, ← cut b 5 11, ← cut b 4 1, ← cut b 3 1) (take-append-drop 3 b)))

-- the bits of the written header, part by part
written_parts : (h : Fields) (v t s a f n d : List Bool) → low_bits 3 0 ≡ v → h.telecommand ∷ [] ≡ t → h.secondary ∷ [] ≡ s
    → low_bits 11 h.application ≡ a → low_bits 2 (flags_number h.flags) ≡ f → low_bits 14 h.count ≡ n → low_bits 16 h.data_length ≡ d
    → header_bits h ≡ (((v ++ (t ++ (s ++ a))) ++ f) ++ n) ++ d
written_parts h v t s a f n d ev et es ea ef en ed =
    rw (← ev, ← et, ← es, ← ea, ← ef, ← en, ← ed) (simp append_assoc)

-- a part lies in the first six octets
part_of_six : (octets : List ℕ) (from n : ℕ) → 6 ≤ length octets → from + n ≤ 48
    → (part octets from (from + n) ≡ number (take n (drop from (bits_of (take 6 octets))))) × (length (take n (drop from (bits_of (take 6 octets)))) ≡ n)
unfolding part
part_of_six octets from n room inside =
    let b : List Bool = bits_of (take 6 octets) in
    let width : from + n - from ≡ n = omega arith in (
      part-front 6 octets from (from + n) room (omega arith) inside ∙ ap (λ m. number (take m (drop from b))) width,
      length-take-le n (drop from b) (omega (arith, length-drop from b, length-bits_of-take 6 octets room)),
    )

bits_again : (octets : List ℕ) (from n : ℕ) → 6 ≤ length octets → from + n ≤ 48 → low_bits n (part octets from (from + n)) ≡ take n (drop from (bits_of (take 6 octets)))
bits_again octets from n room inside =
    let six = part_of_six octets from n room inside in bits_spelled n (part octets from (from + n)) (take n (drop from (bits_of (take 6 octets)))) six.1 six.0

flag_again : (octets : List ℕ) (from : ℕ) → 6 ≤ length octets → from + 1 ≤ 48 → (part octets from (from + 1) == 1) ∷ [] ≡ take 1 (drop from (bits_of (take 6 octets)))
flag_again octets from room inside =
    let six = part_of_six octets from 1 room inside in ap (λ n. (n == 1) ∷ []) six.0 ∙ single (take 1 (drop from (bits_of (take 6 octets)))) six.1

pub written_again : (octets : List ℕ) → AreOctets octets → 6 ≤ length octets → packet_version_of octets ≡ 0 → header_bits (packet_header_of octets) ≡ bits_of (take 6 octets)
written_again octets are room version =
    let b : List Bool = bits_of (take 6 octets) in
    let bits : (from n : ℕ) → from + n ≤ 48 → low_bits n (part octets from (from + n)) ≡ take n (drop from b) = λ from n inside. bits_again octets from n room inside in
    written_parts (packet_header_of octets) (take 3 b) (take 1 (drop 3 b)) (take 1 (drop 4 b)) (take 11 (drop 5 b)) (take 2 (drop 16 b)) (take 14 (drop 18 b)) (take 16 (drop 32 b))
    (ap (low_bits 3) (sym version) ∙ bits 0 3 (omega arith))
    (flag_again octets 3 room (omega arith)) (flag_again octets 4 room (omega arith))
    (bits 5 11 (omega arith))
    (ap (low_bits 2) (two_bits (part octets 16 18) (part-lt octets 16 18)) ∙ bits 16 2 (omega arith))
    (bits 18 14 (omega arith))
    (bits 32 16 (omega arith))
    ∙ parts b (length-bits_of-take 6 octets room)

-- octets of the same bits are the same
pub bits_tell : (xs ys : List ℕ) → AreOctets xs → AreOctets ys → bits_of xs ≡ bits_of ys → xs ≡ ys
unfolding bits_of low_bits
bits_tell [] [] hx hy e = refl
bits_tell [] (y ∷ ys) hx hy e = cc
bits_tell (x ∷ xs) [] hx hy e = cc
bits_tell (x ∷ xs) (y ∷ ys) hx hy e =
    let low : low_bits 8 x ≡ low_bits 8 y = cc in
    let rest : bits_of xs ≡ bits_of ys = cc in
    let sx : x < 256 = hx.below 0 in
    let sy : y < 256 = hy.below 0 in
    let n = sym (number-low_bits 8 x) ∙ ap number low ∙ number-low_bits 8 y in
    let same : x ≡ y = omega arith in
    rw (same, bits_tell xs ys (octets_after x xs hx) (octets_after y ys hy) rest) refl
