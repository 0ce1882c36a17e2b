-- The parts of a header as quotients and remainders of words of 16 bits, and as the bits that are written.
use Rattle.std.proofs.Common.{◌≡◌, ◌≢◌, ℕ, ◌+◌, ◌-◌, ◌*◌, ◌/◌, ◌%◌, ◌^◌, ◌<◌, ◌≤◌, Bool, true, false, ◌==◌, List, [], ◌∷◌, ◌++◌, length, drop, get_or, refl, sym, ap, ◌∙◌, arith, length-drop, length-append, append_assoc}
use Rattle.std.proofs.lemmas.Bool.{eq-eqb, le-ltb, ne_eqb}
use Rattle.std.proofs.lemmas.List.{append-nil, get_or-drop}
use Rattle.std.specs.Prelude.{Ok, Err}
use Rattle.tm_packet.specs.declared.header.PacketFault.TheVariants.{Version}
use Rattle.tm_bits.specs.Bits.{AreOctets, low_bits, bits_of, number, digit, part, two_at}
use Rattle.tm_bits.proofs.BitLemmas.{length-low_bits, number-low_bits, number-append, low_bits-mod, low_bits-split, bits_of-one, bits_spelled}
use Rattle.tm_bits.proofs.PartLemmas.{octets_behind, number-bits_of-cons, part-word, part-behind}
use Rattle.tm_packet.specs.declared.header.Flags.{Flags}
use Rattle.tm_packet.specs.declared.header.Flags.TheVariants as flag
use Rattle.tm_packet.specs.code.Headers.{header_fields, header_words}
use Rattle.tm_packet.specs.declared.header.Header.TheInside.{Inside}
use Rattle.tm_packet.proofs.WordLemmas.{few_flags}
use Rattle.tm_packet.specs.Header.{Fields, AreInRange, flags_of, flags_number, packet_version_of, packet_header_of, header_bits, header_reading_of}

-- the number in two octets
number_of_two : (x y : ℕ) → x < 256 → y < 256 → number (bits_of (x ∷ y ∷ [])) ≡ 256 * x + y
number_of_two x y hx hy =
    let low : number (bits_of (y ∷ [])) ≡ y = ap number (bits_of-one y) ∙ number-low_bits 8 y ∙ omega arith in
    number-bits_of-cons x (y ∷ []) hx ∙ ap (λ n. x * 256 ^ 1 + n) low ∙ omega arith

-- a part of the first two octets
part_front : (xs : List ℕ) (from to : ℕ) → AreOctets xs → 2 ≤ length xs → from ≤ to → to ≤ 16
    → part xs from to ≡ (256 * get_or xs 0 0 + get_or xs 1 0) / 2 ^ (16 - to) % 2 ^ (to - from)
part_front [] from to octets room ordered inside = absurd (omega arith)
part_front (x ∷ []) from to octets room ordered inside = absurd (omega arith)
part_front (x ∷ y ∷ zs) from to octets room ordered inside =
    rw (part-word 2 (x ∷ y ∷ zs) from to room ordered inside, number_of_two x y (octets.below 0) (octets.below 1)) refl

-- a part of two octets after k octets
pub part_in_word : (k : ℕ) (octets : List ℕ) (from to : ℕ) → AreOctets octets → k + 2 ≤ length octets → from ≤ to → to ≤ 16
    → part octets (8 * k + from) (8 * k + to) ≡ (256 * get_or octets k 0 + get_or octets (k + 1) 0) / 2 ^ (16 - to) % 2 ^ (to - from)
part_in_word k octets from to are room ordered inside =
    let zeroth : k + 0 ≡ k = omega arith in
    rw (part-behind k octets from to (omega arith) ordered, part_front (drop k octets) from to (octets_behind k octets are) (omega (arith, length-drop k octets)) ordered inside)
    (rw (get_or-drop k octets 0 0, get_or-drop k octets 1 0, zeroth) refl)

-- the version of a header is in its first word
version_read : (octets : List ℕ) → AreOctets octets → 6 ≤ length octets → packet_version_of octets ≡ two_at octets 0 / 8192
version_read octets are room =
    let below = are.below 0 in
    let next = are.below 1 in
    part_in_word 0 octets 0 3 are (omega arith) (omega arith) (omega arith) ∙ omega arith

-- the parts of a header of version 0 are those of its words
pub words_read : (octets : List ℕ) → AreOctets octets → 6 ≤ length octets → two_at octets 0 < 8192
    → header_fields (record { identification = two_at octets 0; sequence = two_at octets 2; data_length = two_at octets 4 }) ≡ packet_header_of octets
words_read octets are room version =
    let inside : 0 + 2 ≤ length octets = omega arith in
    let third : part octets 3 4 ≡ two_at octets 0 / 4096 = part_in_word 0 octets 3 4 are inside (omega arith) (omega arith) ∙ omega arith in
    let fourth : part octets 4 5 ≡ two_at octets 0 / 2048 % 2 = part_in_word 0 octets 4 5 are inside (omega arith) (omega arith) ∙ omega arith in
    let fifth : part octets 5 16 ≡ two_at octets 0 % 2048 = part_in_word 0 octets 5 16 are inside (omega arith) (omega arith) ∙ omega arith in
    let small : get_or octets 2 0 < 256 = are.below 2 in
    let smaller : get_or octets 3 0 < 256 = are.below 3 in
    let sixth : part octets 16 18 ≡ two_at octets 2 / 16384 = part_in_word 2 octets 0 2 are (omega arith) (omega arith) (omega arith) ∙ omega arith in
    let seventh : part octets 18 32 ≡ two_at octets 2 % 16384 = part_in_word 2 octets 2 16 are (omega arith) (omega arith) (omega arith) ∙ omega arith in
    let last : get_or octets 4 0 < 256 = are.below 4 in
    let least : get_or octets 5 0 < 256 = are.below 5 in
    let eighth : part octets 32 48 ≡ two_at octets 4 = part_in_word 4 octets 0 16 are (omega arith) (omega arith) (omega arith) ∙ omega arith in
    rw (third, fourth, fifth, sixth, seventh, eighth) refl

-- the bits of a word's two octets
pub word_octets : (w : ℕ) → low_bits 8 (w / 256 % 256) ++ low_bits 8 (w % 256) ≡ low_bits 16 w
word_octets w =
    rw (low_bits-mod 8 (w / 256), low_bits-mod 8 w) (sym (low_bits-split 8 8 w))

pub identification_bits : (t s : Bool) (a : ℕ) → a < 2048
    → low_bits 16 ((digit t * 2 + digit s) * 2048 + a) ≡ low_bits 3 0 ++ t ∷ s ∷ low_bits 11 a
unfolding number
identification_bits t s a small =
    let l : length (low_bits 11 a) ≡ 11 = length-low_bits 11 a in
    let value : number (low_bits 11 a) ≡ a = number-low_bits 11 a ∙ omega arith in
    bits_spelled 16 _ (low_bits 3 0 ++ t ∷ s ∷ low_bits 11 a) (simp (length-append, length-low_bits) (omega arith))
    (rw (number-append (low_bits 3 0), number-low_bits 3 0, l, value) (omega arith))

pub sequence_bits : (f n : ℕ) → f < 4 → n < 16384 → low_bits 16 (f * 16384 + n) ≡ low_bits 2 f ++ low_bits 14 n
sequence_bits f n hf hn =
    bits_spelled 16 _ (low_bits 2 f ++ low_bits 14 n) (simp (length-append, length-low_bits) (omega arith))
    (rw (number-append (low_bits 2 f), length-low_bits 14 n, number-low_bits 2 f, number-low_bits 14 n) (omega arith))

-- the version is in the first octet
pub version_front : (x : ℕ) (xs : List ℕ) → x < 256 → part (x ∷ xs) 0 3 ≡ x / 32
version_front x xs h =
    rw (part-word 1 (x ∷ xs) 0 3 (omega arith) (omega arith) (omega arith), bits_of-one x, number-low_bits 8 x) (omega arith)

-- the octets of three words
three_words : (x y z : ℕ) → bits_of (x / 256 % 256 ∷ x % 256 ∷ y / 256 % 256 ∷ y % 256 ∷ z / 256 % 256 ∷ z % 256 ∷ []) ≡ low_bits 16 x ++ (low_bits 16 y ++ low_bits 16 z)
unfolding bits_of
three_words x y z = rw (← word_octets x, ← word_octets y, ← word_octets z) (simp (append_assoc, append-nil))

-- the octets of three words are the bits of the header
pub written : (h : Fields) (words : Inside) (u v z : List ℕ) → AreInRange h → words ≡ header_words h
    → u ≡ words.identification / 256 % 256 ∷ words.identification % 256 ∷ [] → v ≡ words.sequence / 256 % 256 ∷ words.sequence % 256 ∷ []
    → z ≡ words.data_length / 256 % 256 ∷ words.data_length % 256 ∷ []
    → bits_of (get_or u 0 0 ∷ get_or u 1 0 ∷ get_or v 0 0 ∷ get_or v 1 0 ∷ get_or z 0 0 ∷ get_or z 1 0 ∷ []) ≡ header_bits h
unfolding bits_of
written h words u v z fits is eu ev ez =
    rw (eu, ev, ez, is)
    (three_words (header_words h).identification (header_words h).sequence h.data_length
    ∙ rw (identification_bits h.telecommand h.secondary h.application fits.application, sequence_bits (flags_number h.flags) h.count (few_flags h.flags) fits.count)
    (simp append_assoc))

one_bit : (b : Bool) → (number (b ∷ []) == 1) ≡ b
unfolding number
one_bit true = refl
one_bit false = refl

flags_back : (f : Flags) → flags_of (number (low_bits 2 (flags_number f))) ≡ f
unfolding low_bits number
flags_back flag.Continuation = refl
flags_back flag.First = refl
flags_back flag.Last = refl
flags_back flag.Unsegmented = refl

pub version_back : (xs : List ℕ) (h : Fields) → bits_of xs ≡ header_bits h → packet_version_of xs ≡ 0
unfolding part low_bits number
version_back xs h e = rw e refl

-- the header of the written bits
pub header_back : (xs : List ℕ) (h : Fields) → AreInRange h → bits_of xs ≡ header_bits h → packet_header_of xs ≡ h
unfolding part low_bits
header_back xs h fits e =
    let a : h.application % 2048 ≡ h.application = let i = fits.application in omega arith in
    let n : h.count % 16384 ≡ h.count = let i = fits.count in omega arith in
    let d : h.data_length % 65536 ≡ h.data_length = let i = fits.data_length in omega arith in
    rw (e, one_bit h.telecommand, one_bit h.secondary, number-low_bits 11 h.application, flags_back h.flags, number-low_bits 14 h.count, number-low_bits 16 h.data_length, a, n, d) refl

pub reading_ok : (xs : List ℕ) → 6 ≤ length xs → packet_version_of xs ≡ 0 → header_reading_of xs ≡ Ok (packet_header_of xs)
reading_ok xs room same = rw (le-ltb (length xs) 6 room, eq-eqb (packet_version_of xs) 0 same) refl

pub reading_back : (xs : List ℕ) (h : Fields) → AreInRange h → 6 ≤ length xs → bits_of xs ≡ header_bits h → header_reading_of xs ≡ Ok h
reading_back xs h fits room e = reading_ok xs room (version_back xs h e) ∙ ap Ok (header_back xs h fits e)

-- reading refuses another version
pub reading_version : (xs : List ℕ) (word : ℕ) → AreOctets xs → 6 ≤ length xs → word ≡ two_at xs 0 → word / 8192 ≢ 0 → Err Version ≡ header_reading_of xs
reading_version xs word are room is some =
    let other : packet_version_of xs ≡ 0 → ⊥ = (λ none. some (ap (λ n. n / 8192) is ∙ sym (version_read xs are room) ∙ none)) in
    rw (le-ltb (length xs) 6 room, ne_eqb (packet_version_of xs) 0 other) refl

-- it gives what the words say
pub reading_words : (xs : List ℕ) (first second third : ℕ) → AreOctets xs → 6 ≤ length xs → first ≡ two_at xs 0 → second ≡ two_at xs 2 → third ≡ two_at xs 4
    → first / 8192 ≡ 0 → Ok (header_fields (record { identification = first; sequence = second; data_length = third })) ≡ header_reading_of xs
reading_words xs first second third are room is then last none =
    let version : packet_version_of xs ≡ 0 = version_read xs are room ∙ ap (λ n. n / 8192) (sym is) ∙ none in
    rw (is, then, last, reading_ok xs room version) (ap Ok (words_read xs are room (omega (arith, is, none))))

pub ruleset readings = (reading_version, reading_words)
