-- The version and the length of a packet, as its header has them.
use Rattle.std.proofs.Common.{◌≡◌, ℕ, ◌+◌, ◌<◌, ◌≤◌, true, Ok, Err, List, [], ◌∷◌, length, take, get_or, refl, sym, ap, ◌∙◌, ⊎_elim, arith}
use Rattle.std.proofs.lemmas.Bool.Decides.{nat_tests}
use Rattle.std.proofs.lemmas.Bool.{cases_lt, eqb-true}
use Rattle.tm_bits.specs.Bits.{part}
use Rattle.tm_bits.proofs.PartLemmas.{part-front}
use Rattle.tm_packet.specs.declared.header.PacketFault.{PacketFault}
use Rattle.tm_packet.specs.Header.{Fields, packet_version_of, packet_header_of, header_reading_of}
use Rattle.tm_items.specs.OnePacket.{is_packet, packet_length}
use Rattle.tm_items.proofs.Reaching.{packet_length-short, packet_length-long}

pub version_first : (octets : List ℕ) → 0 < length octets → packet_version_of (take 1 octets) ≡ packet_version_of (get_or octets 0 0 ∷ [])
version_first [] h = absurd (omega arith)
version_first (x ∷ xs) h = refl

-- what reading a header says of the length
pub reading-ok : (octets : List ℕ) (h : Fields) → header_reading_of octets ≡ Ok h → (6 ≤ length octets) × (h ≡ packet_header_of octets)
reading-ok octets h e = grind (arith, nat_tests)

pub reading-err : (octets : List ℕ) (fault : PacketFault) → packet_version_of octets ≡ 0 → header_reading_of octets ≡ Err fault → length octets < 6
reading-err octets fault zero e = grind (arith, nat_tests)

-- the length by the header that is read
pub packet_length_read : (octets : List ℕ) (h : Fields) → header_reading_of octets ≡ Ok h → h.data_length + 7 ≡ packet_length octets
packet_length_read octets h e =
    let r = reading-ok octets h e in
    ap (λ (g : Fields). g.data_length + 7) r.1
    ∙ ap (λ (n : ℕ). n + 7) (part-front 6 octets 32 48 r.0 (omega arith) (omega arith))
    ∙ sym (packet_length-long octets r.0)

-- and where none can be read
pub packet_length_unread : (octets : List ℕ) (fault : PacketFault) → is_packet octets ≡ true → header_reading_of octets ≡ Err fault → 7 ≡ packet_length octets
packet_length_unread octets fault p e =
    ⊎_elim (λ short. sym (packet_length-short octets short))
    (λ long.
    let zero : packet_version_of octets ≡ 0 =
    part-front 1 octets 0 3 (omega arith) (omega arith) (omega arith) ∙ eqb-true (packet_version_of (take 1 octets)) 0 p in
    let short = reading-err octets fault zero e in absurd (omega arith))
    (cases_lt (length octets) 6)

-- more octets after a header change nothing
pub header-front : (n : ℕ) (octets : List ℕ) → n ≤ length octets → 6 ≤ n → packet_header_of (take n octets) ≡ packet_header_of octets
header-front n octets inside long =
    let same : (from to : ℕ) → from ≤ to → to ≤ 48 → part (take n octets) from to ≡ part octets from to =
    λ from to ordered short. sym (part-front n octets from to inside ordered (omega arith)) in
    rw (
      same 3 4 (omega arith) (omega arith),
      same 4 5 (omega arith) (omega arith),
      same 5 16 (omega arith) (omega arith),
      same 16 18 (omega arith) (omega arith),
      same 18 32 (omega arith) (omega arith),
      same 32 48 (omega arith) (omega arith),
    ) refl
