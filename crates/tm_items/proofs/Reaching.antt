-- What a packet reaches is settled once its header is there, and what is settled stays so, whatever text follows.
use Rattle.std.proofs.Common.{◌≡◌, ℕ, ◌+◌, ◌<◌, ◌≤◌, List, ◌++◌, length, take, ⊎_elim, sym, ap, ◌∙◌, arith, length-append, ltb}
use Rattle.std.proofs.lemmas.List.{take-append-le}
use Rattle.std.proofs.lemmas.Bool.{cases_lt, lt-ltb, le-ltb, cond-true, cond-false}
use Rattle.tm_packet.specs.Header.{packet_header_of}
use Rattle.tm_items.specs.OnePacket.{packet_length}

pub packet_length-short : (t : List ℕ) → length t < 6 → packet_length t ≡ 7
packet_length-short t h = cond-true (ltb (length t) 6) _ _ (lt-ltb (length t) 6 h)

pub packet_length-long : (t : List ℕ) → 6 ≤ length t → packet_length t ≡ (packet_header_of (take 6 t)).data_length + 7
packet_length-long t h = cond-false (ltb (length t) 6) _ _ (le-ltb (length t) 6 h)

-- with six octets there, more of them change nothing
pub packet_length-append : (t u : List ℕ) → 6 ≤ length t → packet_length (t ++ u) ≡ packet_length t
packet_length-append t u h =
    let longer : 6 ≤ length (t ++ u) = omega (arith, length-append t u) in
    packet_length-long (t ++ u) longer
    ∙ ap (λ (o : List ℕ). (packet_header_of o).data_length + 7) (take-append-le 6 t u h)
    ∙ sym (packet_length-long t h)

pub packet_length_least : (t : List ℕ) → 7 ≤ packet_length t
packet_length_least t = ⊎_elim (λ h. omega (arith, packet_length-short t h)) (λ h. omega (arith, packet_length-long t h)) (cases_lt (length t) 6)

-- a packet that is whole in a text is the same in a longer one
pub packet_length-settled : (t u : List ℕ) → packet_length t ≤ length t → packet_length (t ++ u) ≡ packet_length t
packet_length-settled t u h = packet_length-append t u (omega (arith, packet_length_least t))

-- and one that isn't whole in a text reaches past it in a longer one
pub packet_length-unsettled : (t u : List ℕ) → length t < packet_length t → length t < packet_length (t ++ u)
packet_length-unsettled t u h =
    ⊎_elim (λ short. omega (arith, packet_length_least (t ++ u))) (λ long. omega (arith, packet_length-append t u long)) (cases_lt (length t) 6)
