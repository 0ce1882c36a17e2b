-- The front of octets, cut short after some of its packets.
use Rattle.std.proofs.Common.{◌≡◌, ℕ, ◌≤◌, Bool, true, false, List, [], ◌∷◌, ◌++◌, length, take, drop, refl, sym, ap, ◌∙◌, arith, length-append}
use Rattle.std.proofs.lemmas.Bool.{le-leb}
use Rattle.std.proofs.lemmas.List.{drop_at, length-take-le, take_at, take-append-le}
use Rattle.tm_items.specs.OnePacket.{IsOnePacket, packet_length}
use Rattle.tm_items.specs.Fronts.{front_packets, has_packet, octets_of}
use Rattle.tm_items.proofs.Fronts.{front-none, front-some, one-front, whole-true}
use Rattle.tm_items.proofs.Reaching.{packet_length-append, packet_length_least}

-- one whole packet is the first of a front, whatever follows
front_one : (limit : ℕ) (p octets : List ℕ) → IsOnePacket p → length p ≤ limit → front_packets limit (p ++ octets) ≡ p ∷ front_packets limit octets
front_one limit p octets one short =
    let least = packet_length_least p in
    let long : 7 ≤ length p = omega (arith, one.whole) in
    let far : packet_length (p ++ octets) ≡ length p = packet_length-append p octets (omega arith) ∙ sym one.whole in
    let more = length-append p octets in
    let there : has_packet limit (p ++ octets) ≡ true =
    rw (
      take-append-le 1 p octets (omega arith),
      one.version,
      le-leb (packet_length (p ++ octets)) limit (omega (arith, far)),
      le-leb (packet_length (p ++ octets)) (length (p ++ octets)) (omega (arith, far)),
    ) refl in
    front-some limit (p ++ octets) there ∙ rw (far, take_at p octets (length p) refl, drop_at p octets (length p) refl) refl

-- first packets of a front are those of their own octets
pub front_taken : (limit : ℕ) (octets : List ℕ) (packets rest : List (List ℕ)) → front_packets limit octets ≡ packets ++ rest
    → front_packets limit (octets_of packets) ≡ packets
front_taken limit octets [] rest e = refl
front_taken limit octets (p ∷ ps) rest e = by (has_packet limit octets) refl (front_taken limit (drop (packet_length octets) octets) ps rest)
  where
    by : (b : Bool) → has_packet limit octets ≡ b
        → (front_packets limit (drop (packet_length octets) octets) ≡ ps ++ rest → front_packets limit (octets_of ps) ≡ ps)
        → front_packets limit (octets_of (p ∷ ps)) ≡ p ∷ ps
    by true is others =
        let n = packet_length octets in
        let w = whole-true limit octets is in
        let split : take n octets ∷ front_packets limit (drop n octets) ≡ p ∷ (ps ++ rest) = sym (front-some limit octets is) ∙ e in
        let first : take n octets ≡ p = cc in
        let behind : front_packets limit (drop n octets) ≡ ps ++ rest = cc in
        let one : IsOnePacket p = rw first at (one-front octets n refl w.inside w.version) in
        front_one limit p (octets_of ps) one (omega (arith, w.short, w.inside, sym (ap length first) ∙ length-take-le n octets w.inside))
        ∙ ap (λ (qs : List (List ℕ)). p ∷ qs) (others behind)
    by false isnt others =
        let none : [] ≡ p ∷ (ps ++ rest) = sym (front-none limit octets isnt) ∙ e in
        cc
