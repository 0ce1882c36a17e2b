use Rattle.std.proofs.Common.{◌≡◌, ℕ, ◌+◌, List, [], ◌∷◌, ◌++◌, ap, length, refl, ◌∙◌}
use Rattle.std.specs.List.{flat_map}
use Rattle.tm_items.specs.Fronts.{front_packets, octets_of, placed}
use Rattle.tm_output.specs.Pieces.{packet_octets}
use Rattle.tm_output.proofs.outlet.PacketOctetsPacketText.write_span.Goals as goal

-- packets that lie end to end give the octets in which they lie
octets_joined : (seen channel place : ℕ) (packets : List (List ℕ)) → flat_map packet_octets (placed seen channel place packets) ≡ octets_of packets
unfolding packet_octets
octets_joined seen channel place [] = refl
octets_joined seen channel place (p ∷ ps) = ap (λ (l : List ℕ). p ++ l) (octets_joined seen channel (place + length p) ps)

pub returns-clause-whole : goal.returns-clause-whole
returns-clause-whole g c =
    let span = c.args.span in
    rw (octets_joined span.seen span.channel span.place (front_packets c.args._limit span.octets.now) ∙ c.requires.packets) c.write_all.ensures.whole

pub returns-clause-prefix : goal.returns-clause-prefix
returns-clause-prefix g c =
    let span = c.args.span in
    rw (octets_joined span.seen span.channel span.place (front_packets c.args._limit span.octets.now) ∙ c.requires.packets) c.write_all.ensures.prefix
