use Rattle.std.proofs.Common.{[], ◌++◌, ap, append-nil, length, refl, sym}
use Rattle.std.proofs.KnownBytes.{Appends-nil, Appends-trans}
use Rattle.tm_output.proofs.RoomLemmas.{stopped_in}
use Rattle.tm_output.specs.Pieces.{binary_packet, packet_lead}
use Rattle.tm_output.proofs.outlet.write_with_lead.Goals as goal

pub returns-in-Err-clause-prefix : goal.returns-in-Err-clause-prefix
unfolding binary_packet
returns-in-Err-clause-prefix g c =
    let p = c.args.packet.now in
    let lead = packet_lead p.seen p.channel p.first p.place (length p.octets.now) in
    stopped_in _ _ _ [] lead p.octets.now _ refl (λ e. cc e) (Appends-nil _) (rw c.packet_lead.ensures at c.in-Err.ensures.prefix)

pub returns-in-Ok-clause-whole : goal.returns-in-Ok-clause-whole
unfolding binary_packet
returns-in-Ok-clause-whole g c = Appends-trans _ _ _ _ _ (rw c.packet_lead.ensures at c.in_default.ensures.whole) c.in-Ok.ensures.whole

pub returns-in-Err-write_all-clause-prefix : goal.returns-in-Err-write_all-clause-prefix
unfolding binary_packet
returns-in-Err-write_all-clause-prefix g c =
    let p = c.args.packet.now in
    let lead = packet_lead p.seen p.channel p.first p.place (length p.octets.now) in
    stopped_in _ _ _ lead p.octets.now [] _ (ap (λ l. lead ++ l) (sym (append-nil p.octets.now))) c.in-Err-write_all.ensures.some
    (rw c.packet_lead.ensures at c.in_default.ensures.whole) c.in-Err-write_all.ensures.prefix
