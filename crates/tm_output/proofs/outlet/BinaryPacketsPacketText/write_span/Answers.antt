use Rattle.std.proofs.Common.{◌≡◌, ◌≢◌, ◌-◌, [], ap, arith, length, length-drop, refl, sym, ◌∙◌}
use Rattle.tm_items.specs.Fronts.{front_packets}
use Rattle.tm_lines.specs.declared.packet.Packet as lent
use Rattle.tm_output.specs.Packets.{item_with}
use Rattle.tm_output.specs.Pieces.{binary_packet}
use Rattle.tm_output.proofs.RoomLemmas.{all_written, nothing_partly, part_put, part_stopped, part_written, room_stopped, room_written, text_all, text_last, text_next}
use Rattle.tm_output.proofs.outlet.BinaryPacketsPacketText.write_span.Goals.{then-filled-packet+in_default-write_all+in_default-write_with_lead, else-filled-packet}
use Rattle.tm_output.proofs.outlet.BinaryPacketsPacketText.write_span.Goals as goal

some_packet : (p : lent.Packet) → binary_packet (item_with p) ≢ []
unfolding binary_packet
some_packet p none = cc

pub loop-packet-init : goal.loop-packet-init
loop-packet-init g c = record {
  same = refl;
  counts = refl;
  inside = omega arith;
  room = omega arith;
  partly = nothing_partly _ _ _ _ (text_all binary_packet c.args.limit c.args.span);
}

pub loop-packet-preserved : goal.loop-packet-preserved
loop-packet-preserved g c =
    let inv = c.loop-packet.invariant in
    let packet = c.in-Some.packet in
    let head = c.in-Some.ensures.some in
    let far : length c.span_from.result.octets.now ≡ length c.args.span.octets.now - c.loop-packet.at =
    ap length c.span_from.ensures.octets ∙ length-drop c.loop-packet.at c.args.span.octets.now in
    let next = text_next binary_packet c.args.limit c.args.span c.span_from.result c.loop-packet.at packet c.span_from.ensures.rest c.span_from.ensures.octets head in
    elim c.if-filled-packet.branch [
      | then-filled-packet+in_default-write_all+in_default-write_with_lead w ↦
          let emptied = room_written inv.partly _ w.in_default-write_all.ensures.whole in
          record {
            same = rw w.out-is (w.in_default-write_with_lead.ensures.same ∙ w.in_default-write_all.ensures.same ∙ inv.same);
            counts = rw w.out-is (w.in_default-write_with_lead.ensures.counts ∙ w.in_default-write_all.ensures.counts ∙ inv.counts);
            inside = omega (arith, head.first.inside, far, inv.inside);
            room = omega arith;
            partly = rw (w.out-is, w.room-is, w.filled-is) (part_written emptied _ _ next _ w.in_default-write_with_lead.ensures.whole);
          }
      | else-filled-packet w ↦
          record {
            same = rw w.out-is inv.same;
            counts = rw w.out-is inv.counts;
            inside = omega (arith, head.first.inside, far, inv.inside);
            room = omega (arith, inv.room);
            partly = rw (w.out-is, w.room-is, w.filled-is) (part_put inv.partly _ _ _ _ next w.append_packet-filled.ensures.put);
          }
    ]

pub returns-in-Err-clause-prefix : goal.returns-in-Err-clause-prefix
returns-in-Err-clause-prefix g c = room_stopped c.loop-packet.invariant.partly _ c.in-Err.ensures.some c.in-Err.ensures.prefix

pub returns-in-Err-write_with_lead-clause-prefix : goal.returns-in-Err-write_with_lead-clause-prefix
returns-in-Err-write_with_lead-clause-prefix g c =
    let emptied = room_written c.loop-packet.invariant.partly _ c.in_default-write_all.ensures.whole in
    let next =
    text_next binary_packet c.args.limit c.args.span c.span_from.result c.loop-packet.at c.in-Some.packet c.span_from.ensures.rest c.span_from.ensures.octets c.in-Some.ensures.some in
    part_stopped emptied _ _ next _ (some_packet c.in-Some.packet) c.in-Err-write_with_lead.ensures.prefix

pub returns-in-Ok-clause-whole : goal.returns-in-Ok-clause-whole
returns-in-Ok-clause-whole g c =
    all_written c.loop-packet.invariant.partly _ (text_last binary_packet c.args.limit c.args.span c.loop-packet.at (ap (front_packets c.args.limit) (sym c.span_from.ensures.octets) ∙ c.in_default.ensures.none refl))
    c.in-Ok.ensures.whole

pub returns-in-Err-write_all-clause-prefix : goal.returns-in-Err-write_all-clause-prefix
returns-in-Err-write_all-clause-prefix g c = room_stopped c.loop-packet.invariant.partly _ c.in-Err-write_all.ensures.some c.in-Err-write_all.ensures.prefix
