use Rattle.std.proofs.Common.{◌≡◌, ◌≤◌, ◌-◌, length}
use Rattle.std.specs.List.{flat_map}
use Rattle.tm_items.specs.Fronts.{front_items}
use Rattle.tm_output.specs.Pieces.{binary_packet}
use Rattle.tm_output.specs.declared.outlet.TheConstants.{ROOM}
use Rattle.tm_output.proofs.RoomLemmas.{IsPartly, text_behind}
use Rattle.tm_output.proofs.outlet.BinaryPacketsPacketText.write_span.Given as goal

abbrev pub invariant-loop-packet : goal.invariant-loop-packet
invariant-loop-packet g l = record {
  same : g.W.Drain.fixed l.out ≡ g.W.Drain.fixed l.initial.out;
  counts : g.W.Drain.failures l.out ≡ g.W.Drain.failures l.initial.out;
  inside : l.at ≤ length l.span.octets.now;
  room : l.filled ≤ ROOM;
  partly : IsPartly (g.W.Drain.written l.initial.out) (g.W.Drain.written l.out) l.room l.filled
      (flat_map binary_packet (front_items l.limit l.span)) (text_behind binary_packet l.limit l.span l.at);
}

abbrev pub decreases-loop-packet : goal.decreases-loop-packet
decreases-loop-packet g l = length l.span.octets.now - l.at
