use Rattle.std.proofs.Common.{length, ◌≡◌, ◌+◌, ◌-◌, ◌≤◌, drop}
use Rattle.tm_items.specs.Fronts.{front_items, front_length, front_packets, placed}
use Rattle.tm_items.proofs.Leads.{Leads}
use Rattle.tm_items.proofs.sink.Sink.take_front.Given as goal

abbrev pub invariant-loop-header : goal.invariant-loop-header
invariant-loop-header g l =
    Leads g.Self.Sink.takes g.Self.Sink.refuses (g.Self.Sink.known l.initial.self) (g.Self.Sink.known l.self)
    (front_items l.limit l.span) (placed l.span.seen l.span.channel (l.span.place + l.at) (front_packets l.limit (drop l.at l.span.octets.now)))
    × (front_length l.limit l.span.octets.now ≡ l.at + front_length l.limit (drop l.at l.span.octets.now))
    × (l.at ≤ length l.span.octets.now)

abbrev pub decreases-loop-header : goal.decreases-loop-header
decreases-loop-header g l = length l.span.octets.now - l.at
