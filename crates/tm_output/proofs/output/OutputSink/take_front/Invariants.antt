use Rattle.std.proofs.Common.{length, ◌-◌}
use Rattle.tm_output.specs.Seen.{output_state}
use Rattle.tm_output.specs.code.Sinking.{Refuses, Takes}
use Rattle.tm_output.proofs.SpanLemmas.{IsAt}
use Rattle.tm_output.proofs.output.OutputSink.take_front.Given as goal

abbrev pub invariant-loop-many : goal.invariant-loop-many
invariant-loop-many g l =
    IsAt (Takes g.O.Outlet.grows g.O.Outlet.text g.O.Outlet.buffering) (Refuses g.O.Outlet.grows g.O.Outlet.text g.O.Outlet.buffering)
    l.limit l.span (output_state g.O.Outlet g.V.Drain l.initial.self) (output_state g.O.Outlet g.V.Drain l.self) l.at

abbrev pub decreases-loop-many : goal.decreases-loop-many
decreases-loop-many g l = length l.span.octets.now - l.at
