use Rattle.std.proofs.Common.{length, ◌-◌}
use Rattle.tm_output.specs.code.Quiet.{HasNoted}
use Rattle.tm_output.proofs.output.note_quiet.Given as goal

abbrev pub invariant-loop-packet : goal.invariant-loop-packet
invariant-loop-packet g l =
    HasNoted (g.O.Outlet.text (g.O.Outlet.fixed l.outlet)) (g.O.Outlet.joins (g.O.Outlet.fixed l.outlet)) l.limit l.initial.tracker l.tracker l.initial.totals l.totals l.span l.at

abbrev pub decreases-loop-packet : goal.decreases-loop-packet
decreases-loop-packet g l = length l.span.octets.now - l.at
