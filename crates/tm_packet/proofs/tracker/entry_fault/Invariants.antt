use Rattle.std.proofs.Common.{◌≡◌, ◌+◌, ◌-◌, ◌*◌, None, drop}
use Rattle.tm_packet.specs.Spelling.{fault_after, raws}
use Rattle.tm_packet.proofs.tracker.entry_fault.Given as goal

abbrev pub invariant-loop-at : goal.invariant-loop-at
invariant-loop-at l =
    fault_after l.before (raws (l.count - l.at) (drop (2 + 6 * l.at) l.octets)) ≡ fault_after None (raws l.count (drop 2 l.octets))
