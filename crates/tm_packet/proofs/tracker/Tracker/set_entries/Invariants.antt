use Rattle.std.proofs.Common.{◌≡◌, ◌+◌, ◌-◌, ◌*◌, drop}
use Rattle.tm_packet.specs.Spelling.{raws, state_of}
use Rattle.tm_packet.proofs.tracker.Tracker.set_entries.Given as goal

abbrev pub invariant-loop-at : goal.invariant-loop-at
invariant-loop-at l = l.self ≡ state_of (raws (l.count - l.at) (drop (2 + 6 * l.at) l.octets))
