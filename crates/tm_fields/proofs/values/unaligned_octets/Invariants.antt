use Rattle.std.proofs.Common.{◌≡◌, ◌++◌, ◌+◌, ◌*◌, ◌-◌}
use Rattle.tm_fields.specs.Numbers.{octets_at}
use Rattle.tm_fields.proofs.values.unaligned_octets.Given as goal

abbrev pub invariant-loop-i : goal.invariant-loop-i
invariant-loop-i l = l.octets.items ++ octets_at l.packet (l.at + 8 * l.i) (l.count - l.i) ≡ octets_at l.packet l.at l.count
