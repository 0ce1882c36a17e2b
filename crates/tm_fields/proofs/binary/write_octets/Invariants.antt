use Rattle.std.proofs.Common.{◌≡◌, ◌++◌, ◌+◌, ◌*◌, ◌-◌, take}
use Rattle.tm_fields.specs.Numbers.{octets_at}
use Rattle.tm_fields.proofs.binary.write_octets.Given as goal

abbrev pub invariant-loop-i : goal.invariant-loop-i
invariant-loop-i l = record {
  end : l.end ≡ l.place + l.i;
  put : take l.end l.row ++ octets_at l.packet (l.at + 8 * l.i) (l.count - l.i) ≡ take l.place l.fn.row ++ octets_at l.packet l.at l.count;
}
