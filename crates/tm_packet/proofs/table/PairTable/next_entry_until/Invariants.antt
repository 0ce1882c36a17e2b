use Rattle.std.proofs.Common.{◌≡◌, drop}
use Rattle.tm_packet.specs.Spelling.{entries_from}
use Rattle.tm_packet.proofs.table.PairTable.next_entry_until.Given as goal

abbrev pub invariant-loop-key : goal.invariant-loop-key
invariant-loop-key l = entries_from l.at (drop l.at l.self) ≡ entries_from l.key (drop l.key l.self)
