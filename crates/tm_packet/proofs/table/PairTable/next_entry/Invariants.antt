use Rattle.std.proofs.Common.{◌≡◌, ◌≤◌, ◌/◌, drop}
use Rattle.tm_packet.specs.Spelling.{entries_from}
use Rattle.tm_packet.proofs.table.PairTable.next_entry.Given as goal

abbrev pub invariant-loop-block : goal.invariant-loop-block
invariant-loop-block l = record {
  same : entries_from l.at (drop l.at l.self) ≡ entries_from l.from (drop l.from l.self);
  place : l.from / 64 ≡ l.block;
  after : l.at ≤ l.from;
}
