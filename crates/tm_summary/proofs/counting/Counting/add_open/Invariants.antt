-- The open groups below the next key are counted.
use Rattle.std.proofs.Common.{◌≡◌, ◌≤◌, ◌-◌, List}
use Rattle.tm_packet.specs.declared.tracker.Unclosed.{Unclosed}
use Rattle.tm_output.proofs.OpenGroups.{Parted}
use Rattle.tm_summary.specs.Tallies.{SameReferences, with_open}
use Rattle.tm_summary.proofs.counting.Counting.add_open.Given as goal

abbrev pub invariant-loop-unclosed : goal.invariant-loop-unclosed
invariant-loop-unclosed l = record {
  same : SameReferences l.initial.self l.self;
  tracker : l.self.tracker.now ≡ l.initial.self.tracker.now;
  below : l.at ≤ 16384;
  done : List Unclosed;
  parted : Parted l.self.tracker.now done l.at;
  counted : l.self.counts.now ≡ with_open l.initial.self.counts.now done;
}

abbrev pub decreases-loop-unclosed : goal.decreases-loop-unclosed
decreases-loop-unclosed l = 16384 - l.at
