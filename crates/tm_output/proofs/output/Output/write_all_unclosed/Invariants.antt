-- The lines of the open groups below the next key are written and counted.
use Rattle.std.proofs.Common.{◌≡◌, ◌≤◌, ◌-◌, List}
use Rattle.tm_packet.specs.declared.tracker.Unclosed.{Unclosed}
use Rattle.tm_output.specs.Outputs.{Took}
use Rattle.tm_output.specs.Pieces.{unclosed_pieces}
use Rattle.tm_output.specs.Seen.{fixture, output_both}
use Rattle.tm_output.specs.Totals.{with_unclosed}
use Rattle.tm_output.proofs.OpenGroups.{Parted}
use Rattle.tm_output.proofs.output.Output.write_all_unclosed.Given as goal

abbrev pub invariant-loop-unclosed : goal.invariant-loop-unclosed
invariant-loop-unclosed g l = record {
  same : fixture g.O.Outlet g.V.Drain l.self ≡ fixture g.O.Outlet g.V.Drain l.initial.self;
  tracker : l.self.tracker.now ≡ l.initial.self.tracker.now;
  below : l.at ≤ 16384;
  done : List Unclosed;
  parted : Parted l.self.tracker.now done l.at;
  took : Took g.O.Outlet.grows (output_both g.O.Outlet g.V.Drain l.initial.self) (output_both g.O.Outlet g.V.Drain l.self) (unclosed_pieces l.seen done);
  totals : l.self.totals ≡ with_unclosed l.initial.self.totals done;
}

abbrev pub decreases-loop-unclosed : goal.decreases-loop-unclosed
decreases-loop-unclosed g l = 16384 - l.at
