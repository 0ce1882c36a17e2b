-- The lines of those before are written.
use Rattle.tm_summary.proofs.WritingLemmas.{TookBelow, fault_lines_of, lines_at}
use Rattle.tm_summary.proofs.writing.write_faults.Given as goal

abbrev pub invariant-loop-place : goal.invariant-loop-place
invariant-loop-place g l = TookBelow g.W.Drain l.fn.out l.out (lines_at fault_lines_of l.faults 0) l.place
