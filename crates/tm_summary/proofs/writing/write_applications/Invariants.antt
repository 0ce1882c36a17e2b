-- The lines of those before are written.
use Rattle.tm_summary.specs.Adding.{no_application}
use Rattle.tm_summary.proofs.WritingLemmas.{TookBelow, application_lines_of, lines_at}
use Rattle.tm_summary.proofs.writing.write_applications.Given as goal

abbrev pub invariant-loop-key : goal.invariant-loop-key
invariant-loop-key g l = TookBelow g.W.Drain l.fn.out l.out (lines_at application_lines_of l.applications no_application) l.key
