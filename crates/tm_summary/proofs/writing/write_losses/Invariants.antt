-- The lines of those before are written.
use Rattle.tm_summary.specs.Adding.{no_loss}
use Rattle.tm_summary.proofs.WritingLemmas.{TookBelow, lines_at, loss_lines_of}
use Rattle.tm_summary.proofs.writing.write_losses.Given as goal

abbrev pub invariant-loop-place : goal.invariant-loop-place
invariant-loop-place g l = TookBelow g.W.Drain l.fn.out l.out (lines_at (loss_lines_of l.channel) l.losses no_loss) l.place
