-- The lines of those before are written.
use Rattle.tm_summary.specs.Lines.{channel_lines_at}
use Rattle.tm_summary.proofs.WritingLemmas.{TookBelow}
use Rattle.tm_summary.proofs.writing.write_channels.Given as goal

abbrev pub invariant-loop-channel : goal.invariant-loop-channel
invariant-loop-channel g l = TookBelow g.W.Drain l.fn.out l.out (channel_lines_at l.chosen l.channels) l.channel
