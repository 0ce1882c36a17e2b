use Rattle.tm_frame.proofs.ChannelSets.{KeepsMarks}
use Rattle.tm_frame.proofs.channels.Channels.of.Given as goal

abbrev pub invariant-loop-i : goal.invariant-loop-i
invariant-loop-i l = KeepsMarks l.numbers l.chosen l.i
