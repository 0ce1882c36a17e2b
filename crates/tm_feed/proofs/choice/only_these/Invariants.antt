use Rattle.tm_feed.proofs.OnlyLemmas.{KeepsGiven}
use Rattle.tm_feed.proofs.choice.only_these.Given as goal

abbrev pub invariant-loop-i : goal.invariant-loop-i
invariant-loop-i l = KeepsGiven l.applications l.only l.i
