use Rattle.std.proofs.Common.{◌≡◌, drop}
use Rattle.tm_frame.specs.code.Folding.{words_remainder}
use Rattle.tm_frame.proofs.control.fold.Given as goal

-- the words up to this one are taken away
abbrev pub invariant-loop-i : goal.invariant-loop-i
invariant-loop-i l = words_remainder (drop l.i l.words) ≡ words_remainder l.initial.words
