use Rattle.std.proofs.Common.{◌≡◌, length}
use Rattle.tm_fields.specs.Values.{trimmed, without_back, without_front}
use Rattle.tm_fields.proofs.words.trim.Given as goal

abbrev pub invariant-loop-rest : goal.invariant-loop-rest
invariant-loop-rest l = without_front l.rest ≡ without_front l.fn.value

abbrev pub decreases-loop-rest : goal.decreases-loop-rest
decreases-loop-rest l = length l.rest

abbrev pub invariant-loop-rest-2 : goal.invariant-loop-rest-2
invariant-loop-rest-2 l = without_back l.rest ≡ trimmed l.fn.value

abbrev pub decreases-loop-rest-2 : goal.decreases-loop-rest-2
decreases-loop-rest-2 l = length l.rest
