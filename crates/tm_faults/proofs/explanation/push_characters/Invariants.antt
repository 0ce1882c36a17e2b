use Rattle.std.proofs.Common.{◌≡◌, ◌++◌, flat_map}
use Rattle.tm_faults.specs.Explanations.{shown}
use Rattle.tm_faults.proofs.explanation.push_characters.Given as goal

abbrev pub invariant-loop-character : goal.invariant-loop-character
invariant-loop-character l = l.line.items ≡ l.initial.line.items ++ flat_map shown l.yielded
