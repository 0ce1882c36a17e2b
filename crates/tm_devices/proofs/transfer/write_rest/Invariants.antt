-- What is gone from `rest` was appended, and no call failed yet.
use Rattle.std.proofs.Common.{◌≡◌, ℕ, List, ◌++◌, length}
use Rattle.std.specs.Io.KnownBytes.{Appends}
use Rattle.tm_devices.proofs.transfer.write_rest.Given as goal

abbrev pub invariant-loop-rest : goal.invariant-loop-rest
invariant-loop-rest g l =
    (done : List ℕ) × (l.initial.rest ≡ done ++ l.rest) × Appends (g.W.Drain.written l.initial.out) (g.W.Drain.written l.out) done
    × (g.W.Drain.failures l.out ≡ g.W.Drain.failures l.initial.out) × (g.W.Drain.fixed l.out ≡ g.W.Drain.fixed l.initial.out)

abbrev pub decreases-loop-rest : goal.decreases-loop-rest
decreases-loop-rest g l = length l.rest
