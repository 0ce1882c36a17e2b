-- The octets of each application among puts.
use Rattle.std.specs.Prelude.{ℕ, ◌==◌, List, [], if◌then◌else◌}
use Rattle.std.specs.List.{flat_map}
use Rattle.tm_tests.specs.declared.memory.Put.{Put}

abbrev pub of_put : ℕ → Put → List ℕ
of_put k p = if p.application == k then p.octets.items else []

abbrev pub stored : List Put → ℕ → List ℕ
stored ps k = flat_map (of_put k) ps
