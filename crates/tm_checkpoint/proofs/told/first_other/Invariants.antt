use Rattle.std.proofs.Common.{◌≡◌, drop}
use Rattle.std.specs.List.{find}
use Rattle.tm_checkpoint.specs.Told.{is_other}
use Rattle.tm_checkpoint.proofs.told.first_other.Given as goal

-- the first of all is the first of those that are left
abbrev pub invariant-loop-key : goal.invariant-loop-key
invariant-loop-key l = find (is_other l.settings l.octets) l.keys ≡ find (is_other l.settings l.octets) (drop l.key-index l.keys)
