-- The beginning of the buffer has what was read, and no call failed yet.
use Rattle.std.proofs.Common.{length, ◌-◌, ◌≡◌, ◌≤◌, take}
use Rattle.std.specs.Io.KnownBytes.{Consumes}
use Rattle.tm_devices.proofs.transfer.fill.Given as goal

abbrev pub invariant-loop-filled : goal.invariant-loop-filled
invariant-loop-filled g l =
    (l.filled ≤ length l.buffer) × Consumes (g.R.BufferedSource.left l.initial.source) (g.R.BufferedSource.left l.source) (take l.filled l.buffer)
    × (g.R.BufferedSource.failures l.source ≡ g.R.BufferedSource.failures l.initial.source)

abbrev pub decreases-loop-filled : goal.decreases-loop-filled
decreases-loop-filled g l = length l.initial.buffer - l.filled
