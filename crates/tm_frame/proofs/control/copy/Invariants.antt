use Rattle.std.proofs.Common.{◌≡◌, ◌*◌, take}
use Rattle.tm_frame.proofs.control.copy.Given as goal

-- the octets so far are those that are given
abbrev pub invariant-loop-i : goal.invariant-loop-i
invariant-loop-i l = take (16 * l.i) l.octets ≡ take (16 * l.i) l.from
