-- The first octets of the text stand before what was there.
use Rattle.std.proofs.Common.{◌≡◌, ◌+◌, ◌++◌, drop, take}
use Rattle.tm_lines.proofs.buffer.LineBuffer.prepend_text.Given as goal

abbrev pub invariant-loop-i : goal.invariant-loop-i
invariant-loop-i g l = drop l.begin l.octets ≡ take l.i l.text ++ drop (l.begin + l.i) l.initial.octets
