use Rattle.std.proofs.Common.{◌≡◌, ◌*◌, take}
use Rattle.tm_bits.specs.Bits.{bits_of}
use Rattle.tm_frame.specs.code.Folding.{bits_of_words}
use Rattle.tm_frame.proofs.control.fill.Given as goal

-- the words so far are the octets so far
abbrev pub invariant-loop-i : goal.invariant-loop-i
invariant-loop-i l = bits_of_words (take l.i l.words) ≡ bits_of (take (8 * l.i) l.octets)
