use Rattle.std.proofs.Common.{◌≡◌, take}
use Rattle.tm_bits.specs.Bits.{bits_of}
use Rattle.tm_frame.specs.code.Folding.{remainder_from}
use Rattle.tm_frame.proofs.control.error_control_by_table.Given as goal

-- the register is that of the octets so far
abbrev pub invariant-loop-octet : goal.invariant-loop-octet
invariant-loop-octet l = l.register ≡ remainder_from 65535 (bits_of (take l.octet-index l.octets))
