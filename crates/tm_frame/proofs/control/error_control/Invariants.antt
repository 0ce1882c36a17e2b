use Rattle.std.proofs.Common.{◌≡◌, ◌%◌, length}
use Rattle.tm_bits.specs.Bits.{bits_of}
use Rattle.tm_frame.specs.code.Folding.{octets_remainder, remainder_from}
use Rattle.tm_frame.proofs.control.error_control.Given as goal

-- what the octets held and the blocks that are left will give
abbrev pub invariant-loop-rest : goal.invariant-loop-rest
invariant-loop-rest l = record {
  whole : length l.rest % 128 ≡ 0;
  same : remainder_from (octets_remainder l.held) (bits_of l.rest) ≡ remainder_from 65535 (bits_of l.octets);
}

abbrev pub decreases-loop-rest : goal.decreases-loop-rest
decreases-loop-rest l = length l.rest
