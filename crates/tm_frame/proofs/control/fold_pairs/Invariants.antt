use Rattle.std.proofs.Common.{◌≡◌, ◌-◌, ◌*◌, length, drop}
use Rattle.std.specs.Prelude.{bit_xor}
use Rattle.tm_frame.specs.code.Folding.{octets_remainder, rest_of_pair}
use Rattle.tm_frame.proofs.control.fold_pairs.Given as goal

-- the pairs up to this one are taken away, but for the rest of the one before
abbrev pub invariant-loop-i : goal.invariant-loop-i
invariant-loop-i l = record {
  both : length l.before ≡ 16;
  same : bit_xor (octets_remainder (drop (16 * l.i) l.octets)) (rest_of_pair l.step (length l.octets - 16 * l.i - 11 * l.step) l.before) ≡ octets_remainder l.initial.octets;
}
