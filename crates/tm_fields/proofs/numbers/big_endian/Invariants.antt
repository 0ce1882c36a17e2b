use Rattle.std.proofs.Common.{◌≡◌, ◌<◌, ◌^◌, take}
use Rattle.tm_bits.specs.Bits.{bits_of, number}
use Rattle.tm_fields.proofs.numbers.big_endian.Given as goal

abbrev pub invariant-loop-octet : goal.invariant-loop-octet
invariant-loop-octet l = (l.all ≡ number (bits_of (take l.octet-index l.octets))) × (l.all < 256 ^ l.octet-index)
