-- Numbers at places in octets. Bits are counted from the first octet on, the most significant bit of each octet first,
-- as CCSDS 133.0-B-2 numbers the bits of a packet (section 4.1).
use Rattle.std.specs.Prelude.{ℕ, zero, suc, ◌+◌, ◌*◌, ◌||◌, ◌==◌, nat_lt, if◌then◌else◌, List, [], ◌∷◌, length, Option, Some, None}
use Rattle.tm_bits.specs.Bits.{part}

-- how many bits octets have
abbrev pub bits_in : List ℕ → ℕ
bits_in octets = 8 * length octets

-- the number in 1 to 64 bits that lie within the octets
abbrev pub number_within : List ℕ → ℕ → ℕ → Option ℕ
number_within octets at count = if (count == 0) || nat_lt 64 count || nat_lt (bits_in octets) (at + count) then None else Some (part octets at (at + count))

-- so many octets, each of eight bits, from a bit on
abbrev pub octets_at : List ℕ → ℕ → ℕ → List ℕ
octets_at octets at zero = []
octets_at octets at (suc count) = part octets at (at + 8) ∷ octets_at octets (at + 8) count
