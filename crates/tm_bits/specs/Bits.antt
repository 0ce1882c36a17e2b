-- Octets as bits, and bits as numbers.
use Rattle.std.specs.Prelude.{ℕ, zero, suc, ◌+◌, ◌*◌, ◌/◌, ◌%◌, ◌^◌, ◌<◌, Bool, true, false, ◌==◌, List, [], ◌∷◌, ◌++◌, length, slice_index, slice_range}
use Rattle.std.specs.Int.{bit_at}

-- every item is an octet
pub record AreOctets (xs : List ℕ) : Type 0 where
  pub below : (i : ℕ) → slice_index xs i < 256

-- the lowest k bits of x, the most significant first
unfoldable pub low_bits : ℕ → ℕ → List Bool
low_bits zero x = []
low_bits (suc k) x = (bit_at x k == 1) ∷ low_bits k x

-- the bits of the octets, the most significant bit of each octet first
unfoldable pub bits_of : List ℕ → List Bool
bits_of [] = []
bits_of (x ∷ xs) = low_bits 8 x ++ bits_of xs

-- what a bit counts
abbrev pub digit : Bool → ℕ
digit false = 0
digit true = 1

-- the number that the bits spell, the most significant first
unfoldable pub number : List Bool → ℕ
number [] = 0
number (b ∷ bs) = digit b * 2 ^ length bs + number bs

-- the number in the bits of the octets from bit `from` up to, not with, bit `to`
unfoldable pub part : List ℕ → ℕ → ℕ → ℕ
part octets from to = number (slice_range (bits_of octets) from to)

-- one bit of the octets is set
abbrev pub flag : List ℕ → ℕ → Bool
flag octets at = part octets at (at + 1) == 1

-- a number in two octets, the most significant first
abbrev pub two_octets : ℕ → List ℕ
two_octets n = n / 256 ∷ n % 256 ∷ []

-- the number in the two octets from a place on
abbrev pub two_at : List ℕ → ℕ → ℕ
two_at xs i = 256 * slice_index xs i + slice_index xs (i + 1)
