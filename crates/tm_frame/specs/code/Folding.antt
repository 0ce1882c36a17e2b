-- Folding, by which error control is computed. No public contract speaks of it.
use Rattle.std.specs.Prelude.{ℕ, ◌*◌, Bool, true, false, List, [], ◌∷◌, ◌++◌, ◌≡◌, length, drop, replicate, bit_xor}
use Rattle.tm_bits.specs.Bits.{bits_of, low_bits, number}
use Rattle.tm_frame.specs.ErrorControl.{long_division, subtract}

-- what division leaves of the bits and 16 zero bits, where the 16 bits of `register` are first subtracted from the front
unfoldable pub remainder_from : ℕ → List Bool → ℕ
remainder_from register bits =
    number (long_division (length bits) (subtract (bits ++ replicate 16 false) (low_bits 16 register)))

-- the remainder of the bits, with n zero bits and 16 more after them
abbrev pub shifted : ℕ → List Bool → ℕ
shifted n bits = remainder_from 0 (bits ++ replicate n false)

-- the remainder of the octets' bits and 16 zero bits
abbrev pub octets_remainder : List ℕ → ℕ
octets_remainder octets = remainder_from 0 (bits_of octets)

-- what a pair of words without its first octets adds to the remainder, where n octets follow it
abbrev pub rest_of_pair : ℕ → ℕ → List ℕ → ℕ
rest_of_pair first n pair = shifted (8 * n) (bits_of (drop first pair))

-- A 1 may be taken away if it is added 4, 11 and 16 times `width` bits further on. For modulo the generator, x to the power of 16
-- times `width` is a sum: that of x to the powers of 12 times `width`, 5 times `width`, and 0.
pub record Folds (width : ℕ) : Type 0 where
  pub sum : shifted (16 * width) (true ∷ []) ≡ bit_xor (shifted (12 * width) (true ∷ [])) (bit_xor (shifted (5 * width) (true ∷ [])) (shifted 0 (true ∷ [])))

-- the bits of words of 64 bits, the most significant bit of each word first
unfoldable pub bits_of_words : List ℕ → List Bool
bits_of_words [] = []
bits_of_words (w ∷ ws) = low_bits 64 w ++ bits_of_words ws

-- the remainder of the words' bits and 16 zero bits
abbrev pub words_remainder : List ℕ → ℕ
words_remainder words = remainder_from 0 (bits_of_words words)
