-- The frame error control field (CCSDS 132.0-B-3, 4.1.6): the remainder of a long division over lists of bits.
use Rattle.std.specs.Prelude.{ℕ, zero, suc, ◌*◌, Bool, true, false, not, cond, List, [], ◌∷◌, ◌++◌, length, map, take, drop, replicate}
use Rattle.tm_bits.specs.Bits.{bits_of, number}

-- x^16 + x^12 + x^5 + 1, as its 17 bits
abbrev pub generator : List Bool
generator =
    true ∷ false ∷ false ∷ false ∷ true ∷ false ∷ false ∷ false ∷ false
    ∷ false ∷ false ∷ true ∷ false ∷ false ∷ false ∷ false ∷ true ∷ []

-- two bits differ: their sum without a carry
abbrev pub differ : Bool → Bool → Bool
differ false d = d
differ true d = not d

-- the bits xs, with the bits ds subtracted from their front: without carries, so a bit is turned where ds has a 1
unfoldable pub subtract : List Bool → List Bool → List Bool
subtract [] ds = []
subtract (x ∷ xs) [] = x ∷ xs
subtract (x ∷ xs) (d ∷ ds) = differ x d ∷ subtract xs ds

-- n steps of long division by the generator: where the first bit is a 1, the generator is subtracted from the front, and
-- then the first bit goes
unfoldable pub long_division : ℕ → List Bool → List Bool
long_division zero xs = xs
long_division (suc n) [] = []
long_division (suc n) (x ∷ xs) = long_division n (drop 1 (cond x (subtract (x ∷ xs) generator) (x ∷ xs)))

-- the bits with the first n of them inverted
abbrev pub invert_first : ℕ → List Bool → List Bool
invert_first n xs = map not (take n xs) ++ drop n xs

-- the error control of octets: their bits and 16 zero bits, the first 16 bits of all this inverted (a register preset to ones),
-- divided until 16 bits are left
unfoldable pub error_control_of : List ℕ → ℕ
error_control_of octets =
    number (long_division (8 * length octets) (invert_first 16 (bits_of octets ++ replicate 16 false)))

-- the entry of an octet in the table of 256: the octet's bits and 16 zero bits, none of them inverted, divided until 16 bits
-- are left
unfoldable pub table_entry_of : ℕ → ℕ
table_entry_of octet = number (long_division 8 (bits_of (octet ∷ []) ++ replicate 16 false))
