-- How octets that may be anything are printed.
use Rattle.std.specs.Prelude.{◌&&◌, ◌++◌, ℕ, Bool, not, List, [], ◌∷◌, ◌==◌, nat_le, codes, if◌then◌else◌}
use Rattle.std.specs.List.{flat_map}
use Rattle.hex.specs.Hex.{encode_lower}

-- the octet stands for itself: a visible character or a space, but no backslash
abbrev pub is_plain : ℕ → Bool
is_plain octet = (nat_le 32 octet && nat_le octet 126) && not (octet == 92)

-- an octet as it is printed
abbrev pub octet_text : ℕ → List ℕ
octet_text octet = if is_plain octet then octet ∷ [] else codes "\\x" ++ encode_lower (octet ∷ [])

-- octets as they are printed
abbrev pub escaped : List ℕ → List ℕ
escaped octets = flat_map octet_text octets
