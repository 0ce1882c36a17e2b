-- The values of a record, and the numbers in them.
use Rattle.std.specs.Prelude.{ℕ, ◌+◌, ◌-◌, ◌*◌, ◌^◌, Bool, ◌&&◌, ◌||◌, ◌==◌, nat_le, if◌then◌else◌, List, [], ◌∷◌, length, Option, Some, None}
use Rattle.std.specs.List.{list_all}
use Rattle.std.specs.Char.{is_ascii_digit}
use Rattle.csv.specs.Records.{field_at}

-- a space or a tab
abbrev pub is_blank : ℕ → Bool
is_blank octet = (octet == 32) || (octet == 9)

-- without the blanks in front
abbrev pub without_front : List ℕ → List ℕ
without_front [] = []
without_front (octet ∷ more) = if is_blank octet then without_front more else octet ∷ more

-- an octet in front of what is left of the rest, unless it is a blank and nothing is left
abbrev pub before_rest : ℕ → List ℕ → List ℕ
before_rest octet [] = if is_blank octet then [] else octet ∷ []
before_rest octet (next ∷ more) = octet ∷ next ∷ more

-- without the blanks at the end
abbrev pub without_back : List ℕ → List ℕ
without_back [] = []
without_back (octet ∷ more) = before_rest octet (without_back more)

-- without the blanks at both ends
abbrev pub trimmed : List ℕ → List ℕ
trimmed octets = without_back (without_front octets)

-- a value trimmed, empty where there is none
abbrev pub trimmed_or_empty : Option (List ℕ) → List ℕ
trimmed_or_empty None = []
trimmed_or_empty (Some octets) = trimmed octets

-- a record's value in a column
abbrev pub value : List (List ℕ) → ℕ → List ℕ
value values at = trimmed_or_empty (field_at values at)

-- the number that decimal digits spell, the most significant first
abbrev pub digits_number : List ℕ → ℕ
digits_number [] = 0
digits_number (digit ∷ more) = (digit - 48) * 10 ^ length more + digits_number more

-- the number of one to nine digits, and of nothing else
abbrev pub number_named : List ℕ → Option ℕ
number_named text = if nat_le 1 (length text) && nat_le (length text) 9 && list_all is_ascii_digit text then Some (digits_number text) else None
