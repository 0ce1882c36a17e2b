-- The records of a text under the default settings of CSV, and whether they have one number of values.
use Rattle.std.specs.Prelude.{ℕ, Bool, true, List, [], ◌∷◌, length, ◌==◌}
use Rattle.std.specs.List.{list_all}
use Rattle.csv.specs.Reading.{default_config, records, strip_bom}

-- every record of a text, the heading first; one byte order mark at its beginning is passed over
abbrev pub table : List ℕ → List (List (List ℕ))
table text = records default_config (strip_bom text)

-- each record has as many values as the first
abbrev pub same_lengths : List (List (List ℕ)) → Bool
same_lengths [] = true
same_lengths (first ∷ more) = list_all (λ values. length values == length first) more
