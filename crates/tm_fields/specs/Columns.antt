-- The columns of a definition, by the headings of its first record.
use Rattle.std.specs.Prelude.{ℕ, ◌+◌, if◌then◌else◌, List, [], ◌∷◌, Option, Some, None, Result, Ok, Err}
use Rattle.std.specs.Str.{bytes_eq}
use Rattle.tm_faults.specs.Columns.{column_word}
use Rattle.tm_fields.specs.Values.{trimmed}
use Rattle.tm_fields.specs.declared.columns.Columns.{Columns}
use Rattle.tm_fields.specs.declared.columns.Standing.{Standing}
use Rattle.tm_fields.specs.declared.columns.Standing.TheVariants.{Nowhere, At, Often}
use Rattle.tm_faults.specs.declared.definition.Column.{Column}
use Rattle.tm_faults.specs.declared.definition.Column.TheVariants.{Name, DataType, BitLength, BitOffset}
use Rattle.tm_faults.specs.declared.definition.DefinitionFault.{DefinitionFault}
use Rattle.tm_faults.specs.declared.definition.DefinitionFault.TheVariants as fault

-- what is read, or why the text is no definition
abbrev pub ReadOrFault : Type 0 → Type 0
ReadOrFault A = Result A DefinitionFault

-- what is read next, by what was read before it; the first fault decides
abbrev pub and_then_read : {A B : Type 0} → ReadOrFault A → (A → ReadOrFault B) → ReadOrFault B
and_then_read (Ok x) next = next x
and_then_read (Err e) next = Err e

-- the places at which a heading stands, where the first of these headings is at the place `at`
abbrev pub heading_places : List ℕ → ℕ → List (List ℕ) → List ℕ
heading_places word at [] = []
heading_places word at (heading ∷ more) = if bytes_eq (trimmed heading) word then at ∷ heading_places word (at + 1) more else heading_places word (at + 1) more

-- nowhere, at one place, or at more than one
abbrev pub standing_of : List ℕ → Standing
standing_of [] = Nowhere
standing_of (at ∷ []) = At at
standing_of (at ∷ next ∷ more) = Often

-- where a column's heading stands
abbrev pub standing : List ℕ → List (List ℕ) → Standing
standing word headings = standing_of (heading_places word 0 headings)

-- a column that has to stand at one place
abbrev pub only : Column → Standing → ReadOrFault ℕ
only column Nowhere = Err (fault.Column column)
only column (At at) = Ok at
only column Often = Err (fault.Column column)

-- a column that may be left out
abbrev pub at_most_one : Column → Standing → ReadOrFault (Option ℕ)
at_most_one column Nowhere = Ok None
at_most_one column (At at) = Ok (Some at)
at_most_one column Often = Err (fault.Column column)

-- the places of the columns
abbrev pub columns_of : List (List ℕ) → ReadOrFault Columns
columns_of headings =
    and_then_read (only Name (standing (column_word Name) headings)) (λ name.
    and_then_read (only DataType (standing (column_word DataType) headings)) (λ data_type.
    and_then_read (only BitLength (standing (column_word BitLength) headings)) (λ bit_length.
    and_then_read (at_most_one BitOffset (standing (column_word BitOffset) headings)) (λ bit_offset.
    Ok (record { name = name; data_type = data_type; bit_length = bit_length; bit_offset = bit_offset })))))
