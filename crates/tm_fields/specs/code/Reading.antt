-- For private contracts: steps in reading the records of a definition.
use Rattle.std.specs.Prelude.{◌≡◌, ℕ, List, take}
use Rattle.std.specs.Borrow.{Bor}
use Rattle.std.specs.BTreeSet.{BTreeSet, contains}
use Rattle.std.specs.Cmp.Lexicographic.{slice_cmp}
use Rattle.std.specs.Ordering.{nat_cmp}
use Rattle.csv.specs.declared.error.ErrorKind.{ErrorKind}
use Rattle.csv.specs.declared.error.ErrorKind.TheVariants as kind
use Rattle.tm_fields.specs.Reading.{is_earlier_name}
use Rattle.tm_fields.specs.declared.field.Field.{Field}
use Rattle.tm_fields.specs.declared.columns.Standing.{Standing}
use Rattle.tm_fields.specs.declared.columns.Standing.TheVariants.{Nowhere, At, Often}
use Rattle.tm_faults.specs.declared.definition.DefinitionFault.{DefinitionFault}
use Rattle.tm_faults.specs.declared.definition.DefinitionFault.TheVariants.{Csv, NoMemory}

-- where a heading stands that stands at one more place
abbrev pub met : Standing → ℕ → Standing
met Nowhere at = At at
met (At first) at = Often
met Often at = Often

-- as many records as can count, the heading, 1000 fields, and one that is too many
abbrev pub kept : List (List (List ℕ)) → List (List (List ℕ))
kept records = take 1002 records

-- the fault of an error in reading CSV; a text in memory gives no error of its own, so what is not of
-- lengths is of memory
abbrev pub fault_of_kind : ErrorKind → DefinitionFault
fault_of_kind (kind.UnequalLengths position expected found) = Csv
fault_of_kind (kind.Io error) = NoMemory
fault_of_kind (kind.Utf8 position error) = NoMemory
fault_of_kind kind.OutOfMemory = NoMemory
fault_of_kind (kind.Serialize text) = NoMemory
fault_of_kind (kind.Deserialize position error) = NoMemory

-- the set has the names of the fields that have a column
abbrev pub AreNames : List Field → BTreeSet (Bor (List ℕ)) → Type 0
AreNames fields names = (name : Bor (List ℕ)) → contains (λ a b. slice_cmp nat_cmp a.now b.now) names name ≡ is_earlier_name name.now fields
