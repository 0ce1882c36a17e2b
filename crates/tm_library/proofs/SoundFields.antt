-- What is read as a definition has only sound fields.
use Rattle.std.proofs.Common.{◌≡◌, ℕ, ◌+◌, Bool, true, false, nat_le, nat_lt, List, [], ◌∷◌, ◌++◌, length, refl, ◌∙◌, Option, Some, None, Ok, Err}
use Rattle.std.specs.Prelude.{if◌then◌else◌, ⊤}
use Rattle.std.specs.List.{list_all}
use Rattle.std.proofs.lemmas.List.Folds.{list_all-append}
use Rattle.tm_fields.specs.Columns.{ReadOrFault, and_then_read, columns_of}
use Rattle.tm_fields.specs.Reading.{begin_of, begin_named, definition_of, defined_field_of, field_name_of, fields_from, fields_in, fields_under, greatest_end, has_length, is_sound, last_end, length_of, offset_text, type_of, with_length, within}
use Rattle.tm_fields.specs.Table.{same_lengths, table}
use Rattle.tm_fields.specs.Values.{number_named, value}
use Rattle.tm_fields.specs.declared.columns.Columns.{Columns}
use Rattle.tm_fields.specs.declared.field.DataType.{DataType}
use Rattle.tm_fields.specs.declared.field.Field.{Field}
use Rattle.tm_faults.specs.declared.definition.DefinitionFault.TheVariants as fault

-- what is read has a property
abbrev Reads : {A : Type 0} → (A → Type 0) → ReadOrFault A → Type 0
Reads P (Ok x) = P x
Reads P (Err e) = ⊤

then_reads : {A B : Type 0} (P : A → Type 0) (Q : B → Type 0) (r : ReadOrFault A) (next : A → ReadOrFault B)
    → Reads P r → ((x : A) → P x → Reads Q (next x)) → Reads Q (and_then_read r next)
then_reads P Q (Ok x) next h more = more x h
then_reads P Q (Err e) next h more = tt

-- what is read by a test
tested : {A : Type 0} (P : A → Type 0) (test : Bool) (r s : ReadOrFault A) → (test ≡ true → Reads P r) → Reads P s → Reads P (if test then r else s)
tested P true r s h more = h refl
tested P false r s h more = more

read_length : (row : ℕ) (kind : DataType) (named : Option ℕ) → Reads (λ (bits : ℕ). has_length kind bits ≡ true) (with_length row kind named)
read_length row kind None = tt
read_length row kind (Some bits) = tested (λ (n : ℕ). has_length kind n ≡ true) (has_length kind bits) (Ok bits) (Err (fault.Bits row)) (λ h. h) tt

read_begin : (row bits : ℕ) (named : Option ℕ) → Reads (λ (begin : ℕ). nat_le (begin + bits) greatest_end ≡ true) (within row bits named)
read_begin row bits None = tt
read_begin row bits (Some begin) =
    tested (λ (n : ℕ). nat_le (n + bits) greatest_end ≡ true) (nat_le (begin + bits) greatest_end) (Ok begin) (Err (fault.Offset row)) (λ h. h) tt

any_read : {A : Type 0} (r : ReadOrFault A) → Reads (λ (x : A). ⊤) r
any_read (Ok x) = tt
any_read (Err e) = tt

read_field : (columns : Columns) (before : List Field) (values : List (List ℕ)) → Reads (λ (f : Field). is_sound f ≡ true) (defined_field_of columns before values)
read_field columns before values =
    let row : ℕ = length before + 1 in
    then_reads (λ (kind : DataType). ⊤) (λ (f : Field). is_sound f ≡ true) (type_of row (value values columns.data_type)) _ (any_read (type_of row (value values columns.data_type))) (λ kind _.
    then_reads (λ (bits : ℕ). has_length kind bits ≡ true) (λ (f : Field). is_sound f ≡ true) (length_of row kind (value values columns.bit_length)) _ (read_length row kind (number_named (value values columns.bit_length))) (λ bits has.
    then_reads (λ (begin : ℕ). nat_le (begin + bits) greatest_end ≡ true) (λ (f : Field). is_sound f ≡ true) (begin_of row (last_end 48 before) bits (offset_text columns.bit_offset values)) _ (read_begin row bits (begin_named (last_end 48 before) (offset_text columns.bit_offset values))) (λ begin ends.
    then_reads (λ (name : List ℕ). ⊤) (λ (f : Field). is_sound f ≡ true) (field_name_of row kind (value values columns.name) before) _ (any_read (field_name_of row kind (value values columns.name) before)) (λ name _.
    rw (has, ends) refl))))

abbrev AreSound : List Field → Type 0
AreSound fields = list_all is_sound fields ≡ true

read_fields : (columns : Columns) (before : List Field) (records : List (List (List ℕ))) → AreSound before → Reads AreSound (fields_from columns before records)
read_fields columns before [] sound = sound
read_fields columns before (values ∷ more) sound =
    then_reads (λ (f : Field). is_sound f ≡ true) AreSound (defined_field_of columns before values) _ (read_field columns before values)
    (λ f one. read_fields columns (before ++ (f ∷ [])) more (list_all-append is_sound before (f ∷ []) ∙ rw (sound, one) refl))

read_under : (records : List (List (List ℕ))) (columns : Columns) → Reads AreSound (fields_under records columns)
read_under records columns =
    tested AreSound (nat_lt 1000 (length records)) (Err fault.TooMany) (fields_from columns [] records) (λ _. tt) (read_fields columns [] records refl)

read_in : (records : List (List (List ℕ))) → Reads AreSound (fields_in records)
read_in [] = tt
read_in (headings ∷ records) = then_reads (λ (columns : Columns). ⊤) AreSound (columns_of headings) (fields_under records) (any_read (columns_of headings)) (λ columns _. read_under records columns)

pub definition_sound : (text : List ℕ) (fields : List Field) → definition_of text ≡ Ok fields → list_all is_sound fields ≡ true
definition_sound text fields is =
    rw is at (tested AreSound (same_lengths (table text)) (fields_in (table text)) (Err fault.Csv) (λ _. read_in (table text)) tt)
