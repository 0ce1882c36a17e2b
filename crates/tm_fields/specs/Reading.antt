-- What a text says as a definition: its fields, or the first fault.
use Rattle.std.specs.Prelude.{ℕ, ◌+◌, ◌%◌, Bool, true, false, ◌&&◌, ◌||◌, ◌==◌, nat_eq, nat_le, nat_lt, if◌then◌else◌, List, [], ◌∷◌, ◌++◌, length, Option, Some, None, Ok, Err, codes}
use Rattle.std.specs.List.{list_any, starts_with, ends_with}
use Rattle.std.specs.Str.{bytes_eq}
use Rattle.tm_fields.specs.Columns.{ReadOrFault, and_then_read, columns_of}
use Rattle.tm_fields.specs.Table.{same_lengths, table}
use Rattle.tm_fields.specs.Values.{number_named, value}
use Rattle.tm_fields.specs.declared.columns.Columns.{Columns}
use Rattle.tm_faults.specs.declared.definition.Column.TheVariants as column
use Rattle.tm_faults.specs.declared.definition.DefinitionFault.TheVariants as fault
use Rattle.tm_fields.specs.declared.field.DataType.{DataType}
use Rattle.tm_fields.specs.declared.field.DataType.TheVariants.{Uint, Int, Float, Str, Fill}
use Rattle.tm_fields.specs.declared.field.Field.{Field}

-- ---- the type

-- the type of this name
abbrev pub type_named : List ℕ → Option DataType
type_named word = if bytes_eq word (codes "uint") then Some Uint
    else (if bytes_eq word (codes "int") then Some Int
    else (if bytes_eq word (codes "float") then Some Float
    else (if bytes_eq word (codes "str") then Some Str
    else (if bytes_eq word (codes "fill") then Some Fill else None))))

-- the word, an opening bracket, and any octets, the last one a closing bracket
abbrev pub is_array_of : List ℕ → List ℕ → Bool
is_array_of text word = starts_with nat_eq text (word ++ codes "(") && ends_with nat_eq text (codes ")")

-- a type's name and brackets
abbrev pub is_array : List ℕ → Bool
is_array text = is_array_of text (codes "uint") || is_array_of text (codes "int") || is_array_of text (codes "float") || is_array_of text (codes "str") || is_array_of text (codes "fill")

-- the type that a text names, or why it names none
abbrev pub typed : ℕ → List ℕ → Option DataType → ReadOrFault DataType
typed row text (Some data_type) = Ok data_type
typed row text None = if is_array text then Err (fault.Array row) else Err (fault.Kind row)

-- the type in a row
abbrev pub type_of : ℕ → List ℕ → ReadOrFault DataType
type_of row text = typed row text (type_named text)

-- ---- the bits

-- the bits of the longest packet, one of 65,542 octets
abbrev pub greatest_end : ℕ
greatest_end = 524336

-- the lengths that a field of a type may have, in bits
abbrev pub has_length : DataType → ℕ → Bool
has_length Uint bits = nat_le 1 bits && nat_le bits 64
has_length Int bits = nat_le 1 bits && nat_le bits 64
has_length Float bits = (bits == 16) || (bits == 32) || (bits == 64)
has_length Str bits = nat_le 8 bits && nat_le bits greatest_end && (bits % 8 == 0)
has_length Fill bits = nat_le 1 bits && nat_le bits greatest_end

-- the length that a text names, where the type may have it
abbrev pub with_length : ℕ → DataType → Option ℕ → ReadOrFault ℕ
with_length row data_type None = Err (fault.Bits row)
with_length row data_type (Some bits) = if has_length data_type bits then Ok bits else Err (fault.Bits row)

-- the length in a row
abbrev pub length_of : ℕ → DataType → List ℕ → ReadOrFault ℕ
length_of row data_type text = with_length row data_type (number_named text)

-- a row's value in the column of offsets, empty where there is no such column
abbrev pub offset_text : Option ℕ → List (List ℕ) → List ℕ
offset_text None values = []
offset_text (Some at) values = value values at

-- where a field begins: at the offset that is named, or else where the field before it ends
abbrev pub begin_named : ℕ → List ℕ → Option ℕ
begin_named before [] = Some before
begin_named before (digit ∷ more) = number_named (digit ∷ more)

-- a beginning from which the field lies within the longest packet
abbrev pub within : ℕ → ℕ → Option ℕ → ReadOrFault ℕ
within row bits None = Err (fault.Offset row)
within row bits (Some begin) = if nat_le (begin + bits) greatest_end then Ok begin else Err (fault.Offset row)

-- where the field of a row begins
abbrev pub begin_of : ℕ → ℕ → ℕ → List ℕ → ReadOrFault ℕ
begin_of row before bits text = within row bits (begin_named before text)

-- the bit after a field
abbrev pub end_of : Field → ℕ
end_of f = f.begin + f.length

-- where the last of some fields ends
abbrev pub last_end : ℕ → List Field → ℕ
last_end before [] = before
last_end before (f ∷ more) = last_end (end_of f) more

-- ---- the name

-- a field of the type has a column
abbrev pub is_shown : DataType → Bool
is_shown Uint = true
is_shown Int = true
is_shown Float = true
is_shown Str = true
is_shown Fill = false

-- the name of an earlier field, those of type `fill` left out
abbrev pub is_earlier_name : List ℕ → List Field → Bool
is_earlier_name name fields = list_any (λ f. is_shown f.data_type && bytes_eq f.name name) fields

-- no name, or one that is taken; a `fill` may have a name that is taken
abbrev pub is_refused_name : DataType → List ℕ → List Field → Bool
is_refused_name data_type name fields = (length name == 0) || (is_shown data_type && is_earlier_name name fields)

-- the name in a row
abbrev pub field_name_of : ℕ → DataType → List ℕ → List Field → ReadOrFault (List ℕ)
field_name_of row data_type name fields = if is_refused_name data_type name fields then Err (fault.Name row) else Ok name

-- ---- the fields

-- The field of a record that comes after some fields: rows count from 1, and the first field begins after the 48 bits of the
-- packet's header.
abbrev pub defined_field_of : Columns → List Field → List (List ℕ) → ReadOrFault Field
defined_field_of columns before values =
    let row = length before + 1 in
    and_then_read (type_of row (value values columns.data_type)) (λ data_type.
    and_then_read (length_of row data_type (value values columns.bit_length)) (λ bits.
    and_then_read (begin_of row (last_end 48 before) bits (offset_text columns.bit_offset values)) (λ begin.
    and_then_read (field_name_of row data_type (value values columns.name) before) (λ name.
    Ok (record { name = name; data_type = data_type; begin = begin; length = bits })))))

-- some fields, and those of the records after them
abbrev pub fields_from : Columns → List Field → List (List (List ℕ)) → ReadOrFault (List Field)
fields_from columns before [] = Ok before
fields_from columns before (values ∷ more) = and_then_read (defined_field_of columns before values) (λ f. fields_from columns (before ++ (f ∷ [])) more)

-- the fields of the records under a heading, at most 1000
abbrev pub fields_under : List (List (List ℕ)) → Columns → ReadOrFault (List Field)
fields_under records columns = if nat_lt 1000 (length records) then Err fault.TooMany else fields_from columns [] records

-- the fields of a table, its first record being the heading
abbrev pub fields_in : List (List (List ℕ)) → ReadOrFault (List Field)
fields_in [] = Err (fault.Column column.Name)
fields_in (headings ∷ records) = and_then_read (columns_of headings) (fields_under records)

-- the definition in a text
abbrev pub definition_of : List ℕ → ReadOrFault (List Field)
definition_of text = if same_lengths (table text) then fields_in (table text) else Err fault.Csv

-- what holds of each field that was read
abbrev pub is_sound : Field → Bool
is_sound f = has_length f.data_type f.length && nat_le (end_of f) greatest_end
