-- Worked texts and packets: what a text says, and what a packet gives under it.
use Rattle.std.proofs.Common.{◌≡◌, ℕ, List, [], ◌∷◌, ◌++◌, refl, replicate, Ok, Err, Some, None, codes}
use Rattle.csv.proofs.OnLiterals.{csv_on_literals}
use Rattle.csv.specs.Records.{field_at}
use Rattle.csv.specs.Writing.{escaped, fields_text, is_blank}
use Rattle.hex.specs.Hex.{encode_with}
use Rattle.std.specs.Fmt.{digits}
use Rattle.std.specs.List.{concat}
use Rattle.tm_bits.specs.Bits.{bits_of, low_bits, number, part}
use Rattle.tm_fields.specs.Numbers.{number_within}
use Rattle.tm_fields.specs.Reading.{definition_of}
use Rattle.tm_fields.specs.Rows.{head_of, row_from}
use Rattle.tm_fields.specs.declared.rows.RowForm.TheVariants.{Text}
use Rattle.tm_fields.specs.declared.lead.Lead.{Lead}
use Rattle.tm_faults.specs.declared.definition.Column.TheVariants as column
use Rattle.tm_faults.specs.declared.definition.DefinitionFault.TheVariants as fault
use Rattle.tm_fields.specs.declared.field.DataType.TheVariants.{Uint, Int, Float, Str, Fill}
use Rattle.tm_fields.specs.declared.field.Field.{Field}

-- a type with brackets, no type, more bits than a number may have, a name that is taken, and an end after the longest packet
rows_refused : (definition_of (codes "name,data_type,bit_length\nA,uint(4),8\n") ≡ Err (fault.Array 1))
    × (definition_of (codes "name,data_type,bit_length\nA,bool,8\n") ≡ Err (fault.Kind 1))
    × (definition_of (codes "name,data_type,bit_length\nA,uint,65\n") ≡ Err (fault.Bits 1))
    × (definition_of (codes "name,data_type,bit_length\nA,uint,8\nA,uint,8\n") ≡ Err (fault.Name 2))
    × (definition_of (codes "name,data_type,bit_length,bit_offset\nA,uint,1,524336\n") ≡ Err (fault.Offset 1))
unfolding csv_on_literals field_at
rows_refused = (refl, refl, refl, refl, refl)

-- two values under three headings, and no column of lengths
columns_refused : (definition_of (codes "name,data_type,bit_length\nA,uint\n") ≡ Err fault.Csv)
    × (definition_of (codes "name,data_type\n") ≡ Err (fault.Column column.BitLength))
unfolding csv_on_literals field_at
columns_refused = (refl, refl)

abbrev fields : List Field
fields =
    record { name = codes "VERSION"; data_type = Uint; begin = 48; length = 8 }
    ∷ record { name = codes "LEVEL"; data_type = Int; begin = 56; length = 12 }
    ∷ record { name = codes "PAD"; data_type = Fill; begin = 68; length = 4 }
    ∷ record { name = codes "LABEL"; data_type = Str; begin = 72; length = 24 }
    ∷ record { name = codes "RATE"; data_type = Float; begin = 96; length = 32 } ∷ []

-- values with blanks round them; each field begins where the one before it ends
read_whole : definition_of (codes "name, data_type, bit_length\nVERSION, uint, 8\nLEVEL, int, 12\nPAD, fill, 4\nLABEL, str, 24\nRATE, float, 32\n") ≡ Ok fields
unfolding csv_on_literals field_at
read_whole = refl

abbrev lead : Lead
lead = record { seen = 0; channel = 0; application = 100; count = 0 }

abbrev packet : List ℕ
packet = 0 ∷ 100 ∷ 192 ∷ 0 ∷ 0 ∷ 9 ∷ 7 ∷ 255 ∷ 240 ∷ 97 ∷ 44 ∷ 98 ∷ 63 ∷ 128 ∷ 0 ∷ 0 ∷ []

-- the head leaves the `fill` out
head : head_of fields ≡ codes "tm_record,tm_channel,tm_apid,tm_count,VERSION,LEVEL,LABEL,RATE\n"
unfolding escaped fields_text is_blank
head = refl

-- a negative number, a value with quotes, raw digits
row : row_from Text fields lead packet ≡ Ok (codes "0,0,100,0,7,-1,\"a,b\",0x3f800000\n")
unfolding escaped fields_text is_blank digits encode_with bits_of low_bits number part
row = refl

-- one and a half octets; a last bit that would lie after the octets; and no bits
bits_read : (number_within (255 ∷ 240 ∷ []) 0 12 ≡ Some 4095) × (number_within (255 ∷ 240 ∷ []) 12 5 ≡ None) × (number_within (255 ∷ 240 ∷ []) 0 0 ≡ None)
unfolding bits_of low_bits number part
bits_read = (refl, refl, refl)

-- 1001 rows
too_many : definition_of (codes "name,data_type,bit_length\n" ++ concat (replicate 1001 (codes "A,fill,8\n"))) ≡ Err fault.TooMany
unfolding csv_on_literals field_at
too_many = refl
