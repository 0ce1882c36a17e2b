-- A worked row: what its octets say.
use Rattle.std.proofs.Common.{◌≡◌, ℕ, List, [], ◌∷◌, refl, codes}
use Rattle.csv.specs.Writing.{escaped, fields_text, is_blank}
use Rattle.hex.specs.Hex.{encode_with}
use Rattle.std.specs.Fmt.{digits}
use Rattle.tm_fields.specs.declared.field.DataType.TheVariants.{Uint, Int, Float, Str, Fill}
use Rattle.tm_fields.specs.declared.field.Field.{Field}
use Rattle.tm_library.specs.BinaryRows.{text_of_row}

abbrev fields : List Field
fields =
    record { name = codes "LEVEL"; data_type = Int; begin = 48; length = 12 }
    ∷ record { name = codes "PAD"; data_type = Fill; begin = 60; length = 4 }
    ∷ record { name = codes "VOLTS"; data_type = Uint; begin = 64; length = 16 }
    ∷ record { name = codes "LABEL"; data_type = Str; begin = 80; length = 24 }
    ∷ record { name = codes "RATE"; data_type = Float; begin = 104; length = 32 } ∷ []

abbrev row : List ℕ
row =
    2 ∷ 1 ∷ 0 ∷ 0 ∷ 100 ∷ 0 ∷ 5 ∷ 0 ∷ 3 ∷ 0 ∷ 0 ∷ 0 ∷ 0 ∷ 0 ∷ 0 ∷ 0
    ∷ 254 ∷ 255 ∷ 1 ∷ 2 ∷ 97 ∷ 44 ∷ 98 ∷ 0 ∷ 0 ∷ 128 ∷ 63 ∷ []

-- record 258, channel 3, application 100 and count 5; -2 in two octets, nothing of the `fill`, 513, a comma within a text, and 1.0
-- guards: a-row-of-octets-says-what-the-row-of-text-says
row_said : text_of_row fields row ≡ codes "258,3,100,5,-2,513,\"a,b\",0x3f800000\n"
unfolding escaped fields_text is_blank digits encode_with
row_said = refl
