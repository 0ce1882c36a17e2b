-- What the rows of the binary form say: their values as text, by the fields of the definition.
use Rattle.std.specs.Prelude.{◌<◌, ◌^◌, ◌*◌, ℕ, if◌then◌else◌, List, [], ◌∷◌, ◌++◌, length, take, drop, slice_index}
use Rattle.std.specs.Fmt.{decimal}
use Rattle.byteorder.specs.Endian.{big_bytes, little_number}
use Rattle.csv.specs.Writing.{default_writer, row_text}
use Rattle.tm_bits.specs.Escape.{escaped}
use Rattle.tm_fields.specs.Binary.{value_length}
use Rattle.tm_fields.specs.Reading.{is_shown}
use Rattle.tm_fields.specs.Rows.{raw, signed}
use Rattle.tm_fields.specs.declared.field.DataType.{DataType}
use Rattle.tm_fields.specs.declared.field.DataType.TheVariants.{Uint, Int, Float, Str, Fill}
use Rattle.tm_fields.specs.declared.field.Field.{Field}
use Rattle.tm_fields.specs.declared.lead.Lead.{Lead}

-- the number in octets, the least significant octet first
abbrev pub octets_number : List ℕ → ℕ
octets_number octets = little_number (length octets) octets

-- the text of a value by its octets alone: an `int` is in two's complement, and a `float` has its most significant octet last
abbrev pub text_in : DataType → List ℕ → List ℕ
text_in Uint octets = decimal (octets_number octets)
text_in Int octets = signed (8 * length octets) (octets_number octets)
text_in Float octets = raw (big_bytes (length octets) (octets_number octets))
text_in Str octets = escaped octets
text_in Fill octets = []

-- the text of a field's octets, if the field has a column
abbrev pub column_in : Field → List ℕ → List (List ℕ)
column_in f octets = if is_shown f.data_type then text_in f.data_type octets ∷ [] else []

-- the texts of fields by octets in which their values lie end to end
abbrev pub columns_in : List Field → List ℕ → List (List ℕ)
columns_in [] octets = []
columns_in (f ∷ more) octets = column_in f (take (value_length f) octets) ++ columns_in more (drop (value_length f) octets)

-- the texts of the lead by the octets in front of a row: record, channel, application and count
abbrev pub lead_texts_in : List ℕ → List (List ℕ)
lead_texts_in row =
    decimal (octets_number (take 4 row)) ∷ decimal (slice_index row 8) ∷ decimal (octets_number (take 2 (drop 4 row)))
    ∷ decimal (octets_number (take 2 (drop 6 row))) ∷ []

-- the row of text that says what a row of octets says
abbrev pub text_of_row : List Field → List ℕ → List ℕ
text_of_row fields row = row_text default_writer (lead_texts_in row ++ columns_in fields (drop 16 row))

-- each number of a lead has as many bits as its place in a row
abbrev pub IsLead : Lead → Type 0
IsLead lead = (lead.seen < 2 ^ 32) × (lead.application < 2 ^ 16) × (lead.count < 2 ^ 16)
