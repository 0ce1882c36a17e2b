-- The head and the rows of a definition.
use Rattle.std.specs.Prelude.{◌≡◌, ◌≢◌, ◌<◌, ℕ, ◌+◌, ◌-◌, ◌/◌, ◌^◌, nat_lt, max, if◌then◌else◌, List, [], ◌∷◌, ◌++◌, Result, Ok, Err, codes}
use Rattle.std.specs.Fmt.{decimal}
use Rattle.std.specs.List.{flat_map}
use Rattle.csv.specs.Writing.{default_writer, row_text}
use Rattle.hex.specs.Hex.{encode_lower}
use Rattle.tm_bits.specs.Bits.{part}
use Rattle.tm_bits.specs.Escape.{escaped}
use Rattle.tm_fields.specs.Binary.{row_octets}
use Rattle.tm_fields.specs.Numbers.{bits_in, octets_at}
use Rattle.tm_fields.specs.Reading.{end_of, is_shown}
use Rattle.tm_fields.specs.declared.lead.Lead.{Lead}
use Rattle.tm_fields.specs.declared.faults.RowFault.{RowFault}
use Rattle.tm_fields.specs.declared.faults.RowFault.TheVariants as fault
use Rattle.tm_fields.specs.declared.field.DataType.{DataType}
use Rattle.tm_fields.specs.declared.field.DataType.TheVariants.{Uint, Int, Float, Str, Fill}
use Rattle.tm_fields.specs.declared.field.Field.{Field}
use Rattle.tm_fields.specs.declared.rows.RowForm.{RowForm}
use Rattle.tm_fields.specs.declared.rows.RowForm.TheVariants.{Text, Binary}

-- the greatest end of the fields, 0 without fields
abbrev pub bits_needed : List Field → ℕ
bits_needed [] = 0
bits_needed (f ∷ more) = max (end_of f) (bits_needed more)

-- ---- values

-- the number of so many bits in two's complement
abbrev pub signed : ℕ → ℕ → List ℕ
signed bits number = if nat_lt number (2 ^ (bits - 1)) then decimal number else codes "-" ++ decimal (2 ^ bits - number)

-- octets as raw digits
abbrev pub raw : List ℕ → List ℕ
raw octets = codes "0x" ++ encode_lower octets

-- a value of a type: the bits of a packet from `at` on, as many as `bits`
abbrev pub typed_text : List ℕ → DataType → ℕ → ℕ → List ℕ
typed_text packet Uint at bits = decimal (part packet at (at + bits))
typed_text packet Int at bits = signed bits (part packet at (at + bits))
typed_text packet Float at bits = raw (octets_at packet at (bits / 8))
typed_text packet Str at bits = escaped (octets_at packet at (bits / 8))
typed_text packet Fill at bits = []

-- a field's value, if it has a column
abbrev pub printed : List ℕ → Field → List (List ℕ)
printed packet f = if is_shown f.data_type then typed_text packet f.data_type f.begin f.length ∷ [] else []

-- a field's name, if it has a column
abbrev pub named : Field → List (List ℕ)
named f = if is_shown f.data_type then f.name ∷ [] else []

-- ---- records

-- the names of the columns that every head begins with
abbrev pub lead_names : List (List ℕ)
lead_names = codes "tm_record" ∷ codes "tm_channel" ∷ codes "tm_apid" ∷ codes "tm_count" ∷ []

-- the head, as CSV's default settings write it
abbrev pub head_of : List Field → List ℕ
head_of fields = row_text default_writer (lead_names ++ flat_map named fields)

-- the values under the names of the lead
abbrev pub lead_texts : Lead → List (List ℕ)
lead_texts lead = decimal lead.seen ∷ decimal lead.channel ∷ decimal lead.application ∷ decimal lead.count ∷ []

-- the row of a packet that has all bits that are needed, as CSV's default settings write it
abbrev pub row_of : List Field → Lead → List ℕ → List ℕ
row_of fields lead packet = row_text default_writer (lead_texts lead ++ flat_map (printed packet) fields)

-- the row of such a packet in a form
abbrev pub row_in : RowForm → List Field → Lead → List ℕ → List ℕ
row_in Text fields lead packet = row_of fields lead packet
row_in Binary fields lead packet = row_octets fields lead packet

-- the row of a packet, or how many bits it lacks
abbrev pub row_from : RowForm → List Field → Lead → List ℕ → Result (List ℕ) RowFault
row_from form fields lead packet =
    if nat_lt (bits_in packet) (bits_needed fields) then Err (fault.ShortPacket (bits_needed fields) (bits_in packet)) else Ok (row_in form fields lead packet)

-- these octets are the row of a packet
abbrev pub IsRow : RowForm → List Field → Lead → List ℕ → List ℕ → Type 0
IsRow form fields lead packet row = row_from form fields lead packet ≡ Ok row

-- memory ran out, or the packet has no row for this reason
abbrev pub RefusesRow : RowForm → List Field → Lead → List ℕ → RowFault → Type 0
RefusesRow form fields lead packet refusal = refusal ≢ fault.NoMemory → row_from form fields lead packet ≡ Err refusal

-- a packet that lacks bits is refused as that, whatever memory there is
abbrev pub RefusesShort : {A : Type 0} → List Field → List ℕ → Result A RowFault → Type 0
RefusesShort fields packet result = bits_in packet < bits_needed fields → result ≡ Err (fault.ShortPacket (bits_needed fields) (bits_in packet))

-- rows of these fields, and the last of them
pub record RowsState : Type 0 where
  pub fields : List Field
  pub row : List ℕ

-- rows in octets: also how many octets there is memory for
pub record BinaryRowsState : Type 0 where
  pub fields : List Field
  pub row : List ℕ
  pub capacity : ℕ
