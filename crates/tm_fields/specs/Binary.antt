-- The rows of a definition in octets, all of one length: a lead of 16 octets, and each field in as many octets as its type and length
-- say. Numbers have the least significant octet first.
use Rattle.std.specs.Prelude.{ℕ, ◌+◌, ◌-◌, ◌/◌, ◌^◌, nat_le, nat_lt, if◌then◌else◌, List, [], ◌∷◌, ◌++◌}
use Rattle.std.specs.List.{flat_map, sum_by}
use Rattle.byteorder.specs.Endian.{little_bytes}
use Rattle.tm_bits.specs.Bits.{part}
use Rattle.tm_fields.specs.Numbers.{octets_at}
use Rattle.tm_fields.specs.declared.lead.Lead.{Lead}
use Rattle.tm_fields.specs.declared.field.DataType.{DataType}
use Rattle.tm_fields.specs.declared.field.DataType.TheVariants.{Uint, Int, Float, Str, Fill}
use Rattle.tm_fields.specs.declared.field.Field.{Field}

-- the fewest of 1, 2, 4 and 8 octets that hold so many bits
abbrev pub number_length : ℕ → ℕ
number_length bits = if nat_le bits 8 then 1 else (if nat_le bits 16 then 2 else (if nat_le bits 32 then 4 else 8))

-- a number of so many bits in two's complement, in two's complement of 64 bits: the sign is extended
abbrev pub extended : ℕ → ℕ → ℕ
extended bits number = if nat_lt number (2 ^ (bits - 1)) then number else number + (2 ^ 64 - 2 ^ bits)

-- ---- fields

-- how many octets a value of a type and of so many bits has
abbrev pub typed_length : DataType → ℕ → ℕ
typed_length Uint bits = number_length bits
typed_length Int bits = number_length bits
typed_length Float bits = bits / 8
typed_length Str bits = bits / 8
typed_length Fill bits = 0

-- the octets of a value: the bits of a packet from `at` on, as many as `bits`
abbrev pub typed_octets : List ℕ → DataType → ℕ → ℕ → List ℕ
typed_octets packet Uint at bits = little_bytes (number_length bits) (part packet at (at + bits))
typed_octets packet Int at bits = little_bytes (number_length bits) (extended bits (part packet at (at + bits)))
typed_octets packet Float at bits = little_bytes (bits / 8) (part packet at (at + bits))
typed_octets packet Str at bits = octets_at packet at (bits / 8)
typed_octets packet Fill at bits = []

-- how many octets a field has in a row
abbrev pub value_length : Field → ℕ
value_length f = typed_length f.data_type f.length

-- the octets of a field in a row
abbrev pub value_octets : List ℕ → Field → List ℕ
value_octets packet f = typed_octets packet f.data_type f.begin f.length

-- ---- rows

-- the 16 octets that every row begins with
abbrev pub row_lead : Lead → List ℕ
row_lead lead =
    little_bytes 4 lead.seen ++ little_bytes 2 lead.application ++ little_bytes 2 lead.count ++ lead.channel ∷ 0 ∷ 0 ∷ 0 ∷ 0 ∷ 0 ∷ 0 ∷ 0 ∷ []

-- the octets of the row of a packet that has all bits that are needed
abbrev pub row_octets : List Field → Lead → List ℕ → List ℕ
row_octets fields lead packet = row_lead lead ++ flat_map (value_octets packet) fields

-- how many octets every row has
abbrev pub row_length : List Field → ℕ
row_length fields = 16 + sum_by value_length fields
