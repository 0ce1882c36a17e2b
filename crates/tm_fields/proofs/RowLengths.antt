-- All rows of a definition in octets have one length.
use Rattle.std.proofs.Common.{◌≡◌, ℕ, ◌+◌, ◌/◌, List, [], ◌∷◌, length, refl, sym, ◌∙◌, arith, length-append}
use Rattle.std.specs.List.{flat_map, sum_by}
use Rattle.std.proofs.lemmas.List.Sums.{sum_by-cons}
use Rattle.byteorder.specs.Numbers.{length-bytes_low_first}
use Rattle.tm_bits.specs.Bits.{part}
use Rattle.tm_fields.proofs.NumberLemmas.{octets_at_length}
use Rattle.tm_fields.specs.Binary.{number_length, row_length, row_octets, typed_length, typed_octets, value_length, value_octets}
use Rattle.tm_fields.specs.declared.field.DataType.{DataType}
use Rattle.tm_fields.specs.declared.field.DataType.TheVariants.{Uint, Int, Float, Str, Fill}
use Rattle.tm_fields.specs.declared.field.Field.{Field}
use Rattle.tm_fields.specs.declared.lead.Lead.{Lead}

-- a value has as many octets as its type and its bits say
pub length_of_value : (packet : List ℕ) (kind : DataType) (at bits : ℕ) → length (typed_octets packet kind at bits) ≡ typed_length kind bits
length_of_value packet Uint at bits = length-bytes_low_first 0 (number_length bits) (part packet at (at + bits))
length_of_value packet Int at bits = length-bytes_low_first 0 (number_length bits) _
length_of_value packet Float at bits = length-bytes_low_first 0 (bits / 8) (part packet at (at + bits))
length_of_value packet Str at bits = octets_at_length packet at (bits / 8)
length_of_value packet Fill at bits = refl

-- so have those of all fields
length_of_values : (packet : List ℕ) (fields : List Field) → length (flat_map (value_octets packet) fields) ≡ sum_by value_length fields
length_of_values packet [] = refl
length_of_values packet (f ∷ more) =
    length-append (value_octets packet f) (flat_map (value_octets packet) more)
    ∙ rw (length_of_value packet f.data_type f.begin f.length, length_of_values packet more) (sym (sum_by-cons value_length f more))

pub row_size : (fields : List Field) (lead : Lead) (packet : List ℕ) → length (row_octets fields lead packet) ≡ row_length fields
row_size fields lead packet = omega (arith, length_of_values packet fields)
