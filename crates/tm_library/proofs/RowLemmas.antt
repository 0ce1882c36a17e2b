-- A row of octets says what the row of text says.
use Rattle.std.proofs.Common.{◌≡◌, ◌≤◌, ◌<◌, ◌^◌, ℕ, ◌+◌, ◌*◌, ◌/◌, ◌-◌, ◌&&◌, ◌||◌, ◌==◌, nat_le, true, List, [], ◌∷◌, length, refl, sym, ap, ◌∙◌, arith}
use Rattle.std.proofs.Math.Seq.{drop-append_seam, take-append_seam}
use Rattle.std.proofs.lemmas.Bool.Decides.{eqb_tells, leb_tells}
use Rattle.std.specs.Fmt.{decimal}
use Rattle.std.specs.Cmp.{first_so, second_so}
use Rattle.std.specs.List.{flat_map, list_all}
use Rattle.byteorder.specs.Endian.{big_bytes, little_bytes}
use Rattle.byteorder.specs.Numbers.{length-bytes_low_first}
use Rattle.tm_bits.specs.Bits.{part}
use Rattle.tm_bits.proofs.PartLemmas.{part-lt}
use Rattle.tm_fields.proofs.RowLengths.{length_of_value}
use Rattle.tm_fields.specs.Binary.{extended, number_length, row_octets, typed_octets, value_length, value_octets}
use Rattle.tm_fields.specs.Numbers.{bits_in, octets_at}
use Rattle.tm_fields.specs.Reading.{end_of, has_length, is_sound}
use Rattle.tm_fields.specs.Rows.{bits_needed, printed, raw, row_of, typed_text}
use Rattle.tm_fields.specs.declared.field.DataType.{DataType}
use Rattle.tm_fields.specs.declared.field.DataType.TheVariants.{Uint, Int, Float, Str, Fill}
use Rattle.tm_fields.specs.declared.field.Field.{Field}
use Rattle.tm_fields.specs.declared.lead.Lead.{Lead}
use Rattle.tm_library.specs.BinaryRows.{IsLead, column_in, columns_in, octets_number, text_in, text_of_row}
use Rattle.tm_library.proofs.OctetLemmas.{fitting, part_octets, read_back_whole, same_sign}

-- a part of so many bits is below their power
part_small : (packet : List ℕ) (at bits : ℕ) → part packet at (at + bits) < 2 ^ bits
part_small packet at bits = let width : at + bits - at ≡ bits = omega arith in rw width at (part-lt packet at (at + bits))

-- a number in as many octets as hold it
number_back : (size bits number : ℕ) → bits ≤ 8 * size → number < 2 ^ bits → octets_number (little_bytes size number) ≡ number
number_back size bits number fits small = rw (length-bytes_low_first 0 size number) (read_back_whole size bits number fits small)

-- the bits of a number
within_64 : (bits : ℕ) → (nat_le 1 bits && nat_le bits 64) ≡ true → (1 ≤ bits) × (bits ≤ 64)
within_64 bits has = grind (arith, leb_tells)

-- those of a `float` are whole octets
whole_octets : (bits : ℕ) → ((bits == 16) || (bits == 32) || (bits == 64)) ≡ true → 8 * (bits / 8) ≡ bits
whole_octets bits has = grind (arith, eqb_tells)

-- the octets of a value say its text
text_back : (packet : List ℕ) (kind : DataType) (at bits : ℕ) → has_length kind bits ≡ true → at + bits ≤ bits_in packet
    → text_in kind (typed_octets packet kind at bits) ≡ typed_text packet kind at bits
text_back packet Uint at bits has inside =
    let (some, few) = within_64 bits has in
    ap decimal (number_back (number_length bits) bits (part packet at (at + bits)) (fitting bits some few).0 (part_small packet at bits))
text_back packet Int at bits has inside =
    let (some, few) = within_64 bits has in
    let (fits, most) = fitting bits some few in
    let number : ℕ = part packet at (at + bits) in
    rw (length-bytes_low_first 0 (number_length bits) (extended bits number)) (same_sign (number_length bits) bits number some fits most (part_small packet at bits))
text_back packet Float at bits has inside =
    let size : ℕ = bits / 8 in
    let eight : 8 * size ≡ bits = whole_octets bits has in
    let number : ℕ = part packet at (at + bits) in
    let back = number_back size bits number (omega (arith, eight)) (part_small packet at bits) in
    let from_first : big_bytes size number ≡ octets_at packet at size = ap (λ (n : ℕ). big_bytes size (part packet at (at + n))) (sym eight) ∙ part_octets packet at size (omega (arith, eight, inside)) in
    rw (length-bytes_low_first 0 size number) (ap raw (ap (big_bytes size) (rw (length-bytes_low_first 0 size number) at back) ∙ from_first))
text_back packet Str at bits has inside = refl
text_back packet Fill at bits has inside = refl

-- the text of a field's octets is what the row of text prints of the field
column_back : (packet : List ℕ) (f : Field) → is_sound f ≡ true → end_of f ≤ bits_in packet → column_in f (value_octets packet f) ≡ printed packet f
column_back packet f sound inside =
    rw (text_back packet f.data_type f.begin f.length (first_so _ _ sound) inside) refl

-- likewise of all fields, whose octets lie end to end
columns_back : (packet : List ℕ) (fields : List Field) → list_all is_sound fields ≡ true → bits_needed fields ≤ bits_in packet
    → columns_in fields (flat_map (value_octets packet) fields) ≡ flat_map (printed packet) fields
columns_back packet [] sound inside = refl
columns_back packet (f ∷ more) sound inside =
    let octets : List ℕ = value_octets packet f in
    let rest : List ℕ = flat_map (value_octets packet) more in
    let size : value_length f ≡ length octets = sym (length_of_value packet f.data_type f.begin f.length) in
    rw (size, take-append_seam octets rest, drop-append_seam octets rest, column_back packet f (first_so (is_sound f) (list_all is_sound more) sound) (omega (arith, inside)), columns_back packet more (second_so (is_sound f) (list_all is_sound more) sound) (omega (arith, inside))) refl

-- so the octets of a row say the row of text
pub row_back : (fields : List Field) (lead : Lead) (packet : List ℕ) → list_all is_sound fields ≡ true → bits_needed fields ≤ bits_in packet → IsLead lead
    → text_of_row fields (row_octets fields lead packet) ≡ row_of fields lead packet
row_back fields lead packet sound inside h =
    let seen = number_back 4 32 lead.seen (omega arith) h.0 in
    let application = number_back 2 16 lead.application (omega arith) h.1 in
    let count = number_back 2 16 lead.count (omega arith) h.2 in
    rw (columns_back packet fields sound inside, seen, application, count) refl
