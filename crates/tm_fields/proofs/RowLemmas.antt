-- Heads and rows, field by field.
use Rattle.std.proofs.Common.{◌≡◌, ℕ, zero, suc, ◌+◌, ◌<◌, ◌≤◌, List, [], ◌∷◌, ◌++◌, length, get_or, take, ap, refl, sym, ◌∙◌, arith, decimal}
use Rattle.std.specs.List.{flat_map}
use Rattle.std.proofs.lemmas.List.{flat_map_more, take_more}
use Rattle.std.proofs.lemmas.Bool.{le-ltb}
use Rattle.csv.specs.Writing.{default_writer, fields_text, row_body, row_text}
use Rattle.tm_fields.proofs.LineLemmas.{line_whole}
use Rattle.tm_fields.specs.Reading.{end_of}
use Rattle.tm_fields.specs.Numbers.{bits_in}
use Rattle.tm_fields.specs.Rows.{IsRow, bits_needed, lead_texts, row_of}
use Rattle.tm_fields.specs.declared.lead.Lead.{Lead}
use Rattle.tm_fields.specs.declared.field.Field.{Field}
use Rattle.tm_fields.specs.declared.rows.RowForm.TheVariants.{Text}

pub fits_needed : (fields : List Field) (i : ℕ) (d : Field) → i < length fields → end_of (get_or fields i d) ≤ bits_needed fields
fits_needed [] i d h = absurd (omega arith)
fits_needed (f ∷ fields) zero d h = omega arith
fits_needed (f ∷ fields) (suc i) d h = omega (arith, fits_needed fields i d (omega arith))

pub values_more : {A : Type 0} (g : Field → List A) (lead : List A) (fields : List Field) (i : ℕ) (x : Field) → i < length fields → x ≡ get_or fields i x
    → (lead ++ flat_map g (take i fields)) ++ g x ≡ lead ++ flat_map g (take (i + 1) fields)
values_more g lead fields i x h is =
    flat_map_more g lead (take i fields) x ∙ ap (λ l. lead ++ flat_map g l) (ap (λ y. take i fields ++ (y ∷ [])) is ∙ sym (take_more fields i x h))

-- the lead, and the other values of a row
pub row_whole : (lead : Lead) (rest : List (List ℕ))
    → (row_body default_writer (lead_texts lead) ++ fields_text default_writer rest) ++ 10 ∷ [] ≡ row_text default_writer (lead_texts lead ++ rest)
row_whole lead rest = line_whole (decimal lead.seen) (decimal lead.channel) (decimal lead.application ∷ decimal lead.count ∷ []) rest

pub row_made : (fields : List Field) (lead : Lead) (packet text : List ℕ) → bits_needed fields ≤ bits_in packet → text ≡ row_of fields lead packet → IsRow Text fields lead packet text
row_made fields lead packet text long is = rw (is, le-ltb (bits_in packet) (bits_needed fields) long) refl
