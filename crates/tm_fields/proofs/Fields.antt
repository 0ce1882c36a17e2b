-- The fields of records, one by one.
use Rattle.std.proofs.Common.{◌≡◌, ℕ, suc, ◌+◌, ◌<◌, List, [], ◌∷◌, ◌++◌, length, get_or, drop, map, max, refl, ap, sym, ◌∙◌, arith, Ok, Err}
use Rattle.std.proofs.Math.Seq.{drop-cons}
use Rattle.tm_fields.specs.Reading.{end_of, defined_field_of, fields_from, last_end}
use Rattle.tm_fields.specs.Rows.{bits_needed}
use Rattle.tm_fields.specs.declared.columns.Columns.{Columns}
use Rattle.tm_faults.specs.declared.definition.DefinitionFault.{DefinitionFault}
use Rattle.tm_fields.specs.declared.field.Field.{Field}

next_is : {X : Type 0} (f : X → List (List ℕ)) (records : List X) (i : ℕ) (values : X) → i < length records → values ≡ get_or records i values
    → map f (drop i records) ≡ f values ∷ map f (drop (suc i) records)
next_is f records i values h is = ap (map f) (drop-cons records i values h ∙ ap (λ v. v ∷ drop (suc i) records) (sym is))

pub next_refused : {X : Type 0} (f : X → List (List ℕ)) (columns : Columns) (fields : List Field) (records : List X) (i : ℕ) (values : X) (e : DefinitionFault)
    → i < length records → values ≡ get_or records i values → defined_field_of columns fields (f values) ≡ Err e
    → fields_from columns fields (map f (drop i records)) ≡ Err e
next_refused f columns fields records i values e h is err = ap (fields_from columns fields) (next_is f records i values h is) ∙ rw err refl

pub next_read : {X : Type 0} (f : X → List (List ℕ)) (columns : Columns) (fields : List Field) (records : List X) (i : ℕ) (values : X) (x : Field)
    → i < length records → values ≡ get_or records i values → defined_field_of columns fields (f values) ≡ Ok x
    → fields_from columns fields (map f (drop i records)) ≡ fields_from columns (fields ++ (x ∷ [])) (map f (drop (i + 1) records))
next_read f columns fields records i values x h is ok =
    let next : suc i ≡ i + 1 = omega arith in
    ap (fields_from columns fields) (next_is f records i values h is) ∙ rw (ok, ← next) refl

pub last_end_more : (before : ℕ) (fields : List Field) (x : Field) → last_end before (fields ++ (x ∷ [])) ≡ end_of x
last_end_more before [] x = refl
last_end_more before (f ∷ fields) x = last_end_more (end_of f) fields x

pub needed_more : (fields : List Field) (needed : ℕ) (x : Field) → needed ≡ bits_needed fields → bits_needed (fields ++ (x ∷ [])) ≡ max needed (end_of x)
needed_more [] needed x e = omega (arith, e)
needed_more (f ∷ fields) needed x e = omega (arith, e, needed_more fields (bits_needed fields) x refl)
