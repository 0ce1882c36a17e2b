-- Definitions by application: a further one, and what comes of a packet's row.
use Rattle.std.proofs.Common.{◌≡◌, ℕ, zero, suc, ◌<◌, ◌≤◌, ◌++◌, Option, Some, None, List, [], ◌∷◌, length, get_or, true, false, refl, ap, ◌∙◌, ⊎_elim, arith}
use Rattle.std.specs.Prelude.{slice_set, replicate, max, nat_lt, if◌then◌else◌, Ok, Err, IfSome}
use Rattle.std.proofs.lemmas.List.{get_or-set_same, get_or-set_other}
use Rattle.std.proofs.lemmas.Bool.{cases_eq}
use Rattle.tm_fields.proofs.RowLengths.{row_size}
use Rattle.tm_fields.specs.Binary.{row_length, row_octets}
use Rattle.tm_fields.specs.Numbers.{bits_in}
use Rattle.tm_fields.specs.Rows.{bits_needed, row_from}
use Rattle.tm_fields.specs.declared.faults.RowFault.TheVariants.{ShortPacket}
use Rattle.tm_fields.specs.declared.field.Field.{Field}
use Rattle.tm_fields.specs.declared.lead.Lead.{Lead}
use Rattle.tm_fields.specs.declared.rows.RowForm.TheVariants.{Binary}
use Rattle.tm_feed.specs.Choosing.{AreRowsOf, FitRows}
use Rattle.tm_feed.specs.Feeding.{fields_for}
use Rattle.tm_feed.specs.States.{Chosen}

-- a row is as long as its definition says
pub made_length : (fields : List Field) (lead : Lead) (packet row : List ℕ) → row_from Binary fields lead packet ≡ Ok row → length row ≡ row_length fields
made_length fields lead packet row =
    elim (nat_lt (bits_in packet) (bits_needed fields)) as (λ b. (if b then Err (ShortPacket (bits_needed fields) (bits_in packet)) else Ok (row_octets fields lead packet)) ≡ Ok row → length row ≡ row_length fields) [
      | true ↦ (λ h. cc h)
      | false ↦ (λ h. cc (h, row_size fields lead packet))
    ]

-- places without a definition are as none
nones : {A : Type 0} (n k : ℕ) → get_or {A = Option A} (replicate n None) k None ≡ None
nones zero k = refl
nones (suc n) zero = refl
nones (suc n) (suc k) = nones n k

pub padded : {A : Type 0} (xs : List (Option A)) (n k : ℕ) → get_or (xs ++ replicate n None) k None ≡ get_or xs k None
padded [] n k = nones n k
padded (x ∷ xs) n zero = refl
padded (x ∷ xs) n (suc k) = padded xs n k

-- behind the last place there is none
pub none_past : {A : Type 0} (xs : List (Option A)) (k : ℕ) → length xs ≤ k → get_or xs k None ≡ None
none_past [] k past = refl
none_past (x ∷ xs) zero past = absurd (omega (arith, past))
none_past (x ∷ xs) (suc k) past = none_past xs k (omega (arith, past))

-- a definition in its place
pub placed : (old : Chosen) (rows : List (Option (List Field))) (n application : ℕ) (fields : List Field) → application < 2048
    → rows ≡ old.rows ++ replicate n None → application < length rows
    → AreRowsOf application fields old (record { only = old.only; rows = slice_set rows application (Some fields); longest = max old.longest (row_length fields) })
placed old rows n application fields few is within = record {
  few = few;
  own = get_or-set_same rows application (Some fields) None within;
  others = λ other ne. get_or-set_other rows application other (Some fields) None ne ∙ ap (λ (l : List (Option (List Field))). get_or l other None) is ∙ padded old.rows n other;
  longest = refl;
  only = refl;
}

some_longer : (found : Option (List Field)) (a b : ℕ) → a ≤ b → IfSome found (λ fields. row_length fields ≤ a) → IfSome found (λ fields. row_length fields ≤ b)
some_longer None a b more fits = tt
some_longer (Some fields) a b more fits = omega (arith, more, fits)

-- no row is longer than the longest then
pub fits_more : (old new : Chosen) (application : ℕ) (fields : List Field) → FitRows old → AreRowsOf application fields old new → FitRows new
fits_more old new application fields fits rows a =
    ⊎_elim
    (λ (same : a ≡ application). rw (same, rows.own, rows.longest) (omega arith))
    (λ (other : a ≡ application → ⊥). rw (rows.others a other, rows.longest) (some_longer (fields_for old a) old.longest (max old.longest (row_length fields)) (omega arith) (fits a)))
    (cases_eq a application)
