-- A definition is told by the records that are kept.
use Rattle.std.proofs.Common.{◌≡◌, ◌≤◌, ℕ, zero, suc, true, List, [], ◌∷◌, ◌++◌, length, take, refl, ap, ◌∙◌, arith, inl, inr, Ok, Err, length-take-le}
use Rattle.std.proofs.lemmas.Bool.{cases_lt, lt-ltb}
use Rattle.std.proofs.lemmas.List.{take_all, take-append-le}
use Rattle.tm_fields.specs.Columns.{ReadOrFault, and_then_read, columns_of}
use Rattle.tm_fields.specs.Reading.{definition_of, fields_in, fields_under}
use Rattle.tm_fields.specs.Table.{same_lengths, table}
use Rattle.tm_fields.specs.code.Reading.{kept}
use Rattle.tm_fields.specs.declared.columns.Columns.{Columns}

-- one record more, of all and of those that were kept
pub take_again : {A : Type 0} (n : ℕ) (xs : List A) (x : A) → take n (take n xs ++ (x ∷ [])) ≡ take n (xs ++ (x ∷ []))
take_again zero xs x = refl
take_again (suc n) [] x = refl
take_again (suc n) (y ∷ xs) x = rw (take_again n xs x) refl

-- all are kept of no more than count, and no other where so many are kept
pub kept_short : (records : List (List (List ℕ))) → length records ≤ 1002 → kept records ≡ records
kept_short records h = take_all 1002 records h

pub kept_full : (records : List (List (List ℕ))) (values : List (List ℕ)) → length records ≡ 1002 → kept (records ++ (values ∷ [])) ≡ records
kept_full records values h = take-append-le 1002 records (values ∷ []) (omega arith) ∙ take_all 1002 records (omega arith)

same_next : {A B : Type 0} (r : ReadOrFault A) (f g : A → ReadOrFault B) → ((x : A) → f x ≡ g x) → and_then_read r f ≡ and_then_read r g
same_next (Ok x) f g h = h x
same_next (Err e) f g h = refl

under_kept : (records : List (List (List ℕ))) (columns : Columns) → fields_under (take 1001 records) columns ≡ fields_under records columns
under_kept records columns = elim (cases_lt 1000 (length records)) [
  | inl many ↦
      let size : length (take 1001 records) ≡ 1001 = length-take-le 1001 records (omega arith) in
      rw (lt-ltb 1000 (length records) many, lt-ltb 1000 (length (take 1001 records)) (omega (arith, size))) refl
  | inr few ↦ ap (λ l. fields_under l columns) (take_all 1001 records (omega arith))
]

-- what the kept records say is what all say
fields_kept : (records : List (List (List ℕ))) → fields_in (kept records) ≡ fields_in records
fields_kept [] = refl
fields_kept (headings ∷ records) = same_next (columns_of headings) (fields_under (take 1001 records)) (fields_under records) (under_kept records)

-- what the kept records of a text say is the definition in it, if all records have one length
pub kept_definition : (text : List ℕ) (records : List (List (List ℕ))) → records ≡ kept (table text) → same_lengths (table text) ≡ true → fields_in records ≡ definition_of text
kept_definition text records is same = ap fields_in is ∙ fields_kept (table text) ∙ rw same refl
