-- What a reader that holds each record to the first one's length knows of the records.
use Rattle.std.proofs.Common.{◌≡◌, ◌≢◌, ℕ, true, false, List, [], ◌∷◌, ◌++◌, length, refl, sym, ◌∙◌, None, Some, IfSome}
use Rattle.std.specs.Prelude.{Option, ◌==◌}
use Rattle.std.specs.List.{list_all}
use Rattle.std.proofs.lemmas.List.Folds.{list_all-append}
use Rattle.std.proofs.Math.Bool.{and-false}
use Rattle.std.proofs.lemmas.Bool.{eq-eqb, ne_eqb}
use Rattle.tm_fields.specs.Table.{same_lengths}

-- the length that the next record must have
abbrev pub Expects : Option ℕ → List (List (List ℕ)) → Type 0
Expects e [] = e ≡ None
Expects e (first ∷ more) = (e ≡ Some (length first)) × (same_lengths (first ∷ more) ≡ true)

pub expects_more : (e new : Option ℕ) (rows : List (List (List ℕ))) (f : List (List ℕ)) → Expects e rows → IfSome e (λ x. new ≡ Some x) × (new ≡ Some (length f)) → Expects new (rows ++ (f ∷ []))
expects_more e new [] f h k = (k.1, refl)
expects_more e new (first ∷ more) f h k =
    let expected : new ≡ Some (length first) = rw h.0 at k.0 in
    let same : length f ≡ length first = cc (k.1, expected) in
    (expected, list_all-append (λ row. length row == length first) more (f ∷ []) ∙ rw (h.1, eq-eqb (length f) (length first) same) refl)

not_all : (n : ℕ) (rows more : List (List (List ℕ))) (f : List (List ℕ)) → length f ≢ n → list_all (λ row. length row == n) (rows ++ (f ∷ more)) ≡ false
not_all n rows more f apart = list_all-append (λ row. length row == n) rows (f ∷ more) ∙ rw (ne_eqb (length f) n apart) (and-false (list_all (λ row. length row == n) rows))

pub not_expected : (e : Option ℕ) (x : ℕ) (rows more : List (List (List ℕ))) (f : List (List ℕ)) → Expects e rows → e ≡ Some x → x ≢ length f → same_lengths (rows ++ (f ∷ more)) ≡ false
not_expected e x [] more f h k apart = absurd (cc)
not_expected e x (first ∷ rows) more f h k apart =
    let same : x ≡ length first = cc in
    not_all (length first) rows more f (λ q. apart (same ∙ sym q))

pub expected_same : (e : Option ℕ) (rows : List (List (List ℕ))) → Expects e rows → same_lengths rows ≡ true
expected_same e [] h = refl
expected_same e (first ∷ more) h = h.1
