-- The names of fields that a set has, and of one field more.
use Rattle.std.proofs.Common.{◌≡◌, ℕ, Bool, true, false, cond, ◌&&◌, ◌||◌, List, [], ◌∷◌, ◌++◌, refl, sym, ap, ◌∙◌}
use Rattle.std.proofs.lemmas.List.Folds.{list_any-append}
use Rattle.std.proofs.lemmas.Map.Text.{is_eq-slice_cmp}
use Rattle.std.specs.Borrow.{Bor}
use Rattle.std.specs.BTreeSet.{BTreeSet, Updates, contains}
use Rattle.std.specs.Cmp.Lexicographic.{slice_cmp}
use Rattle.std.specs.Ordering.{nat_cmp}
use Rattle.std.specs.Str.{bytes_eq}
use Rattle.tm_fields.specs.Reading.{is_earlier_name, is_shown}
use Rattle.tm_fields.specs.code.Reading.{AreNames}
use Rattle.tm_fields.specs.declared.field.Field.{Field}

one_more : (b x : Bool) → cond b true x ≡ (x || (b || false))
one_more true true = refl
one_more true false = refl
one_more false true = refl
one_more false false = refl

earlier_more : (name : List ℕ) (fields : List Field) (f : Field) → is_earlier_name name (fields ++ (f ∷ [])) ≡ (is_earlier_name name fields || ((is_shown f.data_type && bytes_eq f.name name) || false))
earlier_more name fields f = list_any-append (λ (g : Field). is_shown g.data_type && bytes_eq g.name name) fields (f ∷ [])

-- the name of a field that has a column comes to the others
pub names_more : (fields : List Field) (names more : BTreeSet (Bor (List ℕ))) (name : Bor (List ℕ)) (f : Field) → AreNames fields names
    → Updates (λ a b. slice_cmp nat_cmp a.now b.now) names more name true → is_shown f.data_type ≡ true → f.name ≡ name.now → AreNames (fields ++ (f ∷ [])) more
names_more fields names more name f are updates shown same other =
    let shows : (is_shown f.data_type && bytes_eq f.name other.now) ≡ bytes_eq name.now other.now = rw (shown, same) refl in
    let asked : is_earlier_name other.now (fields ++ (f ∷ [])) ≡ (is_earlier_name other.now fields || (bytes_eq name.now other.now || false)) =
    earlier_more other.now fields f ∙ ap (λ (b : Bool). is_earlier_name other.now fields || (b || false)) shows in
    let found : contains (λ a b. slice_cmp nat_cmp a.now b.now) more other ≡ cond (bytes_eq name.now other.now) true (contains (λ a b. slice_cmp nat_cmp a.now b.now) names other) =
    updates.0 other ∙ ap (λ (b : Bool). cond b true (contains (λ a b. slice_cmp nat_cmp a.now b.now) names other)) (is_eq-slice_cmp name.now other.now) in
    let told : contains (λ a b. slice_cmp nat_cmp a.now b.now) more other ≡ cond (bytes_eq name.now other.now) true (is_earlier_name other.now fields) =
    found ∙ ap (λ (b : Bool). cond (bytes_eq name.now other.now) true b) (are other) in
    told ∙ one_more (bytes_eq name.now other.now) (is_earlier_name other.now fields) ∙ sym asked
