-- Where a heading stands, place by place.
use Rattle.std.proofs.Common.{◌≡◌, ℕ, zero, suc, ◌+◌, ◌<◌, Bool, true, false, List, [], ◌∷◌, length, drop, refl, ap, ◌∙◌, arith}
use Rattle.std.specs.Prelude.{if◌then◌else◌, Some}
use Rattle.std.specs.Str.{bytes_eq}
use Rattle.csv.specs.Records.{field_at}
use Rattle.tm_fields.specs.Columns.{heading_places, standing_of}
use Rattle.tm_fields.specs.code.Reading.{met}
use Rattle.tm_fields.specs.Values.{trimmed, value}
use Rattle.tm_fields.specs.declared.columns.Standing.{Standing}
use Rattle.tm_fields.specs.declared.columns.Standing.TheVariants.{Nowhere, Often}

-- where a heading stands that is known to stand so, and at later places
abbrev pub standing_with : Standing → List ℕ → Standing
standing_with found [] = found
standing_with found (at ∷ more) = standing_with (met found at) more

often : (ps : List ℕ) → standing_with Often ps ≡ Often
often [] = refl
often (p ∷ ps) = often ps

pub standing_first : (ps : List ℕ) → standing_with Nowhere ps ≡ standing_of ps
standing_first [] = refl
standing_first (p ∷ []) = refl
standing_first (p ∷ q ∷ ps) = often ps

field_drop : (fs : List (List ℕ)) (i : ℕ) → i < length fs → (x : List ℕ) × (field_at fs i ≡ Some x) × (drop i fs ≡ x ∷ drop (suc i) fs)
unfolding field_at
field_drop [] i h = absurd (omega arith)
field_drop (f ∷ fs) zero h = (f, refl, refl)
field_drop (f ∷ fs) (suc i) h = field_drop fs i (omega arith)

-- one place more
pub standing_step : (name : List ℕ) (fs : List (List ℕ)) (found new : Standing) (i : ℕ) → i < length fs
    → new ≡ (if bytes_eq (value fs i) name then met found i else found)
    → standing_with new (heading_places name (i + 1) (drop (i + 1) fs)) ≡ standing_with found (heading_places name i (drop i fs))
standing_step name fs found new i h e =
    let (x, at, rest) = field_drop fs i h in
    let next : suc i ≡ i + 1 = omega arith in
    let whole : heading_places name i (drop i fs) ≡ heading_places name i (x ∷ drop (i + 1) fs) = ap (heading_places name i) (rest ∙ ap (λ n. x ∷ drop n fs) next) in
    rw (e, at, whole) (cases (bytes_eq (trimmed x) name))
  where
    cases : (b : Bool) → standing_with (if b then met found i else found) (heading_places name (i + 1) (drop (i + 1) fs)) ≡ standing_with found (if b then i ∷ heading_places name (i + 1) (drop (i + 1) fs) else heading_places name (i + 1) (drop (i + 1) fs))
    cases true = refl
    cases false = refl
