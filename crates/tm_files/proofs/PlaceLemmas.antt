-- Places and their numbers.
use Rattle.std.proofs.Common.{◌≡◌, ℕ, zero, suc, ◌+◌, ◌<◌, ◌≤◌, List, [], ◌∷◌, Some, get_or, set, length, refl, arith, sym, ap, ◌∙◌, ⊎_elim, subst}
use Rattle.std.specs.Prelude.{slice_get, IsSomeAnd}
use Rattle.std.proofs.lemmas.Bool.{cases_lt}
use Rattle.tm_file_identity.specs.FileIdentities.{place_number}
use Rattle.tm_file_identity.specs.declared.identity.FileIdentity.{FileIdentity}
use Rattle.tm_file_identity.specs.declared.identities.Place.{Place}
use Rattle.tm_file_identity.specs.declared.identities.Place.TheVariants.{Recording, Settings, Definition, Output, Errors, Resumed, Report, Checkpoint, TemporaryCheckpoint, Faults}

-- all places, in the order of their numbers
abbrev all : List Place
all = Recording ∷ Settings ∷ Definition ∷ Output ∷ Errors ∷ Resumed ∷ Report ∷ Checkpoint ∷ TemporaryCheckpoint ∷ Faults ∷ []

at_number : (place d : Place) → get_or all (place_number place) d ≡ place
at_number Recording d = refl
at_number Settings d = refl
at_number Definition d = refl
at_number Output d = refl
at_number Errors d = refl
at_number Resumed d = refl
at_number Report d = refl
at_number Checkpoint d = refl
at_number TemporaryCheckpoint d = refl
at_number Faults d = refl

-- these are the places of the numbers from n on
abbrev AreNumbered : ℕ → List Place → Type 0
AreNumbered n [] = Unit {0}
AreNumbered n (place ∷ more) = (place_number place ≡ n) × AreNumbered (suc n) more

number_in : (n i : ℕ) (places : List Place) (d : Place) → AreNumbered n places → i < length places → place_number (get_or places i d) ≡ n + i
number_in n i [] d are inside = absurd (omega arith)
number_in n zero (place ∷ more) d are inside = are.0 ∙ omega arith
number_in n (suc i) (place ∷ more) d are inside = number_in (suc n) i more d are.1 (omega arith) ∙ omega arith

number_of : (i : ℕ) (d : Place) → i < 10 → place_number (get_or all i d) ≡ i
number_of i d inside = number_in 0 i all d (refl, (refl, (refl, (refl, (refl, (refl, (refl, (refl, (refl, (refl, tt)))))))))) inside ∙ omega arith

set_there : {A : Type 0} (xs : List A) (i : ℕ) (x : A) → i < length xs → slice_get (set xs i x) i ≡ Some x
set_there [] i x inside = absurd (omega arith)
set_there (y ∷ xs) zero x inside = refl
set_there (y ∷ xs) (suc i) x inside = set_there xs i x (omega arith)

set_after : {A : Type 0} (xs : List A) (i k : ℕ) (x : A) → k < i → slice_get (set xs i x) k ≡ slice_get xs k
set_after [] i k x less = refl
set_after (y ∷ xs) zero k x less = absurd (omega arith)
set_after (y ∷ xs) (suc i) zero x less = refl
set_after (y ∷ xs) (suc i) (suc k) x less = set_after xs i k x (omega arith)

-- what holds of the identities up to a place holds of one more
pub set_next : (P : Place → FileIdentity → Type 0) (identities : List FileIdentity) (i : ℕ) (d : Place) (identity : FileIdentity)
    → i < 10 → length identities ≡ 10 → P (get_or all i d) identity
    → ((place : Place) → place_number place < i → IsSomeAnd (slice_get identities (place_number place)) (P place))
    → (place : Place) → place_number place < i + 1
    → IsSomeAnd (slice_get (set identities (place_number (get_or all i d)) identity) (place_number place)) (P place)
set_next P identities i d identity inside long is each place below =
    rw (number_of i d inside)
    (⊎_elim
    (λ (less : place_number place < i). rw (set_after identities i (place_number place) identity less) (each place less))
    (λ (more : i ≤ place_number place).
    let same : place_number place ≡ i = omega (arith, below) in
    let here : get_or all i d ≡ place = ap (λ k. get_or all k d) (sym same) ∙ at_number place d in
    rw (same, set_there identities i identity (omega (arith, inside, long))) (subst (λ p. P p identity) here is))
    (cases_lt (place_number place) i))
