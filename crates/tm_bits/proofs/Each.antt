-- What holds of each element of a list, and of those that pass a test: lemmas of std's `AllByRecursion`.
pub use Rattle.std.specs.List.{AllByRecursion as Each}
use Rattle.std.proofs.Common.{◌≡◌, ℕ, zero, suc, Bool, true, false, if◌then◌else◌, Some, List, [], ◌∷◌, ◌++◌, refl, ap, subst, ◌∙◌}
use Rattle.std.specs.List.{flat_map, filter, slice_get}
use Rattle.std.proofs.lemmas.Bool.{cond_both, cond-true, cond-false}

pub Each-append : {X : Type 0} (P : X → Type 0) (xs ys : List X) → Each P xs → Each P ys → Each P (xs ++ ys)
Each-append P [] ys h k = k
Each-append P (x ∷ xs) ys h k = (h.0, Each-append P xs ys h.1 k)

pub Each-every : {X : Type 0} (P : X → Type 0) (xs : List X) → ((x : X) → P x) → Each P xs
Each-every P [] h = tt
Each-every P (x ∷ xs) h = (h x, Each-every P xs h)

pub Each-split : {X : Type 0} (P : X → Type 0) (xs ys : List X) → Each P (xs ++ ys) → Each P xs × Each P ys
Each-split P [] ys h = (tt, h)
Each-split P (x ∷ xs) ys h = let rest = Each-split P xs ys h.1 in ((h.0, rest.0), rest.1)

pub Each-weaken : {X : Type 0} (P Q : X → Type 0) (xs : List X) → ((x : X) → P x → Q x) → Each P xs → Each Q xs
Each-weaken P Q [] f h = tt
Each-weaken P Q (x ∷ xs) f h = (f x h.0, Each-weaken P Q xs f h.1)

pub Each-flat_map : {X Y : Type 0} (P : X → Type 0) (Q : Y → Type 0) (f : X → List Y) (xs : List X) → ((x : X) → P x → Each Q (f x)) → Each P xs → Each Q (flat_map f xs)
Each-flat_map P Q f [] g h = tt
Each-flat_map P Q f (x ∷ xs) g h = Each-append Q (f x) (flat_map f xs) (g x h.0) (Each-flat_map P Q f xs g h.1)

pub Each-cond : {X : Type 0} (P : X → Type 0) (b : Bool) (xs : List X) → (b ≡ true → Each P xs) → Each P (if b then xs else [])
Each-cond P b xs h = cond_both b xs [] (Each P) h (λ e. tt)

pub Each-at : {X : Type 0} (P : X → Type 0) (xs : List X) (i : ℕ) (x : X) → Each P xs → slice_get xs i ≡ Some x → P x
Each-at P [] i x h e = absurd (cc)
Each-at P (y ∷ ys) zero x h e = let same : y ≡ x = cc in subst P same h.0
Each-at P (y ∷ ys) (suc i) x h e = Each-at P ys i x h.1 e

pub Each-filter : {X : Type 0} (P : X → Type 0) (test : X → Bool) (xs : List X) → Each P xs → Each P (filter test xs)
Each-filter P test [] h = tt
Each-filter P test (x ∷ xs) h =
    cond_both (test x) (x ∷ filter test xs) (filter test xs) (Each P) (λ e. (h.0, Each-filter P test xs h.1)) (λ e. Each-filter P test xs h.1)

pub filter-passes : {X : Type 0} (test : X → Bool) (xs : List X) → Each (λ x. test x ≡ true) (filter test xs)
filter-passes test [] = tt
filter-passes {X} test (x ∷ xs) =
    cond_both (test x) (x ∷ filter test xs) (filter test xs) (Each (λ (y : X). test y ≡ true)) (λ e. (e, filter-passes test xs)) (λ e. filter-passes test xs)

pub filter-all : {X : Type 0} (test : X → Bool) (xs : List X) → Each (λ x. test x ≡ true) xs → filter test xs ≡ xs
filter-all test [] h = refl
filter-all {X} test (x ∷ xs) h = cond-true (test x) _ _ h.0 ∙ ap (λ (ys : List X). x ∷ ys) (filter-all test xs h.1)

pub filter-none : {X : Type 0} (test : X → Bool) (xs : List X) → Each (λ x. test x ≡ false) xs → filter test xs ≡ []
filter-none test [] h = refl
filter-none test (x ∷ xs) h = cond-false (test x) _ _ h.0 ∙ filter-none test xs h.1

-- where no element passes a test, none of those that pass another does
pub none-filter : {X : Type 0} (test other : X → Bool) (xs : List X) → Each (λ x. test x ≡ false) xs → filter test (filter other xs) ≡ []
none-filter {X} test other xs h = filter-none test (filter other xs) (Each-filter (λ (x : X). test x ≡ false) other xs h)
