-- Tables, and tables that differ at one place.
use Rattle.std.proofs.Common.{◌≡◌, ◌≢◌, ◌<◌, ◌≤◌, ◌+◌, ℕ, zero, suc, List, [], ◌∷◌, ◌++◌, length, map, get_or, set, replicate, take, ◌-◌, refl, sym, ap, ◌∙◌, arith, ⊎_elim}
use Rattle.std.proofs.lemmas.Bool.{cases_lt}
use Rattle.std.proofs.lemmas.List.{map-append, set-append_left, set_at, get_or_at, get_or_append_left, length-map, length_push, length-replicate, replicate_more}
use Rattle.tm_summary.specs.declared.application.ApplicationCounts.{ApplicationCounts}
use Rattle.tm_summary.specs.Adding.{more_at, no_application}
use Rattle.tm_summary.specs.code.Places.{no_applications}
use Rattle.tm_summary.specs.SummaryNumbers.{below, for_numbers}

pub length-below : (n : ℕ) → length (below n) ≡ n
length-below zero = refl
length-below (suc n) =
    let next : n + 1 ≡ suc n = omega arith in
    length_push (below n) n ∙ ap (λ (k : ℕ). k + 1) (length-below n) ∙ next

module _ {A : Type 0} where
  length-values : (n : ℕ) (f : ℕ → A) → length (map f (below n)) ≡ n
  length-values n f = length-map (below n) f ∙ length-below n

  values-more : (n : ℕ) (f : ℕ → A) → map f (below (suc n)) ≡ map f (below n) ++ f n ∷ []
  values-more n f = map-append f (below n) (n ∷ [])

  -- two functions that give the same below a number
  values-same : (n : ℕ) (f g : ℕ → A) → ((j : ℕ) → j < n → f j ≡ g j) → map f (below n) ≡ map g (below n)
  values-same zero f g same = refl
  values-same (suc n) f g same =
      values-more n f
      ∙ ap (λ (l : List A). l ++ f n ∷ []) (values-same n f g (λ j h. same j (omega arith)))
      ∙ ap (λ (x : A). map g (below n) ++ x ∷ []) (same n (omega arith))
      ∙ sym (values-more n g)

  pub table-same : (n : ℕ) (f g : ℕ → A) → ((j : ℕ) → f j ≡ g j) → for_numbers n f ≡ for_numbers n g
  unfolding for_numbers
  table-same n f g same = values-same n f g (λ j h. same j)

  pub table_all : (n : ℕ) (x : A) → for_numbers n (λ j. x) ≡ replicate n x
  unfolding for_numbers
  table_all zero x = refl
  table_all (suc n) x =
      let next : n + 1 ≡ suc n = omega arith in
      values-more n (λ j. x) ∙ ap (λ (l : List A). l ++ x ∷ []) (table_all n x) ∙ replicate_more n x
      ∙ ap (λ (k : ℕ). replicate k x) next

  values-get : (n k : ℕ) (f : ℕ → A) (d : A) → k < n → get_or (map f (below n)) k d ≡ f k
  values-get zero k f d h = absurd (omega arith)
  values-get (suc n) k f d h =
      ap (λ (l : List A). get_or l k d) (values-more n f)
      ∙ ⊎_elim
      (λ (less : k < n). get_or_append_left (map f (below n)) (f n ∷ []) d k (omega (arith, length-values n f, less)) ∙ values-get n k f d less)
      (λ (more : n ≤ k).
      let same : k ≡ n = omega (arith, h, more) in
      get_or_at (map f (below n)) (f n) [] d k (length-values n f ∙ sym same) ∙ ap f (sym same))
      (cases_lt k n)

  -- what stands at a place
  pub table-get : (n k : ℕ) (f : ℕ → A) (d : A) → k < n → get_or (for_numbers n f) k d ≡ f k
  unfolding for_numbers
  table-get n k f d h = values-get n k f d h

  values-set : (n k : ℕ) (f g : ℕ → A) → ((j : ℕ) → j ≢ k → f j ≡ g j) → k < n → map f (below n) ≡ set (map g (below n)) k (f k)
  values-set zero k f g other h = absurd (omega arith)
  values-set (suc n) k f g other h =
      values-more n f
      ∙ ⊎_elim
      (λ (less : k < n).
      let differ : n ≢ k = (λ (e : n ≡ k). omega (arith, less, e)) in
      ap (λ (l : List A). l ++ f n ∷ []) (values-set n k f g other less)
      ∙ ap (λ (x : A). set (map g (below n)) k (f k) ++ x ∷ []) (other n differ)
      ∙ sym (set-append_left (map g (below n)) (g n ∷ []) k (f k) (omega (arith, length-values n g, less)))
      ∙ ap (λ (l : List A). set l k (f k)) (sym (values-more n g)))
      (λ (more : n ≤ k).
      let same : k ≡ n = omega (arith, h, more) in
      ap (λ (l : List A). l ++ f n ∷ []) (values-same n f g (λ j less. other j (λ (e : j ≡ k). omega (arith, less, e, same))))
      ∙ ap (λ (m : ℕ). map g (below n) ++ f m ∷ []) (sym same)
      ∙ sym (set_at (map g (below n)) (g n) [] (f k) k (length-values n g ∙ sym same))
      ∙ ap (λ (l : List A). set l k (f k)) (sym (values-more n g)))
      (cases_lt k n)

  -- at one place there is something more
  pub table-more : (n k : ℕ) (f g : ℕ → A) (none : A) (more : A → A) → ((j : ℕ) → j ≢ k → f j ≡ g j) → k < n → f k ≡ more (g k)
      → for_numbers n f ≡ more_at (for_numbers n g) k none more
  unfolding for_numbers
  table-more n k f g none more other h here =
      values-set n k f g other h ∙ ap (λ (x : A). set (map g (below n)) k x) (here ∙ ap more (sym (values-get n k g none h)))

-- ---- places for channels and applications

pub filled : (xs : List ApplicationCounts) (n : ℕ) (x : ApplicationCounts) → xs ≡ [] → n ≡ 0 → x ≡ no_application
    → take 16384 xs ++ replicate (16384 - n) x ≡ no_applications
unfolding no_applications
filled xs n x e h is = rw (e, h, is) refl

pub length-no_applications : length no_applications ≡ 16384
unfolding no_applications
length-no_applications = length-replicate {A = ApplicationCounts} 16384 no_application

pub table_none : for_numbers 16384 (λ key. no_application) ≡ no_applications
unfolding no_applications
table_none = table_all 16384 no_application
