-- One buffer after the other, and what buffers have after a write or a put that was refused.
use Rattle.std.proofs.Common.{◌≡◌, ◌≢◌, ◌<◌, ◌+◌, ◌++◌, ◌∙◌, ◌⊎◌, ℕ, zero, suc, Bool, false, List, [], ◌∷◌, Option, Some, Ok, Err, Result, Vec, length, length-set, get_or, set, sym, ap, refl, inl, inr, arith, ⊎_elim}
use Rattle.std.specs.Prelude.{IfErr, MatchResult, OnErr, OnOk, option_map, slice_get, true}
use Rattle.std.proofs.lemmas.Bool.{cases_eq}
use Rattle.std.proofs.lemmas.List.{get_or-set_same}
use Rattle.std.proofs.lemmas.Option.{slice_get_read}
use Rattle.tm_split_files.specs.code.Buffers.{AreEmptyOf, AreKept, AreKeptOrEmpty, AreLeft, IsDrained, IsExtended, IsKeptOrEmpty, IsLeftAt, octets_held_for}
use Rattle.tm_split_files.specs.ShelfFaults.{is_out_of_memory}
use Rattle.tm_split_files.specs.declared.files.ShelfFault.{ShelfFault}

-- what holds whether or not something failed
pub in_any_case : {X Y : Type 0} {P : X → Type 0} {Q : Y → Type 0} (done : Result X Y)
    → ((value : X) → P value) → ((fault : Y) → Q fault) → MatchResult done P Q
in_any_case (Ok value) p q = p value
in_any_case (Err fault) p q = q fault

-- what holds where nothing failed
pub where_done : {X Y P : Type 0} (done : Result X Y) → ((fault : Y) → done ≢ Err fault) → OnOk done P → P
where_done (Ok value) unrefused p = p
where_done (Err fault) unrefused p = absurd (unrefused fault refl)

module _ {X : Type 0} where
  -- what a list has where it was set, and elsewhere
  pub set_here : (xs : List X) (i : ℕ) (x : X) → i < length xs → slice_get (set xs i x) i ≡ Some x
  set_here xs i x below = slice_get_read (set xs i x) (length xs) i x (sym (length-set xs i x)) below (sym (get_or-set_same xs i x x below))

  pub set_elsewhere : (xs : List X) (i : ℕ) (x : X) (other : ℕ) → other ≢ i → slice_get (set xs i x) other ≡ slice_get xs other
  set_elsewhere (y ∷ xs) zero x zero is_other = absurd (is_other refl)
  set_elsewhere (y ∷ xs) (suc i) x (suc other) is_other = set_elsewhere xs i x other (λ same. is_other (ap suc same))
  set_elsewhere _ _ _ _ is_other = refl

module _ {Z : Type 0} where
  -- one buffer was put into the place of another
  module _ (old : List (Vec ℕ Z)) (n : ℕ) (before after : Vec ℕ Z) (below : n < length old) (is : before ≡ get_or old n before) where
    before_there : slice_get old n ≡ Some before
    before_there = slice_get_read old (length old) n before refl below is

    each_there : (P : ℕ → Option (Vec ℕ Z) → Type 0) → P n (Some after) → ((k : ℕ) → P k (slice_get old k))
        → (k : ℕ) → P k (slice_get (set old n after) k)
    each_there P here others k =
        ⊎_elim (λ (same : k ≡ n). rw (same, set_here old n after below) here)
        (λ (other : k ≢ n). rw (set_elsewhere old n after k other) (others k)) (cases_eq k n)

    pub put_there : {X Y : Type 0} (done : Result X Y) (added : List ℕ) → OnOk done ((after.items ≡ before.items ++ added) ⊎ (after.items ≡ []))
        → OnOk done (IsExtended old (set old n after) n added ⊎ IsDrained old (set old n after) n)
    put_there (Ok value) added (inl longer) = inl (rw (set_here old n after below, before_there) (ap Some longer), set_elsewhere old n after)
    put_there (Ok value) added (inr empty) = inr (rw (set_here old n after below) (ap Some empty), set_elsewhere old n after)
    put_there (Err fault) added put = tt

    kept_there : after.items ≡ before.items → AreKept old (set old n after)
    kept_there same = each_there (λ k o. option_map (λ octets. octets.items) o ≡ octets_held_for old k) (rw before_there (ap Some same)) (λ k. refl)

    pub kept_if_refused : {X : Type 0} (done : Result X ShelfFault) → IfErr done (λ fault. is_out_of_memory fault ≡ true → after.items ≡ before.items)
        → IfErr done (λ fault. is_out_of_memory fault ≡ true → AreKept old (set old n after))
    kept_if_refused (Ok value) kept = tt
    kept_if_refused (Err fault) kept = λ starving. kept_there (kept starving)

    pub left_if_refused : {X Y : Type 0} (done : Result X Y) → OnErr done (IsKeptOrEmpty before.items after.items) → OnErr done (AreKeptOrEmpty old (set old n after))
    left_if_refused (Ok value) left = tt
    left_if_refused (Err fault) (inl same) = λ k. inl (kept_there same k)
    left_if_refused (Err fault) (inr empty) =
        each_there (λ k o. (option_map (λ octets. octets.items) o ≡ octets_held_for old k) ⊎ (option_map (λ octets. octets.items) o ≡ Some []))
        (inr (ap Some empty)) (λ other. inl refl)

    -- this one was written, or couldn't be
    pub left_there : IsKeptOrEmpty before.items after.items → IsLeftAt old (set old n after) n
    left_there (inl same) = inl (rw (set_here old n after below, before_there) (ap Some same))
    left_there (inr empty) = inr (rw (set_here old n after below) (ap Some empty))

-- a file whose beginning was noted
pub made_there : (begun : List Bool) (n : ℕ) (was_begun : Bool) (old new : ℕ) → n < length begun → was_begun ≡ get_or begun n was_begun
    → (was_begun ≡ false → new ≡ old + 1) → slice_get begun n ≡ Some false → new ≡ old + 1
made_there begun n was_begun old new below is made unbegun =
    let there : slice_get begun n ≡ Some was_begun = slice_get_read begun (length begun) n was_begun refl below is in made cc

module _ {Z : Type 0} where
  -- the first n are empty, and the next
  pub none_of_next : (held : List (Vec ℕ Z)) (n : ℕ) → AreEmptyOf n held → octets_held_for held n ≡ Some [] → AreEmptyOf (n + 1) held
  none_of_next held n before here application below =
      ⊎_elim (λ (same : application ≡ n). rw same here) (λ (other : application ≢ n). before application (omega arith)) (cases_eq application n)

  -- likewise, where the next was changed, unless something failed by then
  pub none_so_far : {X Y : Type 0} (done : Result X Y) (old new : List (Vec ℕ Z)) (n : ℕ) → OnOk done (AreEmptyOf n old)
      → ((other : ℕ) → other ≢ n → slice_get new other ≡ slice_get old other) → octets_held_for new n ≡ Some [] → OnOk done (AreEmptyOf (n + 1) new)
  none_so_far (Ok value) old new n before others here =
      none_of_next new n (λ application below. rw (others application (λ same. omega arith)) (before application below)) here
  none_so_far (Err fault) old new n before others here = tt

  -- octets were put, and then not all could be written
  pub left_of_all : (old mid new : List (Vec ℕ Z)) (application : ℕ) (added : List ℕ)
      → IsExtended old mid application added ⊎ IsDrained old mid application → AreKeptOrEmpty mid new → AreLeft old new application added
  left_of_all old mid new application added (inl longer) left = (
    ⊎_elim (λ kept. inr (kept ∙ longer.0)) (λ empty. inl (inr empty)) (left application),
    λ other is_other. rw (longer.1 other is_other) at (left other),
  )
  left_of_all old mid new application added (inr drained) left = (
    inl (inr (⊎_elim (λ kept. kept ∙ drained.0) (λ empty. empty) (left application))),
    λ other is_other. rw (drained.1 other is_other) at (left other),
  )

  -- one more was written, or couldn't be
  pub left_so_far : (start old new : List (Vec ℕ Z)) (n : ℕ) → AreKeptOrEmpty start old
      → ((other : ℕ) → other ≢ n → slice_get new other ≡ slice_get old other) → IsLeftAt old new n → AreKeptOrEmpty start new
  left_so_far start old new n before others here k =
      ⊎_elim (λ (same : k ≡ n). rw same (⊎_elim (λ (kept : octets_held_for new n ≡ octets_held_for old n). rw kept (before n)) inr here))
      (λ (other : k ≢ n). rw (others k other) (before k)) (cases_eq k n)
