-- Buffers with what is not written yet, one for each application.
use Rattle.std.specs.Prelude.{◌≡◌, ◌≢◌, ◌<◌, ◌++◌, ◌⊎◌, ℕ, List, [], Option, Some, Vec, slice_get, option_map}

-- all of these octets are still there, or none
abbrev pub IsKeptOrEmpty : List ℕ → List ℕ → Type 0
IsKeptOrEmpty old new = (new ≡ old) ⊎ (new ≡ [])

module _ {Z : Type 0} where
  -- the octets of an application
  abbrev pub octets_held_for : List (Vec ℕ Z) → ℕ → Option (List ℕ)
  octets_held_for held application = option_map (λ octets. octets.items) (slice_get held application)

  -- the first `n` are empty
  abbrev pub AreEmptyOf : ℕ → List (Vec ℕ Z) → Type 0
  AreEmptyOf n held = (application : ℕ) → application < n → octets_held_for held application ≡ Some []

  -- all are empty
  abbrev pub AreEmpty : List (Vec ℕ Z) → Type 0
  AreEmpty held = AreEmptyOf 2048 held

  -- these octets stand after those of their application, and the others are as before
  abbrev pub IsExtended : List (Vec ℕ Z) → List (Vec ℕ Z) → ℕ → List ℕ → Type 0
  IsExtended old new application added =
      (octets_held_for new application ≡ option_map (λ octets. octets ++ added) (octets_held_for old application))
      × ((other : ℕ) → other ≢ application → slice_get new other ≡ slice_get old other)

  -- that of this application is empty, and the others are as before
  abbrev pub IsDrained : List (Vec ℕ Z) → List (Vec ℕ Z) → ℕ → Type 0
  IsDrained old new application =
      (octets_held_for new application ≡ Some []) × ((other : ℕ) → other ≢ application → slice_get new other ≡ slice_get old other)

  -- each has the octets that it had
  abbrev pub AreKept : List (Vec ℕ Z) → List (Vec ℕ Z) → Type 0
  AreKept old new = (application : ℕ) → octets_held_for new application ≡ octets_held_for old application

  -- that of this application has the octets that it had, or is empty
  abbrev pub IsLeftAt : List (Vec ℕ Z) → List (Vec ℕ Z) → ℕ → Type 0
  IsLeftAt old new application = (octets_held_for new application ≡ octets_held_for old application) ⊎ (octets_held_for new application ≡ Some [])

  -- likewise each
  abbrev pub AreKeptOrEmpty : List (Vec ℕ Z) → List (Vec ℕ Z) → Type 0
  AreKeptOrEmpty old new = (application : ℕ) → IsLeftAt old new application

  -- likewise, but that of this application may have these octets after those that it had
  abbrev pub AreLeft : List (Vec ℕ Z) → List (Vec ℕ Z) → ℕ → List ℕ → Type 0
  AreLeft old new application added =
      (IsLeftAt old new application ⊎ (octets_held_for new application ≡ option_map (λ octets. octets ++ added) (octets_held_for old application)))
      × ((other : ℕ) → other ≢ application → IsLeftAt old new other)
