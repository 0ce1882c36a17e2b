-- What a shelf of files is seen as.
use Rattle.std.specs.Prelude.{◌≡◌, ◌≢◌, ◌<◌, ◌++◌, ◌⊎◌, ℕ, Bool, List, [], Option, Some, Vec, map, option_map, slice_get}
use Rattle.tm_file_identity.specs.declared.identities.FileIdentities.{FileIdentities}
use Rattle.tm_split_files.specs.declared.files.ShelfFault.{ShelfFault}
use Rattle.tm_split_files.specs.declared.refusals.RefusedPut.{RefusedPut}

-- a shelf of files
pub record ShelfState : Type 0 where
  -- the name of the files' folder
  pub folder : List ℕ
  -- a file that is there is appended to, and else it begins empty
  pub goes_on : Bool
  -- for each application whether its file was begun
  pub begun : List Bool
  -- how many identities of files that were made are remembered, with which that of each further file is compared
  pub made : ℕ
  -- for each application the octets that are not written yet
  pub held : List (List ℕ)
  -- how many octets came since all that was held was last written
  pub octets : ℕ
  -- how many puts were refused, up to 2^64 - 1
  pub refused : ℕ
  -- the last put that was refused, if there is one
  pub last_refused : Option RefusedPut
  -- why a file was not written out, until a call has told it
  pub unwritten : Option ShelfFault
  -- what the names of the run's other files stand for
  pub identities : FileIdentities

-- the octets in each of these buffers
abbrev pub buffer_octets : {Z : Type 0} → List (Vec ℕ Z) → List (List ℕ)
buffer_octets buffers = map (λ octets. octets.items) buffers

-- nothing is held of any application
abbrev pub HoldsNone : List (List ℕ) → Type 0
HoldsNone held = (application : ℕ) → application < 2048 → slice_get held application ≡ Some []

-- these octets are held after those of their application, and of the others the same as before
abbrev pub IsAdded : List (List ℕ) → List (List ℕ) → ℕ → List ℕ → Type 0
IsAdded old new application added =
    (slice_get new application ≡ option_map (λ octets. octets ++ added) (slice_get old application))
    × ((other : ℕ) → other ≢ application → slice_get new other ≡ slice_get old other)

-- nothing is held of this application, and of the others the same as before
abbrev pub IsEmptied : List (List ℕ) → List (List ℕ) → ℕ → Type 0
IsEmptied old new application =
    (slice_get new application ≡ Some [])
    × ((other : ℕ) → other ≢ application → slice_get new other ≡ slice_get old other)

-- the same octets are held of each application as before
abbrev pub HoldsSame : List (List ℕ) → List (List ℕ) → Type 0
HoldsSame old new = (application : ℕ) → slice_get new application ≡ slice_get old application

-- the same octets are held of this application as before, or none
abbrev pub IsKeptOrEmptied : List (List ℕ) → List (List ℕ) → ℕ → Type 0
IsKeptOrEmptied old new application = (slice_get new application ≡ slice_get old application) ⊎ (slice_get new application ≡ Some [])

-- What is held once a put is refused. For this application it is what was held before, or none of it, or that with these octets
-- after it. For each other one it is what was held before, or none of it.
abbrev pub IsRefused : List (List ℕ) → List (List ℕ) → ℕ → List ℕ → Type 0
IsRefused old new application added =
    (IsKeptOrEmptied old new application ⊎ (slice_get new application ≡ option_map (λ octets. octets ++ added) (slice_get old application)))
    × ((other : ℕ) → other ≢ application → IsKeptOrEmptied old new other)
