-- Files that stay open, for private contracts.
use Rattle.std.specs.Prelude.{◌≡◌, ◌≢◌, ℕ, List, Option, Some, IfSome, length, nat_eq, slice_get}
use Rattle.std.specs.Io.KnownBytes.{Appends}
use Rattle.std.specs.List.{position}
use Rattle.tm_split_files.specs.declared.open_files.OpenFile.{OpenFile}

module _ {F : Type 0} where
  -- where the file of an application is among these
  abbrev pub place_among : ℕ → List (OpenFile F) → Option ℕ
  place_among application opened = position (λ other. nat_eq other.application application) opened

  -- If the file of an application was open, it has these octets after those that it had. The others are as before.
  abbrev pub IsAppended : (F → Option (List ℕ)) → List (OpenFile F) → List (OpenFile F) → ℕ → List ℕ → Type 0
  IsAppended contents old new application octets = (place : ℕ) → place_among application old ≡ Some place
      → (length new ≡ length old)
      × ((other : ℕ) → other ≢ place → slice_get new other ≡ slice_get old other)
      × IfSome (slice_get old place) (λ before. IfSome (slice_get new place) (λ after.
      (after.application ≡ application) × Appends (contents before.file) (contents after.file) octets))
