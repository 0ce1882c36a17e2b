-- A recording is cut at the multiples of the record length. The whole pieces are its records, numbered from 0; what is
-- left is its rest.
use Rattle.std.specs.Prelude.{◌≡◌, ◌<◌, ℕ, zero, suc, ◌*◌, ◌/◌, List, [], ◌∷◌, ◌++◌, length, take, drop, Option}
use Rattle.std.specs.List.{AllByRecursion, concat}
use Rattle.std.specs.Io.KnownBytes.{Consumes, IsAtEnd}

-- the first so many pieces
abbrev pub first_records : ℕ → ℕ → List ℕ → List (List ℕ)
first_records size zero octets = []
first_records size (suc n) octets = take size octets ∷ first_records size n (drop size octets)

abbrev pub record_count : ℕ → List ℕ → ℕ
record_count size recording = length recording / size

unfoldable pub records : ℕ → List ℕ → List (List ℕ)
records size recording = first_records size (record_count size recording) recording

unfoldable pub rest_of : ℕ → List ℕ → List ℕ
rest_of size recording = drop (record_count size recording * size) recording

-- each of these is one record long
abbrev pub AreRecords : ℕ → List (List ℕ) → Type 0
AreRecords size rs = AllByRecursion (λ r. length r ≡ size) rs

-- these records were read, and then these octets
pub record HasRead (size : ℕ) (left_old left_new : Option (List ℕ)) (read : List (List ℕ)) (part : List ℕ) : Type 0 where
  pub sized : AreRecords size read
  pub octets : Consumes left_old left_new (concat read ++ part)

-- these records were read, and then less than a record to the end
pub record HasReadAll (size : ℕ) (left_old left_new : Option (List ℕ)) (read : List (List ℕ)) (rest : List ℕ) : Type 0 where
  pub octets : HasRead size left_old left_new read rest
  pub short : length rest < size
  pub ended : IsAtEnd left_new
