-- The next record of a recording, whether it is at hand or read: for the contracts of a loop's step.
use Rattle.std.specs.Prelude.{◌≡◌, ◌<◌, ℕ, List, length, Option}
use Rattle.std.specs.Io.KnownBytes.{Consumes, IsAtEnd}

-- a whole one was taken from the source, nothing else was, and this holds of it
pub record ReadsNext (size : ℕ) (left_old left_new : Option (List ℕ)) (Holds : List ℕ → Type 0) : Type 0 where
  pub one : List ℕ
  pub exact : length one ≡ size
  pub octets : Consumes left_old left_new one
  pub holds : Holds one

-- all was read, and this many octets are left, fewer than a record
pub record EndsNext (size : ℕ) (left_old left_new : Option (List ℕ)) (count : ℕ) : Type 0 where
  pub rest : List ℕ
  pub left : length rest ≡ count
  pub short : count < size
  pub octets : Consumes left_old left_new rest
  pub end : IsAtEnd left_new

-- a read failed in it
pub record FailsNext (size : ℕ) (left_old left_new : Option (List ℕ)) : Type 0 where
  pub part : List ℕ
  pub short : length part < size
  pub octets : Consumes left_old left_new part
