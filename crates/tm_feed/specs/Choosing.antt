-- The applications whose rows a job gives.
use Rattle.std.specs.Prelude.{◌≡◌, ◌≢◌, ◌<◌, ◌≤◌, ◌==◌, if◌then◌else◌, ℕ, Option, None, Some, IfSome, List, max}
use Rattle.tm_fields.specs.Binary.{row_length}
use Rattle.tm_fields.specs.declared.field.Field.{Field}
use Rattle.tm_feed.specs.Feeding.{fields_for}
use Rattle.tm_feed.specs.States.{Chosen, FeedState}

-- how many octets rows of some fields have, none without fields
abbrev pub length_with : Option (List Field) → ℕ
length_with None = 0
length_with (Some fields) = row_length fields

-- how many octets the rows of an application have, none without a definition
abbrev pub row_length_for : Chosen → ℕ → ℕ
row_length_for chosen application = length_with (fields_for chosen application)

-- no row is longer than the longest
abbrev pub FitRows : Chosen → Type 0
FitRows chosen = (application : ℕ) → IfSome (fields_for chosen application) (λ fields. row_length fields ≤ chosen.longest)

-- one application has a definition, and no other
abbrev pub HasOneDefinition : ℕ → List Field → Chosen → Type 0
HasOneDefinition application fields chosen =
    (other : ℕ) → fields_for chosen other ≡ (if other == application then Some fields else None)

-- the rows of an application are of these fields, and those of the others are as they were
pub record AreRowsOf (application : ℕ) (fields : List Field) (old new : Chosen) : Type 0 where
  pub few : application < 2048
  pub own : fields_for new application ≡ Some fields
  pub others : (other : ℕ) → other ≢ application → fields_for new other ≡ fields_for old other
  pub longest : new.longest ≡ max old.longest (row_length fields)
  pub only : new.only ≡ old.only

-- from now on a job gives rows of these fields of the packets of an application
abbrev pub GivesRows : ℕ → List Field → FeedState → FeedState → Type 0
GivesRows application fields old new = AreRowsOf application fields old.chosen new.chosen × (new ≡ record old { chosen = new.chosen })
