-- What is written before all else.
use Rattle.std.specs.Prelude.{ℕ, Bool, if◌then◌else◌, List, [], ◌∷◌}
use Rattle.tm_fields.specs.declared.field.Field.{Field}
use Rattle.tm_fields.specs.Rows.{head_of}
use Rattle.tm_output.specs.declared.command.Command.{Command}
use Rattle.tm_output.specs.declared.command.Command.TheVariants.{Fields}
use Rattle.tm_output.specs.Outputs.{Piece}

-- the head of the rows, for a job that is fresh
abbrev pub rows_head : List Field → Bool → List (Piece ℕ)
rows_head fields fresh = if fresh then record { out = head_of fields; report = [] } ∷ [] else []

-- what is written before all else
abbrev pub head_pieces : Command → Bool → List (Piece ℕ)
head_pieces (Fields definition application) fresh = rows_head definition.now fresh
head_pieces _ fresh = []
