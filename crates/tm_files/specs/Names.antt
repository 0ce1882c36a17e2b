-- Which files of a plan are in each other's way by their names.
use Rattle.std.specs.Prelude.{◌≡◌, ℕ, Bool, false, List, ◌++◌, codes, Option, Some, None, IfSome, find}
use Rattle.std.specs.Str.{bytes_eq}
use Rattle.tm_arguments.specs.declared.request.Plan.{Plan}
use Rattle.tm_file_identity.specs.FileIdentities.{others_of}
use Rattle.tm_file_identity.specs.declared.identities.Place.{Place}
use Rattle.tm_file_identity.specs.declared.identities.Place.TheVariants.{Recording, Settings, Definition, Resumed, Report, Checkpoint, TemporaryCheckpoint}

-- the name that a plan has for a place
abbrev pub name_at : Plan → Place → Option (List ℕ)
name_at p Recording = p.recording
name_at p Settings = p.settings
name_at p Definition = p.definition
name_at p Resumed = p.resume
name_at p Report = p.report
name_at p Checkpoint = p.checkpoint
name_at p _ = None

-- there is such a file, and it has this name
abbrev pub has_name : List ℕ → Option (List ℕ) → Bool
has_name name None = false
has_name name (Some file) = bytes_eq file name

-- the plan has this name for the place
abbrev pub is_named : Plan → List ℕ → Place → Bool
is_named p name place = has_name name (name_at p place)

-- the file in which a checkpoint is written before it takes its name
abbrev pub temporary_checkpoint : List ℕ → List ℕ
temporary_checkpoint name = name ++ codes ".new"

-- the first file that has the name of one that is written at a place, and over which that must not be written
abbrev pub named_over : Plan → List ℕ → Place → Option Place
named_over p name written = find (is_named p name) (others_of written)

-- neither the checkpoint nor the file beside it, nor the report, takes the name of a file over which it must not be written
abbrev pub AreClear : Plan → Type 0
AreClear p = IfSome p.checkpoint (λ name. (named_over p name Checkpoint ≡ None) × (named_over p (temporary_checkpoint name) TemporaryCheckpoint ≡ None))
    × IfSome p.report (λ name. named_over p name Report ≡ None)
