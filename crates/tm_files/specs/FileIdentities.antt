-- Which name each identity of a plan belongs to. Which names may have an identity is said by what finds them.
use Rattle.std.specs.Prelude.{◌⊎◌, Bool, ℕ, List, Option, None, Some, false, true, codes, option_map, IsUtf8}
use Rattle.tm_file_identity.specs.FileIdentity.{IsOther}
use Rattle.tm_file_identity.specs.declared.identity.FileIdentity.{FileIdentity}
use Rattle.tm_file_identity.specs.declared.identities.Place.{Place}
use Rattle.tm_file_identity.specs.declared.identities.Place.TheVariants.{Recording, TemporaryCheckpoint, Output, Errors, Faults}
use Rattle.tm_arguments.specs.declared.request.Plan.{Plan}
use Rattle.tm_files.specs.Names.{name_at, temporary_checkpoint}
use Rattle.tm_files.specs.code.Decisions.{writes_errors, writes_output}

-- the names that the system has for the standard streams of a process
abbrev pub input_name : List ℕ
input_name = codes "/proc/self/fd/0"

abbrev pub output_name : List ℕ
output_name = codes "/proc/self/fd/1"

abbrev pub errors_name : List ℕ
errors_name = codes "/proc/self/fd/2"

module _ (stands_for : List ℕ → FileIdentity → Type 0) where
  -- the identity of this name; that of nothing, where the name is no text
  abbrev pub IsOfName : List ℕ → FileIdentity → Type 0
  IsOfName name identity = stands_for name identity ⊎ (¬ (IsUtf8 name) × IsOther identity)

  -- the identity of the file that there may be
  abbrev pub IsOfAny : Option (List ℕ) → FileIdentity → Type 0
  IsOfAny None identity = IsOther identity
  IsOfAny (Some name) identity = IsOfName name identity

  -- the identity of the recording, which is standard input where it has no file
  abbrev pub IsInput : Option (List ℕ) → FileIdentity → Type 0
  IsInput None identity = stands_for input_name identity
  IsInput (Some name) identity = IsOfName name identity

  -- the identity of the standard stream of this name, where it is written
  abbrev pub IsOfStream : Bool → List ℕ → FileIdentity → Type 0
  IsOfStream false name identity = IsOther identity
  IsOfStream true name identity = stands_for name identity

  -- the identity of what the run of a plan has at a place: a file, or a standard stream
  abbrev pub IsOfPlace : Plan → Place → FileIdentity → Type 0
  IsOfPlace p Recording identity = IsInput p.recording identity
  IsOfPlace p TemporaryCheckpoint identity = IsOfAny (option_map temporary_checkpoint p.checkpoint) identity
  IsOfPlace p Output identity = IsOfStream (writes_output p.action) output_name identity
  IsOfPlace p Errors identity = IsOfStream (writes_errors p.action p.report) errors_name identity
  IsOfPlace p Faults identity = stands_for errors_name identity
  IsOfPlace p place identity = IsOfAny (name_at p place) identity
