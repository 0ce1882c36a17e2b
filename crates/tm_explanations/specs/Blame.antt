-- Which faults are explained, and which file or stream of a run is blamed.
use Rattle.std.specs.Prelude.{◌≡◌, ℕ, Bool, true, false, List, [], ◌∷◌, Option, Some, None, IfSome, find, if◌then◌else◌}
use Rattle.tm_arguments.specs.CommandLine.{is_accepted, lacks_checkpoint, plan_of}
use Rattle.tm_arguments.specs.declared.request.Plan.{Plan}
use Rattle.tm_faults.specs.declared.definition.DefinitionFault.TheVariants as definition
use Rattle.tm_faults.specs.declared.run.CheckpointFault.TheVariants as checkpoint
use Rattle.tm_faults.specs.declared.settings.SettingsFault.{SettingsFault}
use Rattle.tm_faults.specs.declared.settings.SettingsFault.TheVariants as settings
use Rattle.tm_faults.specs.declared.run.RunFault.TheVariants as run
use Rattle.tm_faults.specs.declared.program.UsageFault.TheVariants as usage
use Rattle.tm_faults.specs.declared.program.ToolFault.{ToolFault}
use Rattle.tm_faults.specs.declared.program.ToolFault.TheVariants as tool
use Rattle.tm_file_identity.specs.declared.identities.Place.{Place}
use Rattle.tm_file_identity.specs.declared.identities.Place.TheVariants.{Settings, Definition, Resumed, Recording, Report, Checkpoint, Output}
use Rattle.tm_files.specs.Names.{is_named}

-- There may be more to say than the fault's line does. That is so of wrong words and of settings, and of the lengths, offsets and rows of
-- a definition. It is so of a checkpoint's version and settings, and of what a call of the system refused.
abbrev pub is_explained : ToolFault → Bool
is_explained (tool.Usage (usage.Usage text)) = true
is_explained (tool.Usage _) = false
is_explained (tool.Settings settings.NoMemory) = false
is_explained (tool.Settings _) = true
is_explained (tool.Definition definition.Csv) = true
is_explained (tool.Definition (definition.Bits row)) = true
is_explained (tool.Definition (definition.Offset row)) = true
is_explained (tool.Definition _) = false
is_explained (tool.Checkpoint checkpoint.Version) = true
is_explained (tool.Checkpoint checkpoint.Settings) = true
is_explained (tool.Checkpoint _) = false
is_explained (tool.File name) = true
is_explained (tool.TooLong name) = false
is_explained tool.Errors = false
is_explained (tool.Run run.TooMany) = false
is_explained (tool.Run run.NoMemory) = false
is_explained (tool.Run _) = true

-- The places of files that a plan names, in the order in which a run opens them. If the checkpoint to go on from can be read, it comes
-- last, and the one that is written takes its place.
abbrev pub named_places : Bool → List Place
named_places can_resume =
    Settings ∷ Definition ∷ (if can_resume then Checkpoint else Resumed) ∷ Recording ∷ Report ∷ Checkpoint ∷ Resumed ∷ []

-- what the file of this name is for: the first of these
abbrev pub place_named : Plan → List ℕ → Bool → Option Place
place_named p name can_resume = find (is_named p name) (named_places can_resume)

-- where packets go: standard output, unless they go to a folder
abbrev pub packets_place : Option (List ℕ) → Option Place
packets_place None = Some Output
packets_place (Some dir) = None

-- What is blamed for a fault of a run. The checkpoint to go on from can be read, or not. The folder for packets has no place, nor have the
-- files in it.
abbrev pub place_blamed : Plan → ToolFault → Bool → Option Place
place_blamed p (tool.Settings fault) can_resume = Some Settings
place_blamed p (tool.Definition fault) can_resume = Some Definition
place_blamed p (tool.Checkpoint fault) can_resume = Some Resumed
place_blamed p (tool.File name) can_resume = place_named p name can_resume
place_blamed p (tool.Run run.Read) can_resume = Some Recording
place_blamed p (tool.Run run.ShortRecording) can_resume = Some Recording
place_blamed p (tool.Run run.Report) can_resume = Some Report
place_blamed p (tool.Run run.Write) can_resume = packets_place p.dir
place_blamed p _ can_resume = None

-- a value that settings may not have, or that they lack
abbrev pub is_of_value : SettingsFault → Bool
is_of_value (settings.Missing key) = true
is_of_value (settings.Kind key) = true
is_of_value (settings.Range key) = true
is_of_value _ = false

-- There is more to say of the fault, whatever the files hold now. It is of a value of the settings, or of a call that the system refused
-- with the number of an error.
abbrev pub is_told : ToolFault → Bool → Bool
is_told (tool.Settings fault) has_number = is_of_value fault
is_told (tool.File name) has_number = has_number
is_told (tool.Run run.Read) has_number = has_number
is_told (tool.Run run.Write) has_number = has_number
is_told (tool.Run run.Report) has_number = has_number
is_told _ has_number = false

-- the command takes the words, and they are a plan
abbrev pub HasPlan : List (List ℕ) → Type 0
HasPlan words = (is_accepted words ≡ true) × IfSome (plan_of words) (λ p. lacks_checkpoint p ≡ false)
