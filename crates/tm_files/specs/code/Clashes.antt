-- The first of a plan's files that would be written over another file of the plan, by their names and by what these stand for; and its fault.
use Rattle.std.specs.Prelude.{ℕ, List, Option, Some, None, if◌then◌else◌, option_map}
use Rattle.std.specs.Option.{option_or}
use Rattle.tm_faults.specs.declared.run.RunFault.TheVariants as run
use Rattle.tm_file_identity.specs.FileIdentities.{clash_at}
use Rattle.tm_file_identity.specs.declared.identities.FileIdentities.{FileIdentities}
use Rattle.tm_file_identity.specs.declared.identities.Place.{Place}
use Rattle.tm_file_identity.specs.declared.identities.Place.TheVariants.{Report, Checkpoint, TemporaryCheckpoint, Output}
use Rattle.tm_files.specs.code.Decisions.{writes_output}
use Rattle.tm_files.specs.declared.names.Clash.{Clash}
use Rattle.tm_files.specs.Names.{named_over, temporary_checkpoint}
use Rattle.tm_faults.specs.declared.program.ToolFault.{ToolFault}
use Rattle.tm_faults.specs.declared.program.ToolFault.TheVariants as tool
use Rattle.tm_arguments.specs.declared.request.Plan.{Plan}

-- over which file the file of this name at a place would be written: by its name, or by what its name stands for
abbrev pub place_over : Plan → FileIdentities → Place → List ℕ → Option Place
place_over p s written name = option_or (named_over p name written) (clash_at s written)

-- the clash of a file with the one over which it would be written
abbrev pub clash_with : Place → Place → Clash
clash_with written over = record { written = written; over = over }

-- that of the file at a place, where there is one
abbrev pub clash_over : Plan → FileIdentities → Place → Option (List ℕ) → Option Clash
clash_over p s written None = None
clash_over p s written (Some name) = option_map (clash_with written) (place_over p s written name)

-- that of standard output, where the plan writes to it
abbrev pub output_clash : Plan → FileIdentities → Option Clash
output_clash p s = if writes_output p.action then option_map (clash_with Output) (clash_at s Output) else None

-- the first of all: that of the checkpoint, of the file beside it, of the report, and of standard output
abbrev pub clash_of : Plan → FileIdentities → Option Clash
clash_of p s =
    option_or (option_or (option_or (clash_over p s Checkpoint p.checkpoint)
    (clash_over p s TemporaryCheckpoint (option_map temporary_checkpoint p.checkpoint)))
    (clash_over p s Report p.report)) (output_clash p s)

-- the fault of a file that would be written: it names the file, and only standard output has no name
abbrev pub fault_of_file : Option (List ℕ) → ToolFault
fault_of_file None = tool.Run run.Write
fault_of_file (Some name) = tool.File name

-- the file that a clash names
abbrev pub file_at : Plan → Place → Option (List ℕ)
file_at p Output = None
file_at p Report = p.report
file_at p _ = p.checkpoint

abbrev pub fault_of_clash : Plan → Clash → ToolFault
fault_of_clash p clash = fault_of_file (file_at p clash.written)
