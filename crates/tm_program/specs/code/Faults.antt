-- Which faults the steps of a plan may end in, each by what it does.
use Rattle.std.specs.Prelude.{◌≡◌, ◌⊎◌, ℕ, List, Option, None, Some, Ok, IsSome}
use Rattle.tm_faults.specs.declared.definition.DefinitionFault.{DefinitionFault}
use Rattle.tm_faults.specs.declared.run.CheckpointFault.{CheckpointFault}
use Rattle.tm_faults.specs.declared.settings.SettingsFault.{SettingsFault}
use Rattle.tm_files.specs.code.Files.{HasFault, IsFaultOf, IsFileFault, IsRunFault}
use Rattle.tm_faults.specs.declared.program.ToolFault.{ToolFault}
use Rattle.tm_faults.specs.declared.program.ToolFault.TheVariants as tool
use Rattle.tm_split_files.specs.Names.{file_in}
use Rattle.tm_settings.specs.Settings.{Rules}
use Rattle.tm_checkpoint.specs.Checkpoints.{resumed}
use Rattle.tm_checkpoint.specs.Works.{JobState}
use Rattle.tm_arguments.specs.declared.request.Plan.{Plan}

-- the folder of this name can't be written, an application's file in it is another file of the run, or memory ran out
abbrev pub IsFolderFault : List ℕ → ToolFault → Type 0
IsFolderFault dir fault = IsFileFault dir fault ⊎ ((application : ℕ) × (fault ≡ tool.File (file_in dir application)))

-- there is such a folder
abbrev pub HasFolderFault : Option (List ℕ) → ToolFault → Type 0
HasFolderFault None fault = ⊥
HasFolderFault (Some dir) fault = IsFolderFault dir fault

-- there is such a file, and it can't be read whole
abbrev pub HasReadFault : Option (List ℕ) → ToolFault → Type 0
HasReadFault None fault = ⊥
HasReadFault (Some name) fault = IsFaultOf name fault

-- the settings' file can't be read, or is no settings
abbrev pub IsOfSettings : Plan → ToolFault → Type 0
IsOfSettings p fault = ((reason : SettingsFault) × (fault ≡ tool.Settings reason)) ⊎ HasReadFault p.settings fault

-- likewise the definition's
abbrev pub IsOfDefinition : Plan → ToolFault → Type 0
IsOfDefinition p fault = (IsSome p.definition × ((reason : DefinitionFault) × (fault ≡ tool.Definition reason))) ⊎ HasReadFault p.definition fault

-- likewise that of the checkpoint to go on from
abbrev pub IsOfResumed : Plan → ToolFault → Type 0
IsOfResumed p fault = (IsSome p.resume × ((reason : CheckpointFault) × (fault ≡ tool.Checkpoint reason))) ⊎ HasReadFault p.resume fault

-- The run ended early. Or a file or folder that it writes can't be opened, made or written, or one of these or a stream is
-- another file of the run.
abbrev pub IsOfOutputs : Plan → ToolFault → Type 0
IsOfOutputs p fault = IsRunFault fault ⊎ HasFault p.report fault ⊎ HasFault p.checkpoint fault ⊎ HasFolderFault p.dir fault

-- a job that a checkpoint of these settings says
abbrev pub IsResumed : Rules → JobState → Type 0
IsResumed settings job = (octets : List ℕ) × (resumed settings octets ≡ Ok job)
