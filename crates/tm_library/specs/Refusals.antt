-- Why a call gives nothing.
use Rattle.std.specs.Prelude.{◌≡◌, ⊤, ℕ, ◌+◌, ◌<◌, ◌≤◌, List, length, Err, IsUtf8}
use Rattle.toml.specs.Parse.{parse_document}
use Rattle.tm_frame.specs.Layout.{most_records}
use Rattle.tm_frame.specs.Rules.{Rules}
use Rattle.tm_faults.specs.declared.definition.DefinitionFault.{DefinitionFault}
use Rattle.tm_faults.specs.declared.definition.DefinitionFault.TheVariants as definition
use Rattle.tm_faults.specs.declared.settings.SettingsFault.{SettingsFault}
use Rattle.tm_faults.specs.declared.settings.SettingsFault.TheVariants as setting
use Rattle.tm_fields.specs.Reading.{definition_of}
use Rattle.tm_settings.specs.Settings.{settings_from}
use Rattle.tm_faults.specs.declared.run.CheckpointFault.{CheckpointFault}
use Rattle.tm_faults.specs.declared.run.CheckpointFault.TheVariants as checkpoint
use Rattle.tm_faults.specs.declared.run.RunFault.{RunFault}
use Rattle.tm_faults.specs.declared.run.RunFault.TheVariants as run
use Rattle.tm_output.specs.Records.{records}
use Rattle.tm_checkpoint.specs.Works.{JobState}
use Rattle.tm_library.specs.Chunks.{Begins, input_limit, job_in, size_of}
use Rattle.tm_library.specs.declared.refusal.Input.{Input}
use Rattle.tm_library.specs.declared.refusal.Input.TheVariants as input
use Rattle.tm_library.specs.declared.refusal.Refusal.{Refusal}
use Rattle.tm_library.specs.declared.refusal.Refusal.TheVariants.{TooLong, Settings, Definition, Checkpoint, TooMany, NoMemory}

-- a fault of the settings as a refusal
abbrev pub settings_refusal : SettingsFault → Refusal
settings_refusal setting.NoMemory = NoMemory
settings_refusal fault = Settings fault

-- a fault of the definition as a refusal
abbrev pub definition_refusal : DefinitionFault → Refusal
definition_refusal definition.NoMemory = NoMemory
definition_refusal fault = Definition fault

-- a fault of the checkpoint as a refusal
abbrev pub checkpoint_refusal : CheckpointFault → Refusal
checkpoint_refusal checkpoint.NoMemory = NoMemory
checkpoint_refusal fault = Checkpoint fault

-- a fault of a run in memory as a refusal
abbrev pub run_refusal : RunFault → Refusal
run_refusal run.TooMany = TooMany
run_refusal fault = NoMemory

-- this input has too many octets
abbrev pub IsTooLong : Input → List ℕ → Input → Type 0
IsTooLong it octets told = (told ≡ it) × (input_limit < length octets)

-- why settings are refused: they are too long, or what is wrong first with them; or memory ran out
abbrev pub IsSettingsRefused : List ℕ → Refusal → Type 0
IsSettingsRefused settings (TooLong told) = IsTooLong input.Settings settings told
IsSettingsRefused settings (Settings fault) =
    (length settings ≤ input_limit) × (IsUtf8 settings → settings_from (parse_document settings) ≡ Err fault) × (¬ (IsUtf8 settings) → fault ≡ setting.Toml)
IsSettingsRefused settings NoMemory = length settings ≤ input_limit
IsSettingsRefused settings other = ⊥

-- why a definition is refused, likewise
abbrev pub IsDefinitionRefused : List ℕ → Refusal → Type 0
IsDefinitionRefused definition (TooLong told) = IsTooLong input.Definition definition told
IsDefinitionRefused definition (Definition fault) = (length definition ≤ input_limit) × (definition_of definition ≡ Err fault)
IsDefinitionRefused definition NoMemory = length definition ≤ input_limit
IsDefinitionRefused definition other = ⊥

-- a run over a chunk gives nothing only where there are too many records, or where memory runs out
abbrev pub IsRunRefused : JobState → List ℕ → Refusal → Type 0
IsRunRefused job octets TooMany = most_records < job.work.state.records + length (records (size_of job.work) octets)
IsRunRefused job octets NoMemory = ⊤
IsRunRefused job octets other = ⊥

-- why a call gives nothing by these settings: what is wrong first with the checkpoint; or too many records; or memory ran out
abbrev pub IsChunkRefused : Rules → List ℕ → List ℕ → Refusal → Type 0
IsChunkRefused rules checkpoint chunk (TooLong told) = IsTooLong input.Checkpoint checkpoint told
IsChunkRefused rules checkpoint chunk (Checkpoint fault) = (length checkpoint ≤ input_limit) × (job_in rules checkpoint ≡ Err fault)
IsChunkRefused rules checkpoint chunk TooMany = (job : JobState) × Begins rules checkpoint job × IsRunRefused job chunk TooMany
IsChunkRefused rules checkpoint chunk NoMemory = length checkpoint ≤ input_limit
IsChunkRefused rules checkpoint chunk other = ⊥
