-- The lines of faults, and the statuses with which they end the program.
use Rattle.std.specs.Prelude.{◌++◌, ℕ, List, [], codes}
use Rattle.std.specs.Fmt.{decimal}
use Rattle.tm_faults.specs.Columns.{column_word}
use Rattle.tm_bits.specs.Escape.{escaped}
use Rattle.tm_faults.specs.declared.definition.Column.{Column}
use Rattle.tm_faults.specs.declared.definition.DefinitionFault.{DefinitionFault}
use Rattle.tm_faults.specs.declared.definition.DefinitionFault.TheVariants as definition
use Rattle.tm_faults.specs.Keys.{key_name}
use Rattle.tm_faults.specs.declared.settings.Key.{Key}
use Rattle.tm_faults.specs.declared.run.CheckpointFault.{CheckpointFault}
use Rattle.tm_faults.specs.declared.run.CheckpointFault.TheVariants as checkpoint
use Rattle.tm_faults.specs.declared.settings.SettingsFault.{SettingsFault}
use Rattle.tm_faults.specs.declared.settings.SettingsFault.TheVariants as settings
use Rattle.tm_faults.specs.declared.run.RunFault.{RunFault}
use Rattle.tm_faults.specs.declared.run.RunFault.TheVariants as run
use Rattle.tm_faults.specs.declared.program.UsageFault.{UsageFault}
use Rattle.tm_faults.specs.declared.program.UsageFault.TheVariants as usage
use Rattle.tm_faults.specs.declared.program.ToolFault.{ToolFault}
use Rattle.tm_faults.specs.declared.program.ToolFault.TheVariants as tool

abbrev pub escaped_line : List ℕ → List ℕ → List ℕ → List ℕ
escaped_line before octets after = before ++ escaped octets ++ after

abbrev pub out_of_memory : List ℕ
out_of_memory = codes "tmx: out of memory\n"

-- the line of a usage fault: mostly the text that it carries
abbrev pub usage_text : UsageFault → List ℕ
usage_text (usage.Usage text) = text
usage_text usage.StopAfter = codes "tmx: --stop-after needs --checkpoint\n"
usage_text (usage.Help text) = text
usage_text usage.NoMemory = out_of_memory

abbrev pub key_line : List ℕ → Key → List ℕ
key_line what key = codes "tmx: settings: " ++ (what ++ (codes " " ++ (key_name key ++ codes "\n")))

abbrev pub settings_text : SettingsFault → List ℕ
settings_text settings.Toml = codes "tmx: settings: toml\n"
settings_text (settings.Unknown key) = escaped_line (codes "tmx: settings: unknown ") key (codes "\n")
settings_text (settings.Missing key) = key_line (codes "missing") key
settings_text (settings.Kind key) = key_line (codes "kind") key
settings_text (settings.Range key) = key_line (codes "range") key
settings_text settings.NoMemory = out_of_memory

abbrev pub column_line : Column → List ℕ
column_line column = codes "tmx: definition: column " ++ (column_word column ++ codes "\n")

abbrev pub row_line : List ℕ → ℕ → List ℕ
row_line what row = codes "tmx: definition: " ++ (what ++ (codes " row " ++ (decimal row ++ codes "\n")))

abbrev pub definition_text : DefinitionFault → List ℕ
definition_text definition.Csv = codes "tmx: definition: csv\n"
definition_text (definition.Column column) = column_line column
definition_text (definition.Kind row) = row_line (codes "kind") row
definition_text (definition.Array row) = row_line (codes "array") row
definition_text (definition.Bits row) = row_line (codes "bits") row
definition_text (definition.Offset row) = row_line (codes "offset") row
definition_text (definition.Name row) = row_line (codes "name") row
definition_text definition.TooMany = codes "tmx: definition: too many\n"
definition_text definition.NoMemory = out_of_memory

abbrev pub checkpoint_text : CheckpointFault → List ℕ
checkpoint_text checkpoint.Short = codes "tmx: checkpoint: short\n"
checkpoint_text checkpoint.Magic = codes "tmx: checkpoint: magic\n"
checkpoint_text checkpoint.Version = codes "tmx: checkpoint: version\n"
checkpoint_text checkpoint.Check = codes "tmx: checkpoint: check\n"
checkpoint_text checkpoint.Settings = codes "tmx: checkpoint: settings\n"
checkpoint_text checkpoint.State = codes "tmx: checkpoint: state\n"
checkpoint_text checkpoint.Trailing = codes "tmx: checkpoint: trailing\n"
checkpoint_text checkpoint.NoMemory = out_of_memory

abbrev pub run_text : RunFault → List ℕ
run_text run.Read = codes "tmx: read failed\n"
run_text run.Write = codes "tmx: write failed\n"
run_text run.Report = codes "tmx: report failed\n"
run_text run.ShortRecording = codes "tmx: recording is shorter than the checkpoint\n"
run_text run.TooMany = codes "tmx: too many records\n"
run_text run.NoMemory = out_of_memory

-- the line of a fault; none where standard error must not be written
abbrev pub fault_line_of : ToolFault → List ℕ
fault_line_of (tool.Usage fault) = usage_text fault
fault_line_of (tool.Settings fault) = settings_text fault
fault_line_of (tool.Definition fault) = definition_text fault
fault_line_of (tool.Checkpoint fault) = checkpoint_text fault
fault_line_of (tool.File name) = escaped_line (codes "tmx: ") name (codes ": failed\n")
fault_line_of (tool.TooLong name) = escaped_line (codes "tmx: ") name (codes ": too long\n")
fault_line_of tool.Errors = []
fault_line_of (tool.Run fault) = run_text fault

-- the status of a fault
abbrev pub status_of : ToolFault → ℕ
status_of (tool.Usage (usage.Usage text)) = 2
status_of (tool.Usage usage.StopAfter) = 2
status_of (tool.Usage (usage.Help text)) = 0
status_of (tool.Usage usage.NoMemory) = 3
status_of (tool.Settings settings.NoMemory) = 3
status_of (tool.Settings _) = 2
status_of (tool.Definition definition.NoMemory) = 3
status_of (tool.Definition _) = 2
status_of (tool.Checkpoint checkpoint.NoMemory) = 3
status_of (tool.Checkpoint _) = 2
status_of (tool.File name) = 1
status_of (tool.TooLong name) = 2
status_of tool.Errors = 1
status_of (tool.Run run.Read) = 1
status_of (tool.Run run.Write) = 1
status_of (tool.Run run.Report) = 1
status_of (tool.Run run.ShortRecording) = 2
status_of (tool.Run run.TooMany) = 1
status_of (tool.Run run.NoMemory) = 3
