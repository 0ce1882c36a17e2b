-- The numbers that stand for refusals, as include/tmx.h has them.
use Rattle.std.specs.Prelude.{ℕ}
use Rattle.tm_faults.specs.declared.definition.Column.{Column}
use Rattle.tm_faults.specs.declared.definition.Column.TheVariants as column
use Rattle.tm_faults.specs.declared.definition.DefinitionFault.{DefinitionFault}
use Rattle.tm_faults.specs.declared.definition.DefinitionFault.TheVariants as definition
use Rattle.tm_faults.specs.declared.settings.Key.{Key}
use Rattle.tm_faults.specs.declared.settings.Key.TheVariants as key
use Rattle.tm_faults.specs.declared.settings.SettingsFault.{SettingsFault}
use Rattle.tm_faults.specs.declared.settings.SettingsFault.TheVariants as setting
use Rattle.tm_faults.specs.declared.run.CheckpointFault.{CheckpointFault}
use Rattle.tm_faults.specs.declared.run.CheckpointFault.TheVariants as checkpoint
use Rattle.tm_library.specs.declared.refusal.Input.{Input}
use Rattle.tm_library.specs.declared.refusal.Input.TheVariants as input
use Rattle.tm_library.specs.declared.refusal.Refusal.{Refusal}
use Rattle.tm_library.specs.declared.refusal.Refusal.TheVariants.{TooLong, Settings, Definition, Checkpoint, TooMany, NoMemory}
use Rattle.tm_c.specs.declared.structs.Numbers.{Numbers}

-- a status and a fault, which is about nothing more
abbrev pub with_status : ℕ → ℕ → Numbers
with_status status fault = record { status = status; fault = fault; key = 0; column = 0; row = 0 }

-- the number of a key of the settings
abbrev pub key_number : Key → ℕ
key_number key.Spacecraft = 1
key_number key.FrameLength = 2
key_number key.SkipBefore = 3
key_number key.SkipAfter = 4
key_number key.Secondary = 5
key_number key.Ocf = 6
key_number key.ErrorControl = 7
key_number key.Channels = 8
key_number key.MaxPacket = 9

abbrev pub about_key : ℕ → Key → Numbers
about_key fault k = record { status = 3; fault = fault; key = key_number k; column = 0; row = 0 }

-- the numbers of a fault of the settings
abbrev pub settings_numbers : SettingsFault → Numbers
settings_numbers setting.Toml = with_status 3 1
settings_numbers (setting.Unknown name) = with_status 3 2
settings_numbers (setting.Missing k) = about_key 3 k
settings_numbers (setting.Kind k) = about_key 4 k
settings_numbers (setting.Range k) = about_key 5 k
settings_numbers setting.NoMemory = with_status 6 0

-- the number of a fault of a checkpoint
abbrev pub checkpoint_number : CheckpointFault → ℕ
checkpoint_number checkpoint.Short = 1
checkpoint_number checkpoint.Magic = 2
checkpoint_number checkpoint.Version = 3
checkpoint_number checkpoint.Check = 4
checkpoint_number checkpoint.Settings = 5
checkpoint_number checkpoint.State = 6
checkpoint_number checkpoint.Trailing = 7
checkpoint_number checkpoint.NoMemory = 8

-- the number of a column of a definition
abbrev pub column_number : Column → ℕ
column_number column.Name = 1
column_number column.DataType = 2
column_number column.BitLength = 3
column_number column.BitOffset = 4

abbrev pub about_row : ℕ → ℕ → Numbers
about_row fault row = record { status = 7; fault = fault; key = 0; column = 0; row = row }

-- the numbers of a fault of a definition
abbrev pub definition_numbers : DefinitionFault → Numbers
definition_numbers definition.Csv = with_status 7 1
definition_numbers (definition.Column c) = record { status = 7; fault = 2; key = 0; column = column_number c; row = 0 }
definition_numbers (definition.Kind row) = about_row 3 row
definition_numbers (definition.Array row) = about_row 4 row
definition_numbers (definition.Bits row) = about_row 5 row
definition_numbers (definition.Offset row) = about_row 6 row
definition_numbers (definition.Name row) = about_row 7 row
definition_numbers definition.TooMany = with_status 7 8
definition_numbers definition.NoMemory = with_status 6 0

-- the number of what a call reads beside the recording
abbrev pub input_number : Input → ℕ
input_number input.Settings = 1
input_number input.Definition = 2
input_number input.Checkpoint = 3

-- the numbers of a refusal
abbrev pub refusal_numbers : Refusal → Numbers
refusal_numbers (TooLong told) = with_status 10 (input_number told)
refusal_numbers (Settings fault) = settings_numbers fault
refusal_numbers (Definition fault) = definition_numbers fault
refusal_numbers (Checkpoint fault) = with_status 4 (checkpoint_number fault)
refusal_numbers TooMany = with_status 5 0
refusal_numbers NoMemory = with_status 6 0
