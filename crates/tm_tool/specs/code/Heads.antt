-- What is written before all else, for a private contract.
use Rattle.std.specs.Prelude.{◌≡◌, ◌⊎◌, ℕ, Bool, if◌then◌else◌, List, [], Option}
use Rattle.std.specs.Io.KnownBytes.{Appends}
use Rattle.tm_devices.specs.Devices.{raised}
use Rattle.tm_faults.specs.declared.run.RunFault.{RunFault}
use Rattle.tm_faults.specs.declared.run.RunFault.TheVariants.{Write}
use Rattle.tm_output.specs.Outputs.{lines_buffering}
use Rattle.tm_output.specs.code.Outlets.{PutStopped}
use Rattle.tm_fields.specs.Rows.{head_of}
use Rattle.tm_output.specs.declared.command.Command.{Command}
use Rattle.tm_output.specs.declared.command.Command.TheVariants.{Fields}

-- the octets of the head of the rows, for a job that is fresh
abbrev pub head_text : Command → Bool → List ℕ
head_text (Fields definition application) fresh = if fresh then head_of definition.now else []
head_text _ fresh = []

-- writing stopped in it, or it was written and the flush after it failed
abbrev pub HeadStopped : Option (List ℕ) → Option (List ℕ) → ℕ → ℕ → List ℕ → RunFault → Type 0
HeadStopped old new failures_old failures_new text fault =
    PutStopped Appends lines_buffering old new failures_old failures_new text fault
    ⊎ ((fault ≡ Write) × Appends old new text × (failures_new ≡ raised failures_old))
