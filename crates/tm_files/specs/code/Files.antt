-- What a fault says of a file or of a run, and how long a file may be that is read whole.
use Rattle.std.specs.Prelude.{◌≡◌, ◌⊎◌, ℕ, List, Option, None, Some}
use Rattle.tm_faults.specs.declared.run.RunFault.{RunFault}
use Rattle.tm_faults.specs.declared.run.RunFault.TheVariants.{NoMemory}
use Rattle.tm_faults.specs.declared.program.ToolFault.{ToolFault}
use Rattle.tm_faults.specs.declared.program.ToolFault.TheVariants.{File, TooLong, Run}

-- the file of this name can't be opened, made, read or written, or memory ran out
abbrev pub IsFileFault : List ℕ → ToolFault → Type 0
IsFileFault name fault = (fault ≡ File name) ⊎ (fault ≡ Run NoMemory)

-- likewise, of a file that is read whole: it may be too long
abbrev pub IsFaultOf : List ℕ → ToolFault → Type 0
IsFaultOf name fault = (fault ≡ TooLong name) ⊎ IsFileFault name fault

-- there is such a file, and it can't be opened, made or written
abbrev pub HasFault : Option (List ℕ) → ToolFault → Type 0
HasFault None fault = ⊥
HasFault (Some name) fault = IsFileFault name fault

-- memory ran out
abbrev pub IsNoMemory : ToolFault → Type 0
IsNoMemory fault = fault ≡ Run NoMemory

-- a fault of a run, or out of memory
abbrev pub IsRunFault : ToolFault → Type 0
IsRunFault fault = (reason : RunFault) × (fault ≡ Run reason)

-- the most octets of such a file
abbrev pub most_octets : ℕ
most_octets = 1048576
