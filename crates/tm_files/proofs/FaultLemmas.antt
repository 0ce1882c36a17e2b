-- Faults of files: that they name their file, and that out of memory is one.
use Rattle.std.proofs.Common.{ℕ, ◌≡◌, ◌⊎◌, List, Option, Some, inl, inr, subst, sym}
use Rattle.tm_files.specs.code.Files.{HasFault, IsFileFault, IsNoMemory, IsRunFault}
use Rattle.tm_faults.specs.declared.program.ToolFault.{ToolFault}
use Rattle.tm_faults.specs.declared.run.RunFault.TheVariants.{NoMemory}
use Rattle.tm_faults.specs.declared.program.ToolFault.TheVariants as tool

-- the fault of a file is that of its name, unless memory ran out
pub fault_exactly : (name : List ℕ) (fault : ToolFault) → IsFileFault name fault → IsNoMemory fault ⊎ (fault ≡ tool.File name)
fault_exactly name fault (inl h) = inr h
fault_exactly name fault (inr h) = inl h

-- out of memory is a fault of a run, and may come of each file
pub no_memory_run : (fault : ToolFault) → IsNoMemory fault → IsRunFault fault
no_memory_run fault h = (NoMemory, h)

-- a file that there is
pub no_memory_there : (file : Option (List ℕ)) (name : List ℕ) (fault : ToolFault) → file ≡ Some name → IsNoMemory fault → HasFault file fault
no_memory_there file name fault is h = subst (λ o. HasFault o fault) (sym is) (inr h)

pub fault_there : (file : Option (List ℕ)) (name : List ℕ) (fault : ToolFault) → file ≡ Some name → IsFileFault name fault → HasFault file fault
fault_there file name fault is h = subst (λ o. HasFault o fault) (sym is) h
