-- Which device a run's fault blames, and how splitting ends.
use Rattle.std.specs.Prelude.{◌≡◌, ◌⊎◌, ⊤, ℕ, List, Option, None, Some, Result, Ok, Err, MatchResult}
use Rattle.tm_devices.specs.Devices.{raised}
use Rattle.tm_output.specs.Faults.{CausedByDevice}
use Rattle.tm_faults.specs.declared.run.RunFault.{RunFault}
use Rattle.tm_faults.specs.declared.run.RunFault.TheVariants as run
use Rattle.tm_faults.specs.declared.program.ToolFault.{ToolFault}
use Rattle.tm_faults.specs.declared.program.ToolFault.TheVariants as tool
use Rattle.tm_split_files.specs.Names.{file_in}
use Rattle.tm_split_files.specs.declared.files.ShelfFault.{ShelfFault}
use Rattle.tm_split_files.specs.declared.files.ShelfFault.TheVariants as shelf
use Rattle.tm_split_files.specs.declared.refusals.RefusedPut.{RefusedPut}

-- A device is blamed only where a call of it failed: `Read` where the source's count of failures rose, `Write` where the drain's did, and no other count rises.
abbrev pub IsBlamed : ℕ → ℕ → ℕ → ℕ → ToolFault → Type 0
IsBlamed source_old source_new out_old out_new (tool.Run fault) = CausedByDevice source_old source_new out_old out_new fault
IsBlamed source_old source_new out_old out_new _ = ⊥

-- For a run into an output that it has itself: `Read` comes only where the count of failures of the source rose, and `Report`
-- only where that of the report did.
abbrev pub IsBlamedBeside : ℕ → ℕ → ℕ → ℕ → ToolFault → Type 0
IsBlamedBeside source_old source_new report_old report_new (tool.Run run.Read) = source_new ≡ raised source_old
IsBlamedBeside source_old source_new report_old report_new (tool.Run run.Report) = report_new ≡ raised report_old
IsBlamedBeside source_old source_new report_old report_new _ = ⊤

-- The fault of a put into this folder that was refused: memory ran out, or else its file is another file of the run or can't be
-- written. Memory may also run out for the file's name.
abbrev pub IsRefusedPut : List ℕ → ℕ → ShelfFault → ToolFault → Type 0
IsRefusedPut folder application shelf.NoMemory fault = fault ≡ tool.Run run.NoMemory
IsRefusedPut folder application shelf.NotWritten fault = fault ≡ tool.Run run.Write
IsRefusedPut folder application shelf.Clashes fault = (fault ≡ tool.File (file_in folder application)) ⊎ (fault ≡ tool.Run run.NoMemory)

abbrev pub IsPutFault : List ℕ → Option RefusedPut → ToolFault → Type 0
IsPutFault folder None fault = fault ≡ tool.Run run.Write
IsPutFault folder (Some put) fault = IsRefusedPut folder put.application put.fault fault

-- the fault of held octets that can't be written
abbrev pub held_fault_of : ShelfFault → RunFault
held_fault_of shelf.NoMemory = run.NoMemory
held_fault_of shelf.NotWritten = run.Write
held_fault_of shelf.Clashes = run.Write

-- What splitting into this folder ends with, by what its run says, by what writing says of that which was held, and by the last put
-- that was refused.
abbrev pub IsSplitEnd : {D : Type 0} → Result D RunFault → Result ⊤ ShelfFault → List ℕ → Option RefusedPut → Result D ToolFault → Type 0
IsSplitEnd (Ok done) (Ok nothing) folder put end = end ≡ Ok done
IsSplitEnd (Ok done) (Err fault) folder put end = end ≡ Err (tool.Run (held_fault_of fault))
IsSplitEnd (Err run.Write) written folder put end = MatchResult end (λ done. ⊥) (IsPutFault folder put)
IsSplitEnd (Err fault) written folder put end = end ≡ Err (tool.Run fault)
