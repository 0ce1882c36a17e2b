-- Whom the fault of a run blames.
use Rattle.std.proofs.Common.{ℕ, List, Option, None, Some, Result, Ok, Err, inl, inr}
use Rattle.std.specs.Prelude.{⊤, IfErr}
use Rattle.tm_faults.specs.declared.run.RunFault.{RunFault}
use Rattle.tm_faults.specs.declared.run.RunFault.TheVariants as run
use Rattle.tm_files.specs.code.Files.{IsNoMemory}
use Rattle.tm_faults.specs.declared.program.ToolFault.{ToolFault}
use Rattle.tm_faults.specs.declared.program.ToolFault.TheVariants as tool
use Rattle.tm_output.specs.Faults.{RunCaused, RunCounted}
use Rattle.tm_output.specs.Outputs.{View}
use Rattle.tm_program.specs.code.Blames.{IsBlamedBeside, IsPutFault, IsRefusedPut, IsSplitEnd, held_fault_of}
use Rattle.tm_split_files.specs.declared.files.ShelfFault.{ShelfFault}
use Rattle.tm_split_files.specs.declared.files.ShelfFault.TheVariants as shelf
use Rattle.tm_split_files.specs.declared.refusals.RefusedPut.{RefusedPut}

-- a run's fault
pub run_blames : {K : Type 0} (s t : ℕ) (old new : View K) (fault : RunFault) → RunCaused s t old new fault
    → IsBlamedBeside s t old.report_failures new.report_failures (tool.Run fault)
run_blames s t old new run.Read h = h.0
run_blames s t old new run.Write h = tt
run_blames s t old new run.Report h = h.1.1
run_blames s t old new run.ShortRecording h = tt
run_blames s t old new run.TooMany h = tt
run_blames s t old new run.NoMemory h = tt

-- what splitting ends with
refusal_blames : (s t r q : ℕ) (folder : List ℕ) (application : ℕ) (refused : ShelfFault) (fault : ToolFault)
    → IsRefusedPut folder application refused fault → IsBlamedBeside s t r q fault
refusal_blames s t r q folder application shelf.NoMemory fault h = rw h tt
refusal_blames s t r q folder application shelf.NotWritten fault h = rw h tt
refusal_blames s t r q folder application shelf.Clashes fault (inl h) = rw h tt
refusal_blames s t r q folder application shelf.Clashes fault (inr h) = rw h tt

put_blames : (s t r q : ℕ) (folder : List ℕ) (put : Option RefusedPut) (fault : ToolFault) → IsPutFault folder put fault → IsBlamedBeside s t r q fault
put_blames s t r q folder None fault h = rw h tt
put_blames s t r q folder (Some put) fault h = refusal_blames s t r q folder put.application put.fault fault h

held_blames : (s t r q : ℕ) (fault : ShelfFault) → IsBlamedBeside s t r q (tool.Run (held_fault_of fault))
held_blames s t r q shelf.NoMemory = tt
held_blames s t r q shelf.NotWritten = tt
held_blames s t r q shelf.Clashes = tt

pub split_blames : {D K : Type 0} (s t : ℕ) (old new : View K) (done : Result D RunFault) (written : Result ⊤ ShelfFault) (folder : List ℕ)
    (put : Option RefusedPut) (end : Result D ToolFault) → RunCounted s t old new done → IsSplitEnd done written folder put end
    → IfErr end (IsBlamedBeside s t old.report_failures new.report_failures)
split_blames s t old new (Ok done) (Ok nothing) folder put end h is = rw is tt
split_blames s t old new (Ok done) (Err fault) folder put end h is = rw is (held_blames s t _ _ fault)
split_blames s t old new (Err run.Write) written folder put (Ok done) h is = tt
split_blames s t old new (Err run.Write) written folder put (Err fault) h is = put_blames s t _ _ folder put fault is
split_blames s t old new (Err run.Read) written folder put end h is = rw is h.0
split_blames s t old new (Err run.Report) written folder put end h is = rw is h.1.1
split_blames s t old new (Err run.ShortRecording) written folder put end h is = rw is tt
split_blames s t old new (Err run.TooMany) written folder put end h is = rw is tt
split_blames s t old new (Err run.NoMemory) written folder put end h is = rw is tt

-- out of memory blames no device
pub no_memory_blames : (s t r q : ℕ) (fault : ToolFault) → IsNoMemory fault → IsBlamedBeside s t r q fault
no_memory_blames s t r q fault h = rw h tt
