-- Faults of files and of runs, as faults that may come of a plan.
use Rattle.std.proofs.Common.{ℕ, ◌≡◌, ◌⊎◌, List, Option, None, Some, inl, inr, refl, subst, sym}
use Rattle.tm_split_files.specs.Names.{file_in}
use Rattle.tm_files.specs.code.Decisions.{IsOfStreams}
use Rattle.tm_files.specs.code.Files.{HasFault, IsFaultOf, IsFileFault, IsNoMemory, IsRunFault}
use Rattle.tm_program.specs.Program.{IsAsked, IsNamed, IsOfFolder, IsReadWhole, MayCome, MayEnd}
use Rattle.tm_program.specs.code.Faults.{HasFolderFault, HasReadFault, IsFolderFault, IsOfDefinition, IsOfOutputs, IsOfResumed, IsOfSettings}
use Rattle.tm_faults.specs.declared.program.ToolFault.{ToolFault}
use Rattle.tm_faults.specs.declared.program.ToolFault.TheVariants as tool
use Rattle.tm_arguments.specs.declared.request.Plan.{Plan}

-- a file that the plan names can't be opened, made or written
pub file_comes : (p : Plan) (name : List ℕ) (fault : ToolFault) → IsNamed p name → IsFileFault name fault → MayCome p fault
file_comes p name fault named (inl h) = rw h named
file_comes p name fault named (inr h) = rw h tt

-- a file that the plan has read whole can't be
pub whole_comes : (p : Plan) (name : List ℕ) (fault : ToolFault) → IsReadWhole p name → IsFaultOf name fault → MayCome p fault
whole_comes p name fault named (inl h) = rw h named
whole_comes p name fault named (inr (inl h)) = rw h (inl named)
whole_comes p name fault named (inr (inr h)) = rw h tt

-- a file that the plan may have can't be opened, made or written
file_of_comes : (p : Plan) (file : Option (List ℕ)) (fault : ToolFault) → ((name : List ℕ) → file ≡ Some name → IsNamed p name) → HasFault file fault → MayCome p fault
file_of_comes p None fault named h = absurd h
file_of_comes p (Some name) fault named h = file_comes p name fault (named name refl) h

-- likewise, one that is read whole
read_comes : (p : Plan) (file : Option (List ℕ)) (fault : ToolFault) → ((name : List ℕ) → file ≡ Some name → IsReadWhole p name) → HasReadFault file fault → MayCome p fault
read_comes p None fault named h = absurd h
read_comes p (Some name) fault named h = whole_comes p name fault (named name refl) h

pub settings_come : (p : Plan) (fault : ToolFault) → IsOfSettings p fault → MayCome p fault
settings_come p fault (inl h) = rw h.1 tt
settings_come p fault (inr h) = read_comes p p.settings fault (λ name is. inl is) h

pub definition_comes : (p : Plan) (fault : ToolFault) → IsOfDefinition p fault → MayCome p fault
definition_comes p fault (inl h) = rw h.1.1 h.0
definition_comes p fault (inr h) = read_comes p p.definition fault (λ name is. inr (inl is)) h

pub resumed_comes : (p : Plan) (fault : ToolFault) → IsOfResumed p fault → MayCome p fault
resumed_comes p fault (inl h) = rw h.1.1 h.0
resumed_comes p fault (inr h) = read_comes p p.resume fault (λ name is. inr (inr is)) h

-- a run ends in a fault
pub run_comes : (p : Plan) (fault : ToolFault) → IsRunFault fault → MayCome p fault
run_comes p fault h = rw h.1 tt

-- a standard stream is closed
pub streams_come : (p : Plan) (fault : ToolFault) → IsOfStreams p fault → MayCome p fault
streams_come p fault (inl h) = rw h.0 tt
streams_come p fault (inr h) = rw h.0 tt

-- the folder of a plan can't be written, or an application's file in it is another file of the run
folder_comes : (p : Plan) (dir : List ℕ) (fault : ToolFault) → p.dir ≡ Some dir → IsFolderFault dir fault → MayCome p fault
folder_comes p dir fault is (inl h) = file_comes p dir fault (inr (inr (inr (inr (subst (λ (o : Option (List ℕ)). IsOfFolder o dir) (sym is) (inl refl)))))) h
folder_comes p dir fault is (inr h) =
    let own : IsOfFolder p.dir (file_in dir h.0) = subst (λ (o : Option (List ℕ)). IsOfFolder o (file_in dir h.0)) (sym is) (inr (h.0, refl)) in
    rw h.1 (inr (inr (inr (inr own))))

folder_of_comes : (p : Plan) (o : Option (List ℕ)) (fault : ToolFault) → p.dir ≡ o → HasFolderFault o fault → MayCome p fault
folder_of_comes p None fault is h = absurd h
folder_of_comes p (Some dir) fault is h = folder_comes p dir fault is h

-- standard error is a file that is read, or memory ran out
pub errors_come : (p : Plan) (fault : ToolFault) → IsNoMemory fault ⊎ (fault ≡ tool.Errors) → MayCome p fault
errors_come p fault (inl h) = rw h tt
errors_come p fault (inr h) = rw h tt

pub outputs_come : (p : Plan) (fault : ToolFault) → IsOfOutputs p fault → MayCome p fault
outputs_come p fault (inl h) = run_comes p fault h
outputs_come p fault (inr (inl h)) = file_of_comes p p.report fault (λ name is. inr (inr (inl is))) h
outputs_come p fault (inr (inr (inl h))) = file_of_comes p p.checkpoint fault (λ name is. inr (inr (inr (inl is)))) h
outputs_come p fault (inr (inr (inr h))) = folder_of_comes p p.dir fault refl h

-- the names of the checkpoint and of the report are checked, and standard output
pub names_come : (p : Plan) (fault : ToolFault) → HasFault p.report fault ⊎ HasFault p.checkpoint fault ⊎ IsRunFault fault → IsOfOutputs p fault
names_come p fault (inl h) = inr (inl h)
names_come p fault (inr (inl h)) = inr (inr (inl h))
names_come p fault (inr (inr h)) = inl h

-- a run and its folder may end it
pub run_ends : (p : Plan) (fault : ToolFault) → IsRunFault fault ⊎ HasFolderFault p.dir fault → IsOfOutputs p fault
run_ends p fault (inl h) = inl h
run_ends p fault (inr h) = inr (inr (inr h))

-- the fault of a folder is one of what splitting writes
pub split_there : (o : Option (List ℕ)) (dir : List ℕ) (fault : ToolFault) → o ≡ Some dir → IsRunFault fault ⊎ IsFolderFault dir fault → IsRunFault fault ⊎ HasFolderFault o fault
split_there o dir fault is (inl h) = inl h
split_there o dir fault is (inr h) = inr (subst (λ (found : Option (List ℕ)). HasFolderFault found fault) (sym is) h)

-- what may come of the plan of arguments may be their end
pub plan_ends : (arguments : List (List ℕ)) (p : Plan) (fault : ToolFault) → IsAsked arguments p → MayCome p fault → MayEnd arguments fault
plan_ends arguments p (tool.Usage f) asked h = absurd h
plan_ends arguments p (tool.Settings f) asked h = (p, asked, h)
plan_ends arguments p (tool.Definition f) asked h = (p, asked, h)
plan_ends arguments p (tool.Checkpoint f) asked h = (p, asked, h)
plan_ends arguments p (tool.File given) asked h = (p, asked, h)
plan_ends arguments p (tool.TooLong given) asked h = (p, asked, h)
plan_ends arguments p tool.Errors asked h = (p, asked, h)
plan_ends arguments p (tool.Run f) asked h = (p, asked, h)
