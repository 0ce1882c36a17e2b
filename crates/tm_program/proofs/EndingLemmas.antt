-- What is done by a run, of what its contract says.
use Rattle.std.proofs.Common.{◌≡◌, ℕ, List, [], Option, None, Some, Result, Ok, Err, IfOk, inl, inr, option_map, refl, subst, ⊎_elim, ◌∙◌}
use Rattle.tm_faults.specs.declared.program.ToolFault.{ToolFault}
use Rattle.tm_faults.specs.declared.run.RunFault.{RunFault}
use Rattle.tm_output.specs.declared.command.Ending.{Ending}
use Rattle.tm_output.specs.Outputs.{Piece, Buffering}
use Rattle.tm_output.specs.Pieces.{Texts}
use Rattle.tm_output.specs.Shelves.{Shelves, shelf_buffering, shelf_text}
use Rattle.tm_checkpoint.specs.Works.{JobState, Work}
use Rattle.tm_tool.specs.Runs.{Devices, IsEnough, Ran, kept_of}
use Rattle.tm_tool.specs.declared.job.CountedRun.{CountedRun}
use Rattle.tm_settings.specs.Settings.{Rules}
use Rattle.tm_program.specs.Found.{AreTexts, Finds, ending_with}
use Rattle.tm_program.specs.code.Endings.{FindsDone, HasDone, HasShown, IsDone, IsListFound, requested_checkpoint}
use Rattle.tm_program.specs.code.Tasks.{IsDestination, IsJob, IsOverview, folder_texts, texts_of}
use Rattle.tm_program.specs.declared.task.Destination.{Destination}
use Rattle.tm_program.specs.declared.task.Destination.TheVariants.{Output, Folder}
use Rattle.tm_program.specs.declared.task.JobInputs.{JobInputs}
use Rattle.tm_program.specs.declared.task.Overview.{Overview}
use Rattle.tm_program.specs.declared.task.Overview.TheVariants.{Frames, Summary}
use Rattle.tm_program.specs.declared.task.PacketForm.TheVariants.{Octets, Line, Binary, Row}
use Rattle.tm_program.specs.declared.outcome.Found.{Found}
use Rattle.tm_program.specs.declared.outcome.Found.TheVariants as found
use Rattle.tm_arguments.specs.declared.request.Plan.{Plan}

-- what was read is enough, whatever the source tells
untold : (ending : Ending) (w : Work) (left : Option (List ℕ)) (read : List ℕ) → IsEnough ending w left read → IsEnough ending w None read
untold ending w left read enough = (enough.0, ⊎_elim (λ all. inl (tt, all.1)) inr enough.1)

module _ {A K : Type 0} (grows : K → K → List A → Type 0) (buffering : Buffering) (text : Texts A) (ending : Ending) (w : Work) where
  -- what it gave and lost rests only on which packets are given, and on what the report says of them
  pub ran_done : (old new : Devices K) (head : List (Piece A)) (done : CountedRun) (texts : Texts ℕ) → texts.given ≡ text.given → texts.remark ≡ text.remark
      → Ran grows buffering text ending w head old new done.records (option_map (λ job. job.work) done.kept) done.totals
      → IsDone texts ending w done
  ran_done old new head done texts given remark r =
      (r.read, untold ending w new.left r.read r.enough, r.outcome.count_is, r.outcome.kept_is, rw (given, remark) r.outcome.totals_is)

-- splitting did this
abbrev SplitRan : Ending → Work → (old new : Devices (Option (ℕ → List ℕ))) → CountedRun → Type 0
SplitRan ending w old new d = Ran Shelves shelf_buffering shelf_text ending w [] old new d.records (option_map (λ job. job.work) d.kept) d.totals

-- So of splitting, which gives each packet, too. What it ends with is what the run did.
pub split_ends : (ending : Ending) (w : Work) (old new : Devices (Option (ℕ → List ℕ))) (done : Result CountedRun RunFault) (ended : Result CountedRun ToolFault)
    → IfOk done (SplitRan ending w old new)
    → IfOk ended (λ d. done ≡ Ok d) → IfOk ended (IsDone folder_texts ending w)
split_ends ending w old new done (Err fault) ran same = tt
split_ends ending w old new done (Ok d) ran same =
    let r = subst (λ (result : Result CountedRun RunFault). IfOk result (SplitRan ending w old new)) same ran in
    ran_done Shelves shelf_buffering shelf_text ending w old new [] d folder_texts refl refl r

-- a run of a plan with a file for the checkpoint keeps a job
file_with : (name : Option (List ℕ)) (stop : Option ℕ) (w : Work) (kept : Option JobState) → option_map (λ job. job.work) kept ≡ kept_of (ending_with name stop) w
    → requested_checkpoint name kept ≡ name
file_with None stop w None is = refl
file_with None stop w (Some job) is = refl
file_with (Some name) None w None is = cc
file_with (Some name) None w (Some job) is = refl
file_with (Some name) (Some records) w None is = cc
file_with (Some name) (Some records) w (Some job) is = refl

-- so the file of the plan's checkpoint takes it
pub file_of_done : (p : Plan) (settings : Rules) (job : JobInputs) (done : CountedRun) → HasDone p settings job done → requested_checkpoint p.checkpoint done.kept ≡ p.checkpoint
file_of_done p settings job done (read, enough, count_is, kept_is, totals_is) = file_with p.checkpoint p.stop_after _ done.kept kept_is

-- ---- what is found

-- what a job gives of a packet is what the plan asks for
texts_asked : (p : Plan) (to : Destination) → IsDestination p to → AreTexts p.action p.binary p.apid (texts_of to)
texts_asked p (Output Octets) is = rw is refl
texts_asked p (Output Line) (is, flag) = rw (is, flag) refl
texts_asked p (Output Binary) (is, flag) = rw (is, flag) refl
texts_asked p (Output (Row definition application form)) (is, named, asked, flag) = rw (is, asked, flag) (definition, refl)
texts_asked p (Folder dir) (is, named) = rw is refl

pub found_of_done : (p : Plan) (settings : Rules) (job : JobInputs) (done : CountedRun) (f : Found)
    → IsJob p settings job → HasDone p settings job done → FindsDone done f → Finds p f
found_of_done p settings job done (found.Packets records totals) (to, resumed, read_back) (read, enough, count_is, kept_is, totals_is) is =
    (settings, texts_of job.destination, job.resumed, read, texts_asked p job.destination to, enough, is ∙ totals_is)
found_of_done p settings job done _ asked h is = absurd is

pub found_of_shown : (overview : Overview) (rules : Rules) (left_old left_new out_old out_new : Option (List ℕ)) (f : Found)
    → HasShown overview rules left_old left_new out_old out_new f → IsListFound overview f
found_of_shown Summary rules left_old left_new out_old out_new (found.Summary summed) h = (rules, h.lines.read, h.good_is, h.losses_is)
found_of_shown Summary rules left_old left_new out_old out_new _ h = absurd h
found_of_shown Frames rules left_old left_new out_old out_new (found.Frames listed) h = (rules.layout, h.lines.read, h.good_is)
found_of_shown Frames rules left_old left_new out_old out_new _ h = absurd h

-- a list or a summary finds what is found of the plan that asks for it
pub list_found : (p : Plan) (overview : Overview) (f : Found) → IsOverview p overview → IsListFound overview f → Finds p f
list_found p Summary (found.Summary summed) is h = (is, h)
list_found p Summary _ is h = absurd h
list_found p Frames (found.Frames listed) is h = (is, h)
list_found p Frames _ is h = absurd h
