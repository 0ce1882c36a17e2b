-- Where the run of a plan ends, and what is done then.
use Rattle.std.specs.Prelude.{◌≡◌, ◌+◌, ℕ, List, length, Option, Some, None, IfSome, option_map}
use Rattle.tm_checkpoint.specs.Checkpoints.{checkpoint_of}
use Rattle.tm_files.specs.declared.files.Replaced.{Replaced}
use Rattle.tm_files.specs.code.Replacements.{replaced_octets}
use Rattle.tm_checkpoint.specs.Works.{Work}
use Rattle.tm_output.specs.Pieces.{Texts}
use Rattle.tm_program.specs.Found.{IsOfList, IsOfSummary, ending_of, totals_over, work_from}
use Rattle.tm_program.specs.declared.outcome.Found.{Found}
use Rattle.tm_program.specs.declared.outcome.Found.TheVariants as found
use Rattle.tm_tool.specs.RecordingPieces.{records_for, further, worked}
use Rattle.tm_tool.specs.Runs.{IsEnough, kept_of}
use Rattle.tm_tool.specs.declared.job.CountedRun.{CountedRun}
use Rattle.tm_settings.specs.Settings.{Rules}
use Rattle.tm_output.specs.declared.command.Ending.{Ending}
use Rattle.tm_tool.specs.Listing.{IsListing}
use Rattle.tm_tool.specs.SummaryNumbers.{IsSummed}
use Rattle.tm_program.specs.code.Tasks.{texts_of}
use Rattle.tm_program.specs.declared.task.JobInputs.{JobInputs}
use Rattle.tm_program.specs.declared.task.Overview.{Overview}
use Rattle.tm_program.specs.declared.task.Overview.TheVariants.{Frames, Summary}
use Rattle.tm_program.specs.declared.task.Task.{Task}
use Rattle.tm_program.specs.declared.task.Task.TheVariants as task
use Rattle.tm_arguments.specs.declared.request.Plan.{Plan}

-- So much is done by a run from this work, whatever its source tells. There are octets that the ending reads, the records that are
-- done among them. Where the ending keeps a job, it is the one after those of their records that it takes. And this is what the run
-- gave and lost, in numbers.
abbrev pub IsDone : Texts ℕ → Ending → Work → CountedRun → Type 0
IsDone text ending w done = (read : List ℕ) × IsEnough ending w None read
    × (done.records ≡ w.state.records + length (records_for ending (further w read)))
    × (option_map (λ job. job.work) done.kept ≡ kept_of ending (worked w (records_for ending (further w read))))
    × (done.totals ≡ totals_over text ending w read)

-- So much is done by the job of a plan, with these settings.
abbrev pub HasDone : Plan → Rules → JobInputs → CountedRun → Type 0
HasDone p settings job done = IsDone (texts_of job.destination) (ending_of p) (work_from settings job.resumed) done

-- so much is done by the task of a plan, if it is a job
abbrev pub IsTaskDone : Plan → Rules → Task → Option CountedRun → Type 0
IsTaskDone p settings (task.Job job) (Some done) = HasDone p settings job done
IsTaskDone p settings (task.Job job) None = ⊥
IsTaskDone p settings (task.Overview overview) done = done ≡ None

-- what is found is what the run gave and lost
abbrev pub FindsDone : CountedRun → Found → Type 0
FindsDone done (found.Packets records totals) = totals ≡ done.totals
FindsDone done _ = ⊥

-- the file that takes the checkpoint: that of the plan, where a job was kept
abbrev pub requested_checkpoint : {J : Type 0} → Option (List ℕ) → Option J → Option (List ℕ)
requested_checkpoint name None = None
requested_checkpoint name (Some job) = name

-- the octets that replaced those of the file are the checkpoint of the job that was kept
abbrev pub HasCheckpoint : CountedRun → Replaced → Type 0
HasCheckpoint done replaced = IfSome done.kept (λ job. replaced_octets replaced ≡ checkpoint_of job.work)

-- a summary of what was read was written, or a list of its frames, and this was found
abbrev pub HasShown : Overview → Rules → (left_old left_new out_old out_new : Option (List ℕ)) → Found → Type 0
HasShown Summary rules left_old left_new out_old out_new (found.Summary summed) = IsSummed rules left_old left_new out_old out_new summed
HasShown Frames rules left_old left_new out_old out_new (found.Frames listed) = IsListing rules.layout left_old left_new out_old out_new listed
HasShown _ rules left_old left_new out_old out_new _ = ⊥

-- what a list or a summary of some recording finds
abbrev pub IsListFound : Overview → Found → Type 0
IsListFound Summary (found.Summary summed) = IsOfSummary summed
IsListFound Frames (found.Frames listed) = IsOfList listed
IsListFound _ _ = ⊥
