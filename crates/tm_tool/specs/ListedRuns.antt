-- A listing by whose records a job goes on. The lines are all that is written.
use Rattle.std.specs.Prelude.{false, ◌≡◌, ◌⊎◌, ℕ, List, [], option_map, Option, None, Result, IfErr, IfOk, IfSome}
use Rattle.std.specs.Io.KnownBytes.{Appends}
use Rattle.tm_faults.specs.declared.run.RunFault.{RunFault}
use Rattle.tm_faults.specs.declared.run.RunFault.TheVariants.{NoMemory}
use Rattle.tm_checkpoint.specs.Works.{JobState, Work}
use Rattle.tm_output.specs.declared.command.Command.TheVariants.{Extract}
use Rattle.tm_output.specs.declared.command.Ending.{Ending}
use Rattle.tm_output.specs.Outputs.{View, octets_buffering, view}
use Rattle.tm_output.specs.Pieces.{text_of}
use Rattle.tm_tool.specs.declared.job.CountedRun.{CountedRun}
use Rattle.tm_tool.specs.Courses.{Devices, DevicesCounted, HasRun, IsStoppedAt, RecordCourse, StopsWithoutMemory, devices_at}
use Rattle.tm_tool.specs.Listing.{listing_course}
use Rattle.tm_tool.specs.Runs.{IsSoundWork, Ran}

-- two outputs that tell nothing
abbrev pub nowhere : View (Option (List ℕ))
nowhere = view None None 0 0

-- the lines of the records after those that are done
abbrev pub lines_course : Ending → Work → RecordCourse ℕ
lines_course ending w = listing_course w.rules.layout w.state.records ending

pub record ListsWithJob (ending : Ending) (job : JobState) (old new : Devices (Option (List ℕ))) (result : Result CountedRun RunFault) : Type 0 where
  pub sound : IsSoundWork job.work
  -- with Ok just the lines of what was read were written; what was read is what the ending reads
  pub listed : IfOk result (λ done. HasRun Appends octets_buffering (lines_course ending job.work) old.left new.left old.outputs new.outputs
      (λ count rs rest. done.records ≡ count))
  -- the job and the totals are those of a run of `Extract` over the same octets
  pub ran : IfOk result (λ done. Ran Appends octets_buffering (text_of Extract) ending job.work [] (devices_at old.left old.failures nowhere)
      (devices_at new.left new.failures nowhere) done.records (option_map (λ j. j.work) done.kept) done.totals)
  pub fresh : IfOk result (λ done. IfSome done.kept (λ j. j.fresh ≡ false))
  -- after a fault there is one place up to which lines were written
  pub stopped : IfErr result (λ fault. IsStoppedAt Appends octets_buffering (lines_course ending job.work) old.left new.left old.outputs new.outputs fault
      ⊎ ((fault ≡ NoMemory) × StopsWithoutMemory Appends octets_buffering (lines_course ending job.work) old.left new.left old.outputs new.outputs))
  -- a device is blamed only where a call of it failed
  pub counts : DevicesCounted old new result
