-- What a plan decides of files and streams.
use Rattle.std.specs.Prelude.{◌≡◌, ◌≢◌, ◌⊎◌, ℕ, Bool, true, false, List, Option, None, Some, is_some}
use Rattle.tm_faults.specs.declared.run.RunFault.TheVariants as run
use Rattle.tm_files.specs.declared.decisions.ReportTarget.{ReportTarget}
use Rattle.tm_files.specs.declared.decisions.ReportTarget.TheVariants as opening
use Rattle.tm_files.specs.declared.decisions.Recording.{Recording}
use Rattle.tm_files.specs.declared.decisions.Recording.TheVariants as recording
use Rattle.tm_files.specs.declared.decisions.Stream.{Stream}
use Rattle.tm_files.specs.declared.decisions.Stream.TheVariants as stream
use Rattle.tm_faults.specs.declared.program.ToolFault.{ToolFault}
use Rattle.tm_faults.specs.declared.program.ToolFault.TheVariants as tool
use Rattle.tm_arguments.specs.declared.request.Action.{Action}
use Rattle.tm_arguments.specs.declared.request.Action.TheVariants.{Frames, Split, Summary}
use Rattle.tm_arguments.specs.declared.request.Plan.{Plan}

-- the recording comes from the file that the plan names, and from standard input if and only if it names none
abbrev pub IsRecording : Plan → Recording → Type 0
IsRecording p recording.Input = p.recording ≡ None
IsRecording p (recording.File name) = p.recording ≡ Some name.now

-- the report's file begins empty if a new job begins, and is appended to if one is resumed; without a file the report goes to
-- standard error
abbrev pub IsReportTarget : Plan → ReportTarget → Type 0
IsReportTarget p (opening.New name) = (p.report ≡ Some name.now) × (p.resume ≡ None)
IsReportTarget p (opening.Append name) = (p.report ≡ Some name.now) × (is_some p.resume ≡ true)
IsReportTarget p opening.Errors = p.report ≡ None

-- packets or frames go to standard output
abbrev pub writes_output : Action → Bool
writes_output Split = false
writes_output _ = true

-- an action of a job, which has a report: all but a list of frames and a summary
abbrev pub is_job : Action → Bool
is_job Frames = false
is_job Summary = false
is_job _ = true

-- the report goes to standard error
abbrev pub writes_errors : Action → Option (List ℕ) → Bool
writes_errors action None = is_job action
writes_errors action (Some name) = false

-- the fault of a standard stream that can't be written
abbrev pub stream_fault_of : Stream → ToolFault
stream_fault_of stream.Output = tool.Run run.Write
stream_fault_of stream.Errors = tool.Run run.Report

-- a standard stream is closed to which the plan writes: standard output, or standard error where that takes the report
abbrev pub IsOfStreams : Plan → ToolFault → Type 0
IsOfStreams p fault = ((fault ≡ tool.Run run.Write) × (p.action ≢ Split)) ⊎ ((fault ≡ tool.Run run.Report) × (is_job p.action ≡ true) × (p.report ≡ None))
