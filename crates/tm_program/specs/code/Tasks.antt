-- What a run does, as its plan asks for it.
use Rattle.std.specs.Prelude.{◌≡◌, ℕ, true, false, Some, IfSome, IsSome, is_some}
use Rattle.tm_arguments.specs.declared.request.Action.TheVariants as act
use Rattle.tm_arguments.specs.declared.request.Plan.{Plan}
use Rattle.tm_output.specs.declared.command.Command.TheVariants as command
use Rattle.tm_output.specs.Pieces.{Texts, rows_text, text_of}
use Rattle.tm_program.specs.code.Faults.{IsResumed}
use Rattle.tm_program.specs.Found.{row_form}
use Rattle.tm_program.specs.declared.task.Destination.{Destination}
use Rattle.tm_program.specs.declared.task.Destination.TheVariants.{Output, Folder}
use Rattle.tm_program.specs.declared.task.JobInputs.{JobInputs}
use Rattle.tm_program.specs.declared.task.Overview.{Overview}
use Rattle.tm_program.specs.declared.task.Overview.TheVariants.{Frames, Summary}
use Rattle.tm_program.specs.declared.task.PacketForm.{PacketForm}
use Rattle.tm_program.specs.declared.task.PacketForm.TheVariants.{Octets, Line, Binary, Row}
use Rattle.tm_program.specs.declared.task.Task.{Task}
use Rattle.tm_program.specs.declared.task.Task.TheVariants as task
use Rattle.tm_settings.specs.Settings.{Rules}

-- ---- what is given of a packet

abbrev pub form_texts : PacketForm → Texts ℕ
form_texts Octets = text_of command.Extract
form_texts Line = text_of command.Packets
form_texts Binary = text_of command.BinaryPackets
form_texts (Row definition application form) = rows_text form definition application

-- files of a folder take octets
abbrev pub folder_texts : Texts ℕ
folder_texts = text_of command.Extract

abbrev pub texts_of : Destination → Texts ℕ
texts_of (Output form) = form_texts form
texts_of (Folder dir) = folder_texts

-- ---- what a plan asks for

abbrev pub IsForm : Plan → PacketForm → Type 0
IsForm p Octets = p.action ≡ act.Extract
IsForm p Line = (p.action ≡ act.Packets) × (p.binary ≡ false)
IsForm p Binary = (p.action ≡ act.Packets) × (p.binary ≡ true)
IsForm p (Row definition application form) =
    (p.action ≡ act.Fields) × IsSome p.definition × (p.apid ≡ Some application) × (form ≡ row_form p.binary)

-- packets go to files of the plan's folder if and only if it splits
abbrev pub IsDestination : Plan → Destination → Type 0
IsDestination p (Output form) = IsForm p form
IsDestination p (Folder dir) = (p.action ≡ act.Split) × (p.dir ≡ Some dir.now)

-- a job goes on from that of the plan's checkpoint, which is read with these settings, if and only if the plan names one
abbrev pub IsJob : Plan → Rules → JobInputs → Type 0
IsJob p settings job = IsDestination p job.destination × (is_some job.resumed ≡ is_some p.resume) × IfSome job.resumed (IsResumed settings)

abbrev pub IsOverview : Plan → Overview → Type 0
IsOverview p Frames = p.action ≡ act.Frames
IsOverview p Summary = p.action ≡ act.Summary

abbrev pub IsTask : Plan → Rules → Task → Type 0
IsTask p settings (task.Overview overview) = IsOverview p overview
IsTask p settings (task.Job job) = IsJob p settings job
