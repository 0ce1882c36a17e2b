-- What a run that is done has found of its recording, whatever its source tells.
use Rattle.std.specs.Prelude.{◌≡◌, ℕ, Bool, if◌then◌else◌, List, length, Option, None, Some}
use Rattle.std.specs.List.{count_by}
use Rattle.tm_frame.specs.declared.layout.LayoutParts.{LayoutParts}
use Rattle.tm_frame.specs.Layout.{record_length_of}
use Rattle.tm_fields.specs.declared.field.Field.{Field}
use Rattle.tm_fields.specs.declared.rows.RowForm.{RowForm}
use Rattle.tm_fields.specs.declared.rows.RowForm.TheVariants.{Text, Binary}
use Rattle.tm_settings.specs.Settings.{Rules}
use Rattle.tm_checkpoint.specs.Works.{JobState, new_job, Work}
use Rattle.tm_output.specs.declared.command.Command.TheVariants.{BinaryPackets, Extract, Packets as Lines}
use Rattle.tm_output.specs.declared.command.Ending.{Ending}
use Rattle.tm_output.specs.declared.command.Ending.TheVariants.{Close, Keep, StopAfter}
use Rattle.tm_tool.specs.declared.listing.Listed.{Listed}
use Rattle.tm_output.specs.declared.totals.Totals.{Totals}
use Rattle.tm_tool.specs.Listing.{is_good_record}
use Rattle.tm_output.specs.Pieces.{Texts, rows_text, text_of}
use Rattle.tm_output.specs.Records.{records, rest_of}
use Rattle.tm_summary.specs.Losses.{has_good_frame, tells_loss}
use Rattle.tm_tool.specs.RecordingPieces.{further, records_for}
use Rattle.tm_tool.specs.Runs.{IsEnough}
use Rattle.tm_tool.specs.RunTotals.{run_totals}
use Rattle.tm_tool.specs.SummaryNumbers.{summary_numbers}
use Rattle.tm_tool.specs.declared.summary.Summed.{Summed}
use Rattle.tm_arguments.specs.declared.request.Action.{Action}
use Rattle.tm_arguments.specs.declared.request.Action.TheVariants.{Frames, Packets, Summary, Fields}
use Rattle.tm_arguments.specs.declared.request.Plan.{Plan}
use Rattle.tm_program.specs.declared.outcome.Found.{Found}
use Rattle.tm_program.specs.declared.outcome.Found.TheVariants as found
use Rattle.tm_program.specs.declared.outcome.ProgramOutcome.{ProgramOutcome}

-- ---- where the run of a plan begins and ends

-- with a file for the checkpoint or none, and a number of records or none
abbrev pub ending_with : Option (List ℕ) → Option ℕ → Ending
ending_with None stop = Close
ending_with (Some name) None = Keep
ending_with (Some name) (Some records) = StopAfter records

abbrev pub ending_of : Plan → Ending
ending_of p = ending_with p.checkpoint p.stop_after

-- the work of the job that is resumed, or else of a new one
abbrev pub work_from : Rules → Option JobState → Work
work_from settings None = (new_job settings).work
work_from settings (Some job) = job.work

-- ---- what it gives

-- the form of rows, by the flag `--binary`
abbrev pub row_form : Bool → RowForm
row_form binary = if binary then Binary else Text

-- These are the texts of a packet, by the action, the flag `--binary` and the application. `fields` gives rows by some definition, and of
-- an application that is named. Octets are given where there are no lines and no rows.
abbrev pub AreTexts : Action → Bool → Option ℕ → Texts ℕ → Type 0
AreTexts Fields binary (Some application) text = (fields : List Field) × (text ≡ rows_text (row_form binary) fields application)
AreTexts Fields binary None text = ⊥
AreTexts Packets binary application text = text ≡ (if binary then text_of BinaryPackets else text_of Lines)
AreTexts _ binary application text = text ≡ text_of Extract

-- what a run gave and lost, from this work, where it read these octets
abbrev pub totals_over : Texts ℕ → Ending → Work → List ℕ → Totals
totals_over text ending w read =
    run_totals text ending w (records_for ending (further w read)) (length (rest_of (record_length_of w.rules.layout) read))

-- There are octets that the run of the plan reads, with some settings, from some job or none: this is what it gave and lost by its texts.
abbrev pub HasTotals : Plan → Totals → Type 0
HasTotals p totals = (settings : Rules) × (text : Texts ℕ) × (resumed : Option JobState) × (read : List ℕ)
    × AreTexts p.action p.binary p.apid text
    × IsEnough (ending_of p) (work_from settings resumed) None read
    × (totals ≡ totals_over text (ending_of p) (work_from settings resumed) read)

-- ---- what it found

-- of some recording, a list knows how many of its records are good frames
abbrev pub IsOfList : Listed → Type 0
IsOfList listed = (layout : LayoutParts) × (read : List ℕ)
    × (listed.good ≡ count_by (is_good_record layout) (records (record_length_of layout) read))

-- of some recording, a summary knows what its numbers tell
abbrev pub IsOfSummary : Summed → Type 0
IsOfSummary summed = (settings : Rules) × (read : List ℕ)
    × (summed.has_good_frame ≡ has_good_frame settings.channels (summary_numbers settings read))
    × (summed.has_losses ≡ tells_loss (summary_numbers settings read))

-- so does the run of a plan, and a job knows what it gave and lost
abbrev pub Finds : Plan → Found → Type 0
Finds p (found.Frames listed) = (p.action ≡ Frames) × IsOfList listed
Finds p (found.Summary summed) = (p.action ≡ Summary) × IsOfSummary summed
Finds p (found.Packets records totals) = HasTotals p totals

-- so of a plan whose status may say what was lost
abbrev pub HasFound : Plan → ProgramOutcome → Type 0
HasFound p outcome = (outcome.strict ≡ p.strict) × Finds p outcome.found
