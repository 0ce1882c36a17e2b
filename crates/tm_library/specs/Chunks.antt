-- What a call gives of a chunk of a recording: of the octets that follow the records that its job has done.
use Rattle.std.specs.Prelude.{◌≡◌, ◌≤◌, ◌+◌, ◌*◌, ◌/◌, nat_lt, ℕ, Bool, true, false, List, [], ◌∷◌, ◌++◌, length, take, Option, None, Some, Result, Ok, IsUtf8}
use Rattle.toml.specs.Parse.{parse_document}
use Rattle.std.specs.List.{concat}
use Rattle.tm_frame.specs.declared.layout.LayoutParts.{LayoutParts}
use Rattle.tm_frame.specs.Layout.{record_length_of}
use Rattle.tm_frame.specs.Rules.{Rules}
use Rattle.tm_fields.specs.Binary.{row_length}
use Rattle.tm_fields.specs.Reading.{definition_of}
use Rattle.tm_fields.specs.declared.field.Field.{Field}
use Rattle.tm_settings.specs.Settings.{settings_from}
use Rattle.tm_faults.specs.declared.run.CheckpointFault.{CheckpointFault}
use Rattle.tm_checkpoint.specs.Checkpoints.{checkpoint_of, resumed}
use Rattle.tm_checkpoint.specs.Works.{JobState, Work, new_job}
use Rattle.tm_output.specs.declared.command.Command.{Command}
use Rattle.tm_output.specs.declared.command.Command.TheVariants.{Extract, Fields, BinaryFields}
use Rattle.tm_output.specs.declared.command.Ending.{Ending}
use Rattle.tm_output.specs.declared.command.Ending.TheVariants.{Close, Keep}
use Rattle.tm_tool.specs.Listing.{end_lines, record_lines}
use Rattle.tm_output.specs.Outputs.{Piece, line_pieces, outs, reports}
use Rattle.tm_output.specs.Pieces.{text_of}
use Rattle.tm_output.specs.Records.{record_count, records, rest_of}
use Rattle.tm_output.specs.declared.totals.Totals.{Totals}
use Rattle.tm_summary.specs.Losses.{has_good_frame, tells_loss}
use Rattle.tm_tool.specs.HeadPieces.{head_pieces}
use Rattle.tm_tool.specs.RecordingPieces.{pieces_after, worked}
use Rattle.tm_tool.specs.Runs.{kept_of}
use Rattle.tm_tool.specs.RunTotals.{run_totals}
use Rattle.tm_tool.specs.Summaries.{summary}
use Rattle.tm_tool.specs.SummaryNumbers.{summary_numbers}
use Rattle.tm_library.specs.declared.request.Answer.{Answer}
use Rattle.tm_library.specs.declared.request.Wanted.{Wanted}
use Rattle.tm_library.specs.declared.request.Wanted.TheVariants.{Packets, Frames}

-- ---- where a call begins

-- the job that a checkpoint says: a new one where there are no octets
abbrev pub job_in : Rules → List ℕ → Result JobState CheckpointFault
job_in rules [] = Ok (new_job rules)
job_in rules (octet ∷ octets) = resumed rules (octet ∷ octets)

-- the most octets that settings, a definition or a checkpoint may have
abbrev pub input_limit : ℕ
input_limit = 1048576

-- the octets say these settings
abbrev pub AreSettings : List ℕ → Rules → Type 0
AreSettings settings rules = (length settings ≤ input_limit) × IsUtf8 settings × (settings_from (parse_document settings) ≡ Ok rules)

-- the octets say these fields
abbrev pub AreFields : List ℕ → List Field → Type 0
AreFields definition fields = (length definition ≤ input_limit) × (definition_of definition ≡ Ok fields)

-- the octets of a checkpoint say this job
abbrev pub Begins : Rules → List ℕ → JobState → Type 0
Begins rules checkpoint job = (length checkpoint ≤ input_limit) × (job_in rules checkpoint ≡ Ok job)

-- ---- what it gives

-- the octets of a record
abbrev pub size_of : Work → ℕ
size_of w = record_length_of w.rules.layout

-- the last call closes the recording, any other keeps its job
abbrev pub chunk_ending : Bool → Ending
chunk_ending true = Close
chunk_ending false = Keep

-- the pieces of a chunk: of its whole records, and after the last chunk those of the closed end
abbrev pub chunk_pieces : Command → Bool → JobState → List ℕ → List (Piece ℕ)
chunk_pieces command last job octets =
    head_pieces command job.fresh
    ++ pieces_after (text_of command) (chunk_ending last) job.work (records (size_of job.work) octets) (length (rest_of (size_of job.work) octets))

-- the lines of the whole records of octets, the first being record `first`, and after the last chunk that of a rest
abbrev pub lines_from : LayoutParts → ℕ → Bool → List ℕ → List (List ℕ)
lines_from layout first last octets =
    record_lines layout first (records (record_length_of layout) octets)
    ++ end_lines (chunk_ending last) (first + length (records (record_length_of layout) octets)) (length (rest_of (record_length_of layout) octets))

-- the lines of a chunk's frames, numbered after the records that are done
abbrev pub frame_lines : Bool → JobState → List ℕ → List (List ℕ)
frame_lines last job octets = lines_from job.work.rules.layout job.work.state.records last octets

-- what is wanted of a chunk
abbrev pub given_pieces : Wanted → Bool → JobState → List ℕ → List (Piece ℕ)
given_pieces (Packets command) last job octets = chunk_pieces command last job octets
given_pieces Frames last job octets = line_pieces (frame_lines last job octets)

-- what a chunk gives and loses by a command, in numbers
abbrev pub totals_by : Command → Bool → JobState → List ℕ → Totals
totals_by command last job octets =
    run_totals (text_of command) (chunk_ending last) job.work (records (size_of job.work) octets) (length (rest_of (size_of job.work) octets))

-- likewise by what is wanted: a list tells what `Extract` does
abbrev pub chunk_totals : Wanted → Bool → JobState → List ℕ → Totals
chunk_totals (Packets command) last job octets = totals_by command last job octets
chunk_totals Frames last job octets = totals_by Extract last job octets

-- the job after the whole records of a chunk
abbrev pub job_behind : JobState → List ℕ → JobState
job_behind job octets = record { work = worked job.work (records (size_of job.work) octets); fresh = false }

-- the checkpoint of a work that is kept
abbrev pub kept_octets : Option Work → List ℕ
kept_octets None = []
kept_octets (Some w) = checkpoint_of w

-- the checkpoint after a chunk; there is none after the last
abbrev pub checkpoint_behind : Bool → JobState → List ℕ → List ℕ
checkpoint_behind last job octets = kept_octets (kept_of (chunk_ending last) (job_behind job octets).work)

-- of so many octets those of whole records are used, or all where they are the last
abbrev pub used_octets : Bool → ℕ → ℕ → ℕ
used_octets true size octets = octets
used_octets false size octets = octets / size * size

-- so many octets belong into a room, and they stand there in front if it is large enough
abbrev pub Holds : List ℕ → ℕ → List ℕ → Type 0
Holds room n octets = (n ≡ length octets) × (n ≤ length room → take n room ≡ octets)

-- how many octets each row in the binary form has by the definition that a command reads, 0 where it reads none
abbrev pub row_length_by : Command → ℕ
row_length_by (Fields definition application) = row_length definition.now
row_length_by (BinaryFields definition application) = row_length definition.now
row_length_by _ = 0

-- likewise by what is wanted
abbrev pub row_length_of : Wanted → ℕ
row_length_of (Packets command) = row_length_by command
row_length_of Frames = 0

-- what a call gives of a chunk, from a job on, into three rooms
pub record IsAnswer (wanted : Wanted) (last : Bool) (job : JobState) (octets : List ℕ) (answer : Answer) (out report checkpoint : List ℕ) : Type 0 where
  pub out_holds : Holds out answer.out (outs (given_pieces wanted last job octets))
  pub report_holds : Holds report answer.report (reports (given_pieces wanted last job octets))
  pub checkpoint_holds : Holds checkpoint answer.checkpoint (checkpoint_behind last job octets)
  pub records_are : answer.records ≡ job.work.state.records + length (records (size_of job.work) octets)
  pub used_are : answer.used ≡ used_octets last (size_of job.work) (length octets)
  pub good_is : answer.has_good_frame ≡ nat_lt 0 (chunk_totals wanted last job octets).good
  pub losses_is : answer.has_losses ≡ (chunk_totals wanted last job octets).has_losses
  pub row_length_is : answer.row_length ≡ row_length_of wanted

-- what a call gives of the summary of a whole recording
pub record IsSummary (rules : Rules) (octets : List ℕ) (answer : Answer) (out : List ℕ) : Type 0 where
  pub out_holds : Holds out answer.out (concat (summary rules octets))
  pub report_is : answer.report ≡ 0
  pub checkpoint_is : answer.checkpoint ≡ 0
  pub records_are : answer.records ≡ record_count (record_length_of rules.layout) octets
  pub used_are : answer.used ≡ length octets
  pub good_is : answer.has_good_frame ≡ has_good_frame rules.channels (summary_numbers rules octets)
  pub losses_is : answer.has_losses ≡ tells_loss (summary_numbers rules octets)
  pub row_length_is : answer.row_length ≡ 0
