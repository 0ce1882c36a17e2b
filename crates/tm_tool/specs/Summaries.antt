-- A summary of a recording: what it counts, its lines, and what was read and written when it ended.
use Rattle.std.specs.Prelude.{◌≡◌, ◌<◌, ℕ, List, [], ◌++◌, length, Option, IfSome}
use Rattle.std.specs.List.{concat}
use Rattle.std.specs.Io.KnownBytes.{Appends, Consumes, IsAtEnd}
use Rattle.tm_frame.specs.Layout.{most_records, record_length_of}
use Rattle.tm_frame.specs.Rules.{Rules}
use Rattle.tm_items.specs.Item.{Item}
use Rattle.tm_reassembly.specs.Items.{closing}
use Rattle.tm_faults.specs.declared.run.RunFault.{RunFault}
use Rattle.tm_faults.specs.declared.run.RunFault.TheVariants.{Read, Write, Report, ShortRecording, TooMany, NoMemory}
use Rattle.tm_tool.specs.Courses.{RecordCourse, StopsAtEnd, StopsAtRead, StopsAtTooMany}
use Rattle.tm_output.specs.Outputs.{AppendsCut, View, line_pieces, octets_buffering}
use Rattle.tm_output.specs.Records.{record_count, records, rest_of}
use Rattle.tm_summary.specs.Lines.{summary_lines}
use Rattle.tm_summary.specs.SummaryNumbers.{Tally, numbers_of}
use Rattle.tm_checkpoint.specs.Works.{new_job, Work}
use Rattle.tm_output.specs.declared.command.Ending.TheVariants.{Close}
use Rattle.tm_tool.specs.RecordingPieces.{items_of, worked}
use Rattle.tm_tool.specs.RunTotals.{run_tally}

-- the items of records and of the closed end after them, where this many octets are left
abbrev pub closed_items : Work → List (List ℕ) → ℕ → List Item
closed_items w rs rest = items_of w rs ++ closing (worked w rs).state rest

-- what a summary counts: what a run that closes the recording tells
abbrev pub tally_of : Work → List (List ℕ) → ℕ → Tally
tally_of w rs rest = run_tally Close w rs rest

-- the lines of a summary of records, as a new job sees them
abbrev pub lines_after : Rules → List (List ℕ) → ℕ → List (List ℕ)
lines_after rules rs rest = summary_lines rules.channels (length rs) (numbers_of (tally_of (new_job rules).work rs rest))

-- and of a recording
unfoldable pub summary : Rules → List ℕ → List (List ℕ)
summary rules recording =
    lines_after rules (records (record_length_of rules.layout) recording) (length (rest_of (record_length_of rules.layout) recording))

-- ---- what was read and written when a summary ended; of devices that don't tell their octets nothing is said

module _ (rules : Rules) (left_old left_new : Option (List ℕ)) where
  -- all was read, these octets; just the lines of their summary were written; and this is the number of their records
  pub record IsSummarized (old new : Option (List ℕ)) (count : ℕ) : Type 0 where
    pub read : List ℕ
    pub octets : Consumes left_old left_new read
    pub ended : IsAtEnd left_new
    pub written : Appends old new (concat (summary rules read))
    pub count_is : count ≡ record_count (record_length_of rules.layout) read

-- what a summary writes: its lines, after all records
abbrev pub summary_course : Rules → RecordCourse ℕ
summary_course rules = record {
  ending = Close;
  size = record_length_of rules.layout;
  done = 0;
  pieces = λ rs. [];
  next = λ rs one. [];
  at_end = λ rs rest. line_pieces (lines_after rules rs rest);
}

-- where a fault leaves the devices: nothing is written before all is read, no line takes memory, and without memory nothing is read
abbrev pub IsSummaryStop : Rules → Option (List ℕ) → Option (List ℕ) → View (Option (List ℕ)) → View (Option (List ℕ)) → RunFault → Type 0
IsSummaryStop rules left_old left_new old new Read =
    StopsAtRead Appends octets_buffering (summary_course rules) left_old left_new old new × (new ≡ old)
IsSummaryStop rules left_old left_new old new Write = StopsAtEnd Appends octets_buffering (summary_course rules) left_old left_new old new Write
IsSummaryStop rules left_old left_new old new Report = ⊥
IsSummaryStop rules left_old left_new old new ShortRecording = ⊥
IsSummaryStop rules left_old left_new old new TooMany =
    StopsAtTooMany Appends octets_buffering (summary_course rules) left_old left_new old new × (new ≡ old)
IsSummaryStop rules left_old left_new old new NoMemory = (left_new ≡ left_old) × (new ≡ old)

-- What a fault says of a recording that tells its octets. There is one place up to which the lines of its summary were written;
-- without memory nothing was; and it has more records than can be counted.
pub record SummaryStopped (rules : Rules) (old new : View (Option (List ℕ))) (fault : RunFault) (octets : List ℕ) : Type 0 where
  pub cut : AppendsCut Appends old new (line_pieces (summary rules octets))
  pub memory : fault ≡ NoMemory → new ≡ old
  pub too_many : fault ≡ TooMany → most_records < record_count (record_length_of rules.layout) octets

-- ---- what is said of the octets that were read holds for the whole recording

abbrev pub SumsUpAll : Rules → Type 0
SumsUpAll rules = (left_old left_new old new : Option (List ℕ)) (count : ℕ) → IsSummarized rules left_old left_new old new count →
    IfSome left_old (λ octets. Appends old new (concat (summary rules octets)) × (count ≡ record_count (record_length_of rules.layout) octets))

abbrev pub SumsUpToOnePlace : Rules → Type 0
SumsUpToOnePlace rules = (left_old left_new : Option (List ℕ)) (old new : View (Option (List ℕ))) (fault : RunFault) →
    0 < record_length_of rules.layout → IsSummaryStop rules left_old left_new old new fault → IfSome left_old (SummaryStopped rules old new fault)
