-- How a summary counts the records of a recording and its closed end: for private contracts.
use Rattle.std.specs.Prelude.{◌≡◌, ◌≤◌, ℕ, List, ◌++◌, length, Option, Result, MatchResult}
use Rattle.tm_frame.specs.Layout.{record_length_of}
use Rattle.tm_packet.specs.Merge as sequence
use Rattle.tm_reassembly.specs.Items.{closing}
use Rattle.tm_reassembly.specs.Steps.{Progress, most_records}
use Rattle.tm_faults.specs.declared.run.RunFault.{RunFault}
use Rattle.tm_faults.specs.declared.run.RunFault.TheVariants.{TooMany}
use Rattle.tm_frame.specs.Rules.{Rules}
use Rattle.tm_output.specs.Faults.{CausedByDevice}
use Rattle.tm_output.specs.Outputs.{View}
use Rattle.tm_output.specs.Pieces.{noted_all}
use Rattle.tm_output.specs.Records.{HasReadAll}
use Rattle.tm_tool.specs.code.RecordLoop.{Refusing, Taking}
use Rattle.tm_summary.specs.SummaryNumbers.{SummaryNumbers, Tally, numbers_of}
use Rattle.tm_summary.specs.Tallies.{and_items, and_notes, notes_among, open_notes}
use Rattle.tm_summary.specs.declared.counting.Counting.{Counting}
use Rattle.tm_checkpoint.specs.Works.{Work, work_of}
use Rattle.tm_tool.specs.RecordingPieces.{items_of, worked}
use Rattle.tm_tool.specs.RunTotals.{good_frames}
use Rattle.tm_tool.specs.Summaries.{IsSummaryStop, tally_of}

-- with these records more
abbrev pub and_records : Work → Tally → List (List ℕ) → Tally
and_records w t rs = record {
  frames = t.frames ++ good_frames w.rules.layout rs;
  items = t.items ++ items_of w rs;
  notes = t.notes ++ notes_among w.entries (items_of w rs);
}

-- with a closed end more, where this many octets are left
abbrev pub and_end : Work → Tally → ℕ → Tally
and_end w t rest =
    and_notes (and_items t w.entries (closing w.state rest)) (open_notes (sequence.unclosed 0 (noted_all w.entries (closing w.state rest))))

-- records were counted on top of all that was counted before, in the numbers of a tally
abbrev pub CountedRecords : {N : Type 0} → (Tally → N) → Work → List (List ℕ) → N → N → Type 0
CountedRecords numbers w rs before now = (t : Tally) → before ≡ numbers t → now ≡ numbers (and_records w t rs)

-- what is known while records are counted
pub record CountingState : Type 0 where
  pub work : Work
  pub numbers : SummaryNumbers

abbrev pub counting_state : Progress → Counting → CountingState
counting_state p counting = record { work = work_of p counting.tracker.now; numbers = counting.counts.now }

-- records are counted, or one is refused because it is one too many
abbrev pub CountsRecords : Taking CountingState
CountsRecords old rs new = (new.work ≡ worked old.work rs) × CountedRecords numbers_of old.work rs old.numbers new.numbers

abbrev pub RefusesCount : Refusing CountingState
RefusesCount old octets new fault = (fault ≡ TooMany) × (old.work.state.records ≡ most_records)

-- what no call changes: the rules, and the references of a sink that counts
pub record CountingNames : Type 0 where
  pub rules : Rules
  pub tracker : ℕ
  pub counts : ℕ

abbrev pub counting_names : Progress → Counting → CountingNames
counting_names p counting = record { rules = p.rules; tracker = counting.tracker.ghost_name; counts = counting.counts.ghost_name }

-- a closed end is counted, where there is a place for each channel and application
abbrev pub CountsEnd : Work → SummaryNumbers → ℕ → SummaryNumbers → Type 0
CountsEnd w before rest now = (t : Tally) → before ≡ numbers_of t → length w.entries ≤ 16384 → now ≡ numbers_of (and_end w t rest)

module _ (w : Work) (left_old left_new : Option (List ℕ)) where
  -- all was read and counted, down to the closed end; and this many records were read
  pub record HasSummed (now : SummaryNumbers) (count : ℕ) : Type 0 where
    pub read : List (List ℕ)
    pub rest : List ℕ
    pub all : HasReadAll (record_length_of w.rules.layout) left_old left_new read rest
    pub counted : now ≡ numbers_of (tally_of w read (length rest))
    pub count_is : count ≡ length read

  -- how counting ended: where it stopped, the summary stops, and its output stays as it is
  abbrev pub SumsUp : ℕ → ℕ → SummaryNumbers → Result ℕ RunFault → Type 0
  SumsUp failures_old failures_new now r = MatchResult r (λ count. HasSummed now count × (failures_new ≡ failures_old))
      (λ fault. (v : View (Option (List ℕ))) → IsSummaryStop w.rules left_old left_new v v fault × CausedByDevice failures_old failures_new v.out_failures v.out_failures fault)
