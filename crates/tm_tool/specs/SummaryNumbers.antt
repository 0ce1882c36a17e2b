-- The numbers of the summary of a recording.
use Rattle.std.specs.Prelude.{◌≡◌, ℕ, List, length, Option}
use Rattle.tm_frame.specs.Layout.{record_length_of}
use Rattle.tm_frame.specs.Rules.{Rules}
use Rattle.tm_output.specs.Records.{records, rest_of}
use Rattle.tm_summary.specs.SummaryNumbers.{SummaryNumbers, numbers_of}
use Rattle.tm_checkpoint.specs.Works.{new_job}
use Rattle.tm_summary.specs.Losses.{has_good_frame, tells_loss}
use Rattle.tm_tool.specs.declared.summary.Summed.{Summed}
use Rattle.tm_tool.specs.Summaries.{IsSummarized, tally_of}

-- those that the lines are made of: what a new job sees of the recording, closed at its end
unfoldable pub summary_numbers : Rules → List ℕ → SummaryNumbers
summary_numbers rules recording =
    numbers_of (tally_of (new_job rules).work (records (record_length_of rules.layout) recording) (length (rest_of (record_length_of rules.layout) recording)))

-- the lines of a summary were written, and this is what its numbers tell at once
pub record IsSummed (rules : Rules) (left_old left_new old new : Option (List ℕ)) (summed : Summed) : Type 0 where
  pub lines : IsSummarized rules left_old left_new old new summed.records
  pub good_is : summed.has_good_frame ≡ has_good_frame rules.channels (summary_numbers rules lines.read)
  pub losses_is : summed.has_losses ≡ tells_loss (summary_numbers rules lines.read)
