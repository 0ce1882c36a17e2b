-- It is known of the channels before.
use Rattle.std.proofs.Common.{◌≡◌}
use Rattle.std.specs.List.{list_any}
use Rattle.tm_summary.specs.Losses.{came_at}
use Rattle.tm_summary.specs.SummaryNumbers.{below}
use Rattle.tm_summary.proofs.counts.Counts.has_good_frame.Given as goal

abbrev pub invariant-loop-channel : goal.invariant-loop-channel
invariant-loop-channel l = l.came ≡ list_any (came_at l.chosen l.self.channels) (below l.channel)
