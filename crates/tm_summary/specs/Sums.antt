-- What adds up in a summary: the numbers of its lines, and what they add up to.
use Rattle.std.specs.Prelude.{ℕ, ◌-◌, ◌/◌, ◌<◌, ◌^◌, ◌==◌, List, filter, map, slice_index_or}
use Rattle.tm_summary.specs.declared.application.ApplicationCounts.{ApplicationCounts}
use Rattle.tm_summary.specs.declared.channel.ChannelCounts.{ChannelCounts}
use Rattle.tm_summary.specs.declared.channel.Loss.{Loss}
use Rattle.tm_summary.specs.Adding.{no_application, no_channel, no_loss}
use Rattle.tm_summary.specs.Lines.{application_keys, fault_places, loss_places}
use Rattle.tm_summary.specs.SummaryNumbers.{SummaryNumbers}

-- a number that did not stay at the greatest, so it is the count itself
abbrev pub IsBelowGreatest : ℕ → Type 0
IsBelowGreatest n = n < 2 ^ 64 - 1

-- the numbers of a channel
abbrev pub counts_on : ℕ → SummaryNumbers → ChannelCounts
counts_on channel n = slice_index_or n.channels channel no_channel

-- ---- the numbers of its lines, each that of the line at the same place

abbrev pub fault_counts : SummaryNumbers → List ℕ
fault_counts n = map (λ place. slice_index_or n.faults place 0) (fault_places n.faults)

abbrev pub losses_on : ℕ → SummaryNumbers → List Loss
losses_on channel n = (counts_on channel n).losses

abbrev pub loss_counts : ℕ → SummaryNumbers → List Loss
loss_counts channel n = map (λ place. slice_index_or (losses_on channel n) place no_loss) (loss_places (losses_on channel n))

-- those of the lines that name the channel
abbrev pub application_counts : ℕ → SummaryNumbers → List ApplicationCounts
application_counts channel n =
    map (λ key. slice_index_or n.applications key no_application) (filter (λ key. key / 2048 == channel) (application_keys n.applications))
