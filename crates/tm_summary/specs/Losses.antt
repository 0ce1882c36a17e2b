-- What the numbers of a summary tell at once: whether something was lost, and whether a chosen channel came.
use Rattle.std.specs.Prelude.{ℕ, Bool, ◌||◌, ◌&&◌, nat_lt, List, slice_index_or}
use Rattle.std.specs.List.{list_any}
use Rattle.tm_frame.specs.Channels.{is_chosen}
use Rattle.tm_summary.specs.declared.application.ApplicationCounts.{ApplicationCounts}
use Rattle.tm_summary.specs.declared.channel.ChannelCounts.{ChannelCounts}
use Rattle.tm_summary.specs.Adding.{no_channel}
use Rattle.tm_summary.specs.SummaryNumbers.{SummaryNumbers, below}

-- a channel lost frames or octets
abbrev pub channel_lost : ChannelCounts → Bool
channel_lost c = nat_lt 0 c.gaps || nat_lt 0 c.dropped

-- the sequence counts of a channel and application tell a loss
abbrev pub application_lost : ApplicationCounts → Bool
application_lost a = nat_lt 0 a.gaps || (nat_lt 0 a.broken || nat_lt 0 a.strays)

-- one of the numbers of bad frames, gaps, dropped parts, sequence gaps, broken groups and strays isn't 0
abbrev pub tells_loss : SummaryNumbers → Bool
tells_loss n =
    nat_lt 0 n.bad || (nat_lt 0 n.master_gaps || (list_any channel_lost n.channels || list_any application_lost n.applications))

-- the channel is chosen and had a good frame
abbrev pub came_at : List Bool → List ChannelCounts → ℕ → Bool
came_at chosen channels channel = is_chosen chosen channel && nat_lt 0 (slice_index_or channels channel no_channel).frames

-- a chosen channel had a good frame
abbrev pub has_good_frame : List Bool → SummaryNumbers → Bool
has_good_frame chosen n = list_any (came_at chosen n.channels) (below 8)
