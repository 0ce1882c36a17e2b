-- Why a call that feeds an open recording leaves octets.
use Rattle.std.specs.Prelude.{◌≡◌, ◌-◌, ℕ}
use Rattle.tm_frame.specs.Layout.{most_records}
use Rattle.tm_feed.specs.Jobs.{IsFull, MakesWhole}
use Rattle.tm_feed.specs.States.{FeedState}
use Rattle.tm_feed.specs.declared.job.Fed.{Fed}
use Rattle.tm_feed.specs.declared.job.StopReason.{StopReason}
use Rattle.tm_feed.specs.declared.job.StopReason.TheVariants.{Room, TooMany}

-- of `count` octets those that are left make a record whole, and that one can't be taken
abbrev pub LeavesRecord : FeedState → ℕ → Fed → ℕ → ℕ → StopReason → Type 0
LeavesRecord new count did event_room octet_room Room =
    MakesWhole new (count - did.used)
    × IsFull new.work.rules.max_packet new.chosen.longest event_room did.events octet_room did.octets
LeavesRecord new count did event_room octet_room TooMany =
    MakesWhole new (count - did.used) × (new.work.state.records ≡ most_records)
LeavesRecord new count did event_room octet_room _ = ⊥
