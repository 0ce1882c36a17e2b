-- What a job that is fed gives of a closed end: its items, and then the groups that are open, by rising key.
use Rattle.std.specs.Prelude.{◌≡◌, ◌<◌, ℕ, ◌/◌, ◌%◌, List, [], ◌++◌, length, map, drop}
use Rattle.tm_packet.specs.declared.tracker.Unclosed.{Unclosed}
use Rattle.tm_packet.specs.Merge.{unclosed}
use Rattle.tm_reassembly.specs.Items.{closing}
use Rattle.tm_feed.specs.declared.event.Event.{Event}
use Rattle.tm_feed.specs.declared.job.EndProgress.{EndProgress}
use Rattle.tm_feed.specs.declared.job.EndProgress.TheVariants as end
use Rattle.tm_feed.specs.declared.job.StopReason.{StopReason}
use Rattle.tm_feed.specs.declared.job.StopReason.TheVariants as stop
use Rattle.tm_feed.specs.Events.{note_event}
use Rattle.tm_feed.specs.Feeding.{events_of}
use Rattle.tm_feed.specs.Jobs.{StandsIn, events_most}
use Rattle.tm_feed.specs.States.{FeedState}

-- the event of a group that is open after this many records
abbrev pub unclosed_event : ℕ → Unclosed → Event
unclosed_event seen u = note_event seen (u.key / 2048) (u.key % 2048) u.note

-- the events of the groups that are open, from a key on
abbrev pub group_events : FeedState → ℕ → List Event
group_events job key = map (unclosed_event job.work.state.records) (unclosed key (drop key job.work.entries))

-- the events of the items of the closed end
abbrev pub closing_events : FeedState → List Event
closing_events job = events_of job.chosen 0 job.work.entries (closing job.work.state (length job.part))

-- the events that are still to be given
abbrev pub end_events_by : FeedState → EndProgress → List Event
end_events_by job end.Open = closing_events job ++ group_events job 0
end_events_by job (end.Groups key) = group_events job key
end_events_by job end.Told = []

abbrev pub end_events : FeedState → List Event
end_events job = end_events_by job job.end

-- a call gave this many of them, and the job is as it was but for how far its end is told
pub record GivesEnd (old new : FeedState) (count : ℕ) (events : List Event) : Type 0 where
  pub given : List Event
  pub gave : StandsIn events count given
  pub all : end_events old ≡ given ++ end_events new
  pub same : new ≡ record old { end = new.end }

-- a room of this many events is too small for what comes next of the end
abbrev pub IsSmallForEnd : EndProgress → ℕ → Type 0
IsSmallForEnd end.Open room = room < events_most
IsSmallForEnd (end.Groups key) room = room ≡ 0
IsSmallForEnd end.Told room = ⊥

-- Why it gave no more, in a room of this many events. All are given. Or the room is full of events. Or it is too small, and nothing was
-- given.
abbrev pub EndedBy : FeedState → FeedState → ℕ → ℕ → StopReason → Type 0
EndedBy old new count room stop.Done = new.end ≡ end.Told
EndedBy old new count room stop.Room = (count ≡ room) × (0 < count)
EndedBy old new count room stop.TooSmall = IsSmallForEnd old.end room × (new ≡ old) × (count ≡ 0)
EndedBy old new count room stop.TooMany = ⊥
EndedBy old new count room stop.Closed = ⊥
