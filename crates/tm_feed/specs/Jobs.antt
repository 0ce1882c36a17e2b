-- What a job that is fed gives of the octets that come next.
use Rattle.std.specs.Prelude.{◌≡◌, ◌≢◌, ◌<◌, ◌≤◌, ◌⊎◌, ℕ, ◌+◌, ◌-◌, ◌*◌, ◌==◌, if◌then◌else◌, Bool, List, [], ◌++◌, length, take, true, replicate, Result, Ok, Err}
use Rattle.tm_frame.specs.Layout.{most_records, record_length_of}
use Rattle.tm_faults.specs.declared.run.CheckpointFault.{CheckpointFault}
use Rattle.tm_checkpoint.specs.Works.{JobState, Work}
use Rattle.tm_output.specs.Records.{records, rest_of}
use Rattle.tm_tool.specs.RecordingPieces.{items_of, worked}
use Rattle.tm_feed.specs.declared.event.Event.{Event}
use Rattle.tm_feed.specs.declared.job.EndProgress.TheVariants.{Open}
use Rattle.tm_feed.specs.declared.job.Fed.{Fed}
use Rattle.tm_feed.specs.declared.job.StopReason.{StopReason}
use Rattle.tm_feed.specs.declared.job.StopReason.TheVariants.{Done, Room, TooSmall, TooMany, Closed}
use Rattle.tm_feed.specs.Feeding.{events_of, packed_octets}
use Rattle.tm_feed.specs.States.{Chosen, FeedState}

-- the octets of a record
abbrev pub record_size : Work → ℕ
record_size w = record_length_of w.rules.layout

-- the octets so far of the next record, and more after them
abbrev pub octets_so_far : FeedState → List ℕ → List ℕ
octets_so_far job octets = job.part ++ octets

-- the records that they make whole
abbrev pub whole_records : FeedState → List ℕ → List (List ℕ)
whole_records job octets = records (record_size job.work) (octets_so_far job octets)

-- the job after more octets
abbrev pub fed : FeedState → List ℕ → FeedState
fed job octets = record {
  work = worked job.work (whole_records job octets);
  part = rest_of (record_size job.work) (octets_so_far job octets);
  chosen = job.chosen;
  end = job.end;
}

-- the events that more octets give, from this place of the room of octets on
abbrev pub fed_events : ℕ → FeedState → List ℕ → List Event
fed_events at job octets = events_of job.chosen at job.work.entries (items_of job.work (whole_records job octets))

-- the octets of the packets and rows among them
abbrev pub fed_octets : FeedState → List ℕ → List ℕ
fed_octets job octets = packed_octets job.chosen (items_of job.work (whole_records job octets))

-- what belongs in front of a room stands there
abbrev pub StandsIn : {A : Type 0} → List A → ℕ → List A → Type 0
StandsIn room n xs = (n ≤ length room) × (take n room ≡ xs)

-- the most events that one record gives without rows, and the most packets
abbrev pub events_most : ℕ
events_most = 1170

abbrev pub packets_most : ℕ
packets_most = 292

-- the most events that one record gives, where the longest row has so many octets: 0 without rows
abbrev pub all_events_most : ℕ → ℕ
all_events_most longest = if longest == 0 then events_most else events_most + packets_most

-- the most octets of packets and rows that one record gives, where a packet has at most `limit`, and a row at most `longest`
abbrev pub octets_most : (limit longest : ℕ) → ℕ
octets_most limit longest = limit + 2041 + packets_most * longest

-- a room is too small for what a record may give, after what stands in both
abbrev pub IsFull : (limit longest : ℕ) → ℕ → ℕ → ℕ → ℕ → Type 0
IsFull limit longest event_room events octet_room octets =
    (event_room < events + all_events_most longest) ⊎ (octet_room < octets + octets_most limit longest)

-- rooms as a whole are too small for what a record may give
abbrev pub AreSmall : (limit longest : ℕ) → ℕ → ℕ → Type 0
AreSmall limit longest event_room octet_room = IsFull limit longest event_room 0 octet_room 0

-- the packets of all applications are given
unfoldable pub all_given : List Bool
all_given = replicate 2048 true

-- the packets of these applications are given, and no rows
abbrev pub without_rows : List Bool → Chosen
without_rows only = record { only = only; rows = []; longest = 0 }

-- a job of this work, with no octets of a further record, which gives the packets of all applications
abbrev pub new_feed : Work → FeedState
new_feed work = record { work = work; part = []; chosen = without_rows all_given; end = Open }

-- a call took these octets, and gave just what they give
pub record IsFed (old new : FeedState) (octets : List ℕ) (did : Fed) (events : List Event) (packets : List ℕ) : Type 0 where
  pub job : new ≡ fed old octets
  pub gave : StandsIn events did.events (fed_events 0 old octets)
  pub packed : StandsIn packets did.octets (fed_octets old octets)

-- with this many octets more the job's next record is whole
abbrev pub MakesWhole : FeedState → ℕ → Type 0
MakesWhole job more = record_size job.work ≤ length job.part + more

-- a call did nothing, for this reason
abbrev pub nothing_fed : StopReason → Fed
nothing_fed stop = record { used = 0; events = 0; octets = 0; stop = stop }

-- Why a call took no more of `count` octets. All are taken. Or those that are left make a record whole, but after a record was taken too
-- little may be left of a room. Or a room as a whole may be too small, and the call did nothing. Or as many records are done as can be
-- counted. Or the recording was closed, and the call did nothing.
abbrev pub StoppedBy : FeedState → FeedState → ℕ → Fed → ℕ → ℕ → StopReason → Type 0
StoppedBy old new count did event_room octet_room Done = (old.end ≡ Open) × (did.used ≡ count)
StoppedBy old new count did event_room octet_room Room =
    (old.end ≡ Open) × (0 < did.used) × MakesWhole new (count - did.used)
    × IsFull new.work.rules.max_packet new.chosen.longest event_room did.events octet_room did.octets
StoppedBy old new count did event_room octet_room TooSmall =
    (old.end ≡ Open) × MakesWhole old count × AreSmall old.work.rules.max_packet old.chosen.longest event_room octet_room
    × (new ≡ old) × (did ≡ nothing_fed TooSmall)
StoppedBy old new count did event_room octet_room TooMany =
    (old.end ≡ Open) × MakesWhole new (count - did.used) × (new.work.state.records ≡ most_records)
StoppedBy old new count did event_room octet_room Closed =
    (old.end ≢ Open) × (new ≡ old) × (did ≡ nothing_fed Closed)

-- why a call stopped
abbrev pub IsStopped : FeedState → FeedState → ℕ → Fed → ℕ → ℕ → Type 0
IsStopped old new count did event_room octet_room = StoppedBy old new count did event_room octet_room did.stop

-- a checkpoint is read as a job, and this one goes on from there
abbrev pub GoesOnFrom : Result JobState CheckpointFault → FeedState → Type 0
GoesOnFrom (Ok read) job = job ≡ new_feed read.work
GoesOnFrom (Err found) job = ⊥
