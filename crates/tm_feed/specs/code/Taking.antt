-- What a reassembly and a sink make of octets, record by record.
use Rattle.std.specs.Prelude.{◌≡◌, ◌≤◌, ℕ, ◌+◌, List, length}
use Rattle.tm_frame.specs.Layout.{record_length_of}
use Rattle.tm_reassembly.specs.Steps.{Progress, most_records}
use Rattle.tm_checkpoint.specs.Works.{IsGoing, work_of}
use Rattle.tm_output.specs.Records.{records, rest_of}
use Rattle.tm_tool.specs.RecordingPieces.{items_of, worked}
use Rattle.tm_feed.specs.declared.job.StopReason.{StopReason}
use Rattle.tm_feed.specs.declared.job.StopReason.TheVariants.{Done, Room, TooSmall, TooMany, Closed}
use Rattle.tm_feed.specs.Jobs.{IsFull, all_events_most, octets_most}
use Rattle.tm_feed.specs.Choosing.{FitRows}
use Rattle.tm_feed.specs.code.Sinking.{SinkState, after_items}

-- the records of octets were taken, and the octets after them are left
pub record HasAdded (p q : Progress) (s t : SinkState) (octets rest : List ℕ) : Type 0 where
  pub going : IsGoing q
  pub work : work_of q t.entries ≡ worked (work_of p s.entries) (records (record_length_of p.rules.layout) octets)
  pub sink : t ≡ after_items s (items_of (work_of p s.entries) (records (record_length_of p.rules.layout) octets))
  pub left : rest ≡ rest_of (record_length_of p.rules.layout) octets

-- both rooms hold what one more record gives at most, where a packet has at most `limit` octets
pub record HasRoom (limit : ℕ) (s : SinkState) : Type 0 where
  pub events : length s.events + all_events_most s.fixture.chosen.longest ≤ s.fixture.event_room
  pub octets : length s.octets + octets_most limit s.fixture.chosen.longest ≤ s.fixture.octet_room
  pub rows : FitRows s.fixture.chosen

-- why no further record may be taken
abbrev pub StopsAdding : StopReason → Progress → SinkState → Type 0
StopsAdding Done p s = ⊥
StopsAdding Room p s = IsFull p.rules.max_packet s.fixture.chosen.longest s.fixture.event_room (length s.events) s.fixture.octet_room (length s.octets)
StopsAdding TooSmall p s = ⊥
StopsAdding TooMany p s = p.state.records ≡ most_records
StopsAdding Closed p s = ⊥
