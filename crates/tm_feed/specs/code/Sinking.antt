-- What a sink of events does with items.
use Rattle.std.specs.Prelude.{◌≡◌, ◌⊎◌, ◌<◌, ℕ, ◌+◌, List, [], ◌∷◌, ◌++◌, length, map, take}
use Rattle.tm_packet.specs.Merge.{Entries}
use Rattle.tm_packet.specs.declared.notes.Note.{Note}
use Rattle.tm_items.specs.Item.{Item}
use Rattle.tm_output.specs.Pieces.{noted_all}
use Rattle.tm_feed.specs.declared.event.Event.{Event}
use Rattle.tm_feed.specs.declared.sink.EventSink.{EventSink}
use Rattle.tm_feed.specs.Events.{note_event}
use Rattle.tm_feed.specs.Feeding.{events_of, item_events, item_octets, packed_octets}
use Rattle.tm_feed.specs.States.{Chosen}

-- what no call changes: which references the sink holds, how large the two rooms are, and which packets and rows are given
pub record SinkFixture : Type 0 where
  pub tracker : ℕ
  pub choice : ℕ
  pub events : ℕ
  pub octets : ℕ
  pub chosen : Chosen
  pub event_room : ℕ
  pub octet_room : ℕ

-- what is known of a sink: what stays the same, the entries of its tracker, and what stands in the rooms
pub record SinkState : Type 0 where
  pub fixture : SinkFixture
  pub entries : Entries
  pub events : List Event
  pub octets : List ℕ

abbrev pub fixture_of : EventSink → SinkFixture
fixture_of s = record {
  tracker = s.tracker.ghost_name;
  choice = s.choice.ghost_name;
  events = s.events.ghost_name;
  octets = s.octets.ghost_name;
  chosen = s.choice.now.chosen;
  event_room = length s.events.now;
  octet_room = length s.octets.now;
}

abbrev pub sink_state : EventSink → SinkState
sink_state s = record {
  fixture = fixture_of s;
  entries = s.tracker.now;
  events = take s.filled s.events.now;
  octets = take s.used s.octets.now;
}

-- more stands in the rooms
abbrev pub with_more : SinkState → Entries → List Event → List ℕ → SinkState
with_more s entries events octets = record {
  fixture = s.fixture;
  entries = entries;
  events = s.events ++ events;
  octets = s.octets ++ octets;
}

-- the sink after items
abbrev pub after_items : SinkState → List Item → SinkState
after_items s xs = with_more s (noted_all s.entries xs)
    (events_of s.fixture.chosen (length s.octets) s.entries xs) (packed_octets s.fixture.chosen xs)

-- more stands in the rooms of a sink, and its tracker has these entries
abbrev pub AddsEvents : SinkState → SinkState → Entries → List Event → List ℕ → Type 0
AddsEvents s t entries events octets = t ≡ with_more s entries events octets

-- the events of notes
abbrev pub note_events : (seen channel application : ℕ) → List Note → List Event
note_events seen channel application notes = map (note_event seen channel application) notes

-- it takes an item
abbrev pub TakesAsEvents : SinkState → Item → SinkState → Type 0
TakesAsEvents s x t = t ≡ after_items s (x ∷ [])

-- a room is too small for this
abbrev pub Lacks : SinkState → List Event → List ℕ → Type 0
Lacks s events octets =
    (s.fixture.event_room < length s.events + length events) ⊎ (s.fixture.octet_room < length s.octets + length octets)

-- it refuses an item only where a room is too small
abbrev pub RefusesEvents : {F : Type 0} → SinkState → Item → F → SinkState → Type 0
RefusesEvents s x fault t = Lacks s (item_events s.fixture.chosen (length s.octets) s.entries x) (item_octets s.fixture.chosen x)
