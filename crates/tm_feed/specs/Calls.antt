-- Calls that follow one another.
use Rattle.std.specs.Prelude.{◌<◌, ℕ, ◌+◌, List, [], ◌∷◌, ◌++◌, length}
use Rattle.tm_reassembly.specs.Valid.{IsValidState}
use Rattle.tm_feed.specs.declared.event.Event.{Event}
use Rattle.tm_feed.specs.Jobs.{fed, fed_events, fed_octets, record_size}
use Rattle.tm_feed.specs.States.{FeedState}

-- a state from which records can be taken
pub record IsSound (job : FeedState) : Type 0 where
  pub state : IsValidState job.work.rules job.work.state
  pub some : 0 < record_size job.work

-- the job after calls that took these octets, one after the other
abbrev pub after_calls : FeedState → List (List ℕ) → FeedState
after_calls job [] = job
after_calls job (octets ∷ more) = after_calls (fed job octets) more

-- the events of all calls, as if they stood in one room with the octets of all
abbrev pub events_of_calls : ℕ → FeedState → List (List ℕ) → List Event
events_of_calls at job [] = []
events_of_calls at job (octets ∷ more) =
    fed_events at job octets ++ events_of_calls (at + length (fed_octets job octets)) (fed job octets) more

-- the octets of all calls
abbrev pub octets_of_calls : FeedState → List (List ℕ) → List ℕ
octets_of_calls job [] = []
octets_of_calls job (octets ∷ more) = fed_octets job octets ++ octets_of_calls (fed job octets) more
