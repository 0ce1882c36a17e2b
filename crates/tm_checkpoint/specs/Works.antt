-- How far a job has got.
use Rattle.std.specs.Prelude.{◌≡◌, Bool, true, false, length}
use Rattle.tm_packet.specs.Merge.{Entries, no_entries}
use Rattle.tm_packet.specs.Valid as valid
use Rattle.tm_frame.specs.Rules.{Rules}
use Rattle.tm_reassembly.specs.Items.{empty}
use Rattle.tm_reassembly.specs.State.{State}
use Rattle.tm_reassembly.specs.Steps.{Progress}
use Rattle.tm_reassembly.specs.Valid.{IsValidState}

-- how far a job has got: what the settings say, the state of the channels, and the entries of the sequence counts
pub record Work : Type 0 where
  pub rules : Rules
  pub state : State
  pub entries : Entries

-- how far a job has got, and whether it is fresh: no run has begun with it
pub record JobState : Type 0 where
  pub work : Work
  pub fresh : Bool

-- a job with these settings before any record
abbrev pub new_job : Rules → JobState
new_job rules = record {
  work = record { rules = rules; state = empty; entries = no_entries };
  fresh = true;
}

-- a work that a job may have: eight channels, and a state and entries that are valid
pub record IsWork (w : Work) : Type 0 where
  pub eight : length w.rules.channels ≡ 8
  pub state : IsValidState w.rules w.state
  pub entries : valid.AreValidEntries w.entries

-- how far a reassembly has got, together with the sequence counts
abbrev pub work_of : Progress → Entries → Work
work_of p entries = record { rules = p.rules; state = p.state; entries = entries }

-- no step was refused, and the state is a valid one
abbrev pub IsGoing : Progress → Type 0
IsGoing p = (p.failed ≡ false) × IsValidState p.rules p.state
