-- What the code is seen as, and how a step and a closed end may be refused.
use Rattle.std.specs.Prelude.{◌≡◌, ◌⊎◌, ℕ, Result, Ok, Err, IsOk, ◌*◌, ◌<◌, Bool, true, false, Option, Some, None, List, [], ◌∷◌, slice_get}
use Rattle.tm_reassembly.specs.declared.fault.StepFault as fault
use Rattle.tm_reassembly.specs.declared.fault.StepFault.TheVariants.{Sink, Failed, TooMany}
pub use Rattle.tm_frame.specs.Layout.{most_records}
use Rattle.tm_frame.specs.Rules.{Rules}
use Rattle.tm_items.specs.Item.{Item}
use Rattle.tm_reassembly.specs.Items.{empty}
use Rattle.tm_reassembly.specs.Recording.{items, after}
use Rattle.tm_items.specs.Sinks.{RefusesOne}
use Rattle.tm_reassembly.specs.State.{State, Last}
use Rattle.tm_frame.specs.declared.layout.LayoutParts.{LayoutParts}
use Rattle.tm_reassembly.specs.declared.fault.StateFault.{StateFault}
use Rattle.tm_reassembly.specs.declared.fault.StateFault.TheVariants as wrong
use Rattle.tm_reassembly.specs.Checkpoint.{DecodedState}

-- the rules, the state, whether a sink refused an item, and for how many octets of packets there is room, of all eight channels together
pub record Progress : Type 0 where
  pub rules : Rules
  pub state : State
  pub failed : Bool
  pub capacity : ℕ

-- in a state, with room for a packet in each channel
abbrev pub progress_in : Rules → State → Progress
progress_in rules state = record { rules = rules; state = state; failed = false; capacity = 8 * rules.max_packet }

-- before any record
abbrev pub new_progress : Rules → Progress
new_progress rules = progress_in rules empty

-- the items of one more record, and the progress with it
abbrev pub step_items : Progress → List ℕ → List Item
step_items p octets = items p.rules p.state (octets ∷ [])

abbrev pub stepped : Progress → List ℕ → Progress
stepped p octets = record { rules = p.rules; state = after p.rules p.state (octets ∷ []); failed = false; capacity = p.capacity }

-- the last count that a state has of a channel
abbrev pub count_of_last : Option (Option Last) → Option ℕ
count_of_last None = None
count_of_last (Some None) = None
count_of_last (Some (Some last)) = Some last.count

abbrev pub last_count_of : State → ℕ → Option ℕ
last_count_of s channel = count_of_last (slice_get s.channels channel)

-- given up: nothing is said any more of the channels
pub record IsGivenUp (old new : Progress) : Type 0 where
  pub failed : new.failed ≡ true
  pub rules : new.rules ≡ old.rules
  pub records : new.state.records ≡ old.state.records

module _ {S K F : Type 0} (known : S → K) (takes : K → Item → K → Type 0) (refuses : K → Item → F → K → Type 0) where
  -- how a step may be refused: asked in the order failed, too many, sink
  abbrev pub StepRefused : Progress → Progress → S → S → List Item → fault.StepFault F → Type 0
  StepRefused old new sink_old sink_new xs (Sink f) =
      (old.failed ≡ false) × (old.state.records < most_records) × IsGivenUp old new × RefusesOne takes refuses (known sink_old) xs f (known sink_new)
  StepRefused old new sink_old sink_new xs Failed = (old.failed ≡ true) × (new ≡ old) × (sink_new ≡ sink_old)
  StepRefused old new sink_old sink_new xs TooMany =
      (old.failed ≡ false) × (old.state.records ≡ most_records) × (new ≡ old) × (sink_new ≡ sink_old)

  -- how a closed end may be refused
  abbrev pub CloseRefused : Progress → S → S → List Item → fault.StepFault F → Type 0
  CloseRefused old sink_old sink_new xs (Sink f) = (old.failed ≡ false) × RefusesOne takes refuses (known sink_old) xs f (known sink_new)
  CloseRefused old sink_old sink_new xs Failed = (old.failed ≡ true) × (sink_new ≡ sink_old)
  CloseRefused old sink_old sink_new xs TooMany = ⊥

-- the rules of these parts
abbrev pub rules_of : LayoutParts → List Bool → ℕ → Rules
rules_of layout channels max_packet = record { layout = layout; channels = channels; max_packet = max_packet }

-- so many octets were read, and they spell the state of this progress, which has the rules and room for a packet in each channel
abbrev pub IsRestored : (Rules → List ℕ → Result DecodedState StateFault) → Rules → List ℕ → Progress × ℕ → Type 0
IsRestored decoding rules octets read =
    (decoding rules octets ≡ Ok (record { state = read.0.state; octets = read.1 })) × (read.0 ≡ progress_in rules read.0.state)

-- why octets aren't read: by their first fault; or they have none, and memory ran out
abbrev pub IsRefusal : Result DecodedState StateFault → StateFault → Type 0
IsRefusal decoded found = (decoded ≡ Err found) ⊎ ((found ≡ wrong.NoMemory) × IsOk decoded)
