-- Records that are gone through from a state, and what they give: terms of the laws.
use Rattle.std.specs.Prelude.{ℕ, List, length}
use Rattle.tm_frame.specs.declared.layout.LayoutParts.{LayoutParts}
use Rattle.tm_frame.specs.Rules.{Rules}
use Rattle.tm_items.specs.Item.{Item}
use Rattle.tm_reassembly.specs.State.{State}
use Rattle.tm_reassembly.specs.Chain.{Run, ChainMember, chain, runs}
use Rattle.tm_reassembly.specs.Items.{channel_items}
use Rattle.tm_reassembly.specs.Recording.{readings, items, after}
use Rattle.tm_reassembly.specs.Valid.{IsValidState}
use Rattle.tm_reassembly.specs.Checkpoint.{DecodedState}
use Rattle.tm_reassembly.specs.OlderForms.{without_master}

-- the octets of each record
abbrev pub Records : Type 0
Records = List (List ℕ)

-- where records begin: the rules, and a state that is valid under them
pub record Origin : Type 0 where
  pub rules : Rules
  pub state : State
  pub valid : IsValidState rules state

-- the items of records from there
abbrev pub given_items : Origin → Records → List Item
given_items o records = items o.rules o.state records

-- the state that they leave
abbrev pub state_behind : Origin → Records → State
state_behind o records = after o.rules o.state records

-- the same, the last master channel count of the state being forgotten
abbrev pub items_forgotten : Origin → Records → List Item
items_forgotten o records = items o.rules (without_master o.state) records

abbrev pub state_forgotten : Origin → Records → State
state_forgotten o records = after o.rules (without_master o.state) records

-- the chain of a channel, of records after a state
abbrev pub chain_of : LayoutParts → State → ℕ → Records → List ChainMember
chain_of layout s c records = chain s c (readings layout records)

-- the runs of the channel
abbrev pub runs_of : LayoutParts → State → ℕ → Records → List Run
runs_of layout s c records = runs (chain_of layout s c records)

-- the items of the channel, chosen or not
abbrev pub items_of_channel : Rules → State → ℕ → Records → List Item
items_of_channel rules s c records = channel_items rules.max_packet c (chain_of rules.layout s c records)

-- a state that was read, all of these octets being read
abbrev pub read_from : State → List ℕ → DecodedState
read_from s octets = record { state = s; octets = length octets }
