-- The octets up to the next place were taken.
use Rattle.std.proofs.Common.{◌≡◌, ◌<◌, ◌≤◌, ◌++◌, ◌-◌, length, take}
use Rattle.std.specs.Prelude.{vec_capacity}
use Rattle.tm_feed.specs.code.Sinking.{sink_state}
use Rattle.tm_feed.specs.code.Taking.{HasAdded}
use Rattle.tm_feed.proofs.taking.add_octets.Given as goal

abbrev pub invariant-records : goal.invariant-records
invariant-records l = record {
  taken : HasAdded l.initial.reassembly l.reassembly (sink_state l.initial.sink) (sink_state l.sink) (l.initial.part.items ++ take l.at l.octets) l.part.items;
  rules : l.reassembly.rules ≡ l.initial.reassembly.rules;
  short : length l.part.items < l.size;
  space : l.size ≤ vec_capacity l.part;
  within : l.at ≤ length l.octets;
}

abbrev pub decreases-records : goal.decreases-records
decreases-records l = length l.octets - l.at
