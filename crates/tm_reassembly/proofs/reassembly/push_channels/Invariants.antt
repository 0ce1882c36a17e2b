use Rattle.std.proofs.Common.{◌≡◌, ◌+◌, ◌≤◌, ◌++◌, length, drop}
use Rattle.std.specs.Prelude.{vec_len, vec_capacity}
use Rattle.std.specs.List.{flat_map}
use Rattle.tm_reassembly.specs.Checkpoint.{block}
use Rattle.tm_reassembly.specs.code.Slots.{lasts}
use Rattle.tm_reassembly.proofs.reassembly.push_channels.Given as goal

abbrev pub invariant-loop-channel : goal.invariant-loop-channel
invariant-loop-channel l =
    (l.out.items ++ flat_map block (drop l.channel (lasts l.states)) ≡ l.initial.out.items ++ flat_map block (lasts l.states))
    × (vec_len l.out + length (flat_map block (drop l.channel (lasts l.states))) ≤ vec_capacity l.out)
