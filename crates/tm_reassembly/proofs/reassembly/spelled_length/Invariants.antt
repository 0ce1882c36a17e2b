use Rattle.std.proofs.Common.{◌≡◌, ◌*◌, ◌≤◌, length, take}
use Rattle.std.specs.List.{flat_map}
use Rattle.tm_reassembly.specs.Checkpoint.{block}
use Rattle.tm_reassembly.specs.code.Slots.{lasts}
use Rattle.tm_reassembly.proofs.reassembly.spelled_length.Given as goal

abbrev pub invariant-loop-channel : goal.invariant-loop-channel
invariant-loop-channel l =
    (l.length ≡ length (flat_map block (take l.channel (lasts l.states)))) × (l.length ≤ l.channel * 65554)
