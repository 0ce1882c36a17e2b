use Rattle.std.proofs.Common.{◌≡◌, length, take}
use Rattle.tm_reassembly.specs.code.Slots.{HaveLimit, lasts}
use Rattle.tm_reassembly.proofs.Blocks.{ReadsTo}
use Rattle.tm_reassembly.proofs.reassembly.restore.Given as goal

abbrev pub invariant-loop-channel : goal.invariant-loop-channel
invariant-loop-channel l =
    ReadsTo l.rules l.records l.octets l.channel l.at (take l.channel (lasts l.states)) × (length l.states ≡ 8) × HaveLimit l.rules.max_packet l.states
