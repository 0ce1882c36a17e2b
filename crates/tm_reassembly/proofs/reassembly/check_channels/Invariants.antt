use Rattle.tm_reassembly.proofs.Blocks.{ReadsSome}
use Rattle.tm_reassembly.proofs.reassembly.check_channels.Given as goal

abbrev pub invariant-loop-channel : goal.invariant-loop-channel
invariant-loop-channel l =
    ReadsSome l.rules l.records l.octets l.channel l.at
