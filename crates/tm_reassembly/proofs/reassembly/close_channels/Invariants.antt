use Rattle.std.proofs.Common.{drop}
use Rattle.tm_reassembly.specs.Items.{close_channels}
use Rattle.tm_reassembly.specs.code.Slots.{lasts}
use Rattle.tm_items.proofs.Leads.{Leads}
use Rattle.tm_reassembly.proofs.reassembly.close_channels.Given as goal

abbrev pub invariant-loop-channel : goal.invariant-loop-channel
invariant-loop-channel g l =
    Leads g.S.Sink.takes g.S.Sink.refuses (g.S.Sink.known l.initial.sink) (g.S.Sink.known l.sink) (close_channels l.seen 0 (lasts l.states)) (close_channels l.seen l.channel (drop l.channel (lasts l.states)))
