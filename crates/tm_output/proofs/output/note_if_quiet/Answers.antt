use Rattle.tm_output.proofs.PacketLemmas.{no_report}
use Rattle.tm_output.proofs.output.note_if_quiet.Goals as goal

pub returns-clause-quiet : goal.returns-clause-quiet
returns-clause-quiet g c = λ yes.
    let packet = c.args.packet.now in
    no_report c.args.tracker.now packet.seen packet.channel packet.first packet.place packet.header packet.octets.now _
    c.requires.header (c.add_without_notes.ensures.none.0 yes) (c.adds_nothing_to_report.ensures c.if-not-adds_nothing_to_report.false)
