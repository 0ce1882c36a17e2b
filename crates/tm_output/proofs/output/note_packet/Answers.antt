use Rattle.tm_output.proofs.PacketLemmas.{notes_one}
use Rattle.tm_output.proofs.output.note_packet.Goals as goal

pub returns-clause-lost : goal.returns-clause-lost
returns-clause-lost c =
    let packet = c.args.packet.now in
    let notes = notes_one c.args.tracker.now (record { channel = packet.channel; header = packet.header }) c.take-notes.result c.take-notes.ensures.notes in
    rw (← c.requires.header) (rw notes at c.push_notes.ensures.lost)
