use Rattle.std.proofs.Common.{ap, refl}
use Rattle.tm_packet.specs.Merge.{Entries}
use Rattle.tm_feed.specs.code.Sinking.{sink_state}
use Rattle.tm_feed.proofs.SinkLemmas.{no_notes}
use Rattle.tm_feed.proofs.sink.EventSink.note_packet.Goals as goal

pub returns-then-add_without_notes-clause-put : goal.returns-then-add_without_notes-clause-put
returns-then-add_without_notes-clause-put c =
    let told = c.if-add_without_notes.ensures in
    no_notes (sink_state c.args.self.now) _ c.args.packet.now c.requires.header (told.none.0 refl)
    (ap (λ (entries : Entries). record (sink_state c.args.self.now) { entries = entries }) (told.recorded refl))
