use Rattle.std.proofs.Common.{arith, refl}
use Rattle.tm_summary.proofs.GivenLemmas.{packet_given}
use Rattle.tm_summary.proofs.counting.Counting.add_packet.Goals as goal

pub returns-then-add_without_notes-clause-counted : goal.returns-then-add_without_notes-clause-counted
returns-then-add_without_notes-clause-counted c =
    packet_given _ _ _ _ _ _ _ _ _ c.args.octets.now _ _ c.header_in-header.ensures c.application-application.ensures.value (omega arith) refl
    c.add_packet.ensures (c.add_without_notes.ensures.none.0 c.if-add_without_notes.true) refl

pub returns-clause-counted : goal.returns-clause-counted
returns-clause-counted c =
    packet_given _ _ _ _ _ _ _ _ _ c.args.octets.now _ _ c.header_in-header.ensures c.application-application.ensures.value (omega arith) (omega arith)
    c.add_packet.ensures (rw (c.add_without_notes.ensures.left c.if-add_without_notes.false) at c.take-notes.ensures.notes) c.add_notes.ensures
