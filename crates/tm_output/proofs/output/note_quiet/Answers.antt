use Rattle.std.proofs.Common.{sym, ◌∙◌}
use Rattle.tm_output.proofs.SpanLemmas.{noted_none, noted_next}
use Rattle.tm_output.proofs.output.note_quiet.Goals as goal

pub loop-packet-init : goal.loop-packet-init
loop-packet-init g c = noted_none _ _ _ _ _ _

pub loop-packet-preserved : goal.loop-packet-preserved
loop-packet-preserved g c =
    rw c.add_quiet.ensures
    (noted_next _ _ _ _ _ _ _ _ _ c.gives.result c.loop-packet.at _ c.in-Some.packet c.span_from.ensures.octets c.loop-packet.invariant
    (rw c.span_from.ensures.rest at c.in-Some.ensures.some) (sym c.joins.ensures ∙ c.if-not-joins.false) (c.note_if_quiet.ensures.quiet c.if-not-note_if_quiet.false)
    (c.note_if_quiet.ensures.noted c.if-not-note_if_quiet.false) c.gives.ensures)
