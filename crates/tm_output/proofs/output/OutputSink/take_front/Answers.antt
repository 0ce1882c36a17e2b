use Rattle.tm_output.proofs.SpanLemmas.{ends, goes_on, refuses_one}
use Rattle.tm_output.proofs.output.OutputSink.take_front.Goals as goal

pub loop-many-preserved : goal.loop-many-preserved
loop-many-preserved g c =
    let quiet = goes_on _ _ _ _ _ c.loop-many.invariant c.span_from.result c.span_from.ensures.rest c.span_from.ensures.octets _ _ c.in-Ok.ensures.accepted in
    let rest = c.span_from-in-loop-many in
    goes_on _ _ _ _ _ quiet rest.result rest.ensures.rest rest.ensures.octets _ _ c.in-Ok-write_first.ensures.accepted

pub returns-in-Err-write_first-clause-refused : goal.returns-in-Err-write_first-clause-refused
returns-in-Err-write_first-clause-refused g c =
    let quiet = goes_on _ _ _ _ _ c.loop-many.invariant c.span_from.result c.span_from.ensures.rest c.span_from.ensures.octets _ _ c.in-Ok.ensures.accepted in
    let rest = c.span_from-in-loop-many in
    refuses_one _ _ _ _ _ quiet rest.result rest.ensures.rest rest.ensures.octets _ _ c.in-Err-write_first.ensures.refused

pub returns-in-Ok-eq0-clause-accepted : goal.returns-in-Ok-eq0-clause-accepted
returns-in-Ok-eq0-clause-accepted g c =
    let quiet = goes_on _ _ _ _ _ c.loop-many.invariant c.span_from.result c.span_from.ensures.rest c.span_from.ensures.octets _ _ c.in-Ok.ensures.accepted in
    let rest = c.span_from-in-loop-many in
    let none = c.in-Ok-eq0.ensures in
    (ends _ _ _ _ _ quiet rest.result rest.ensures.rest rest.ensures.octets _ _ none.accepted c.in-Ok-eq0.field-0-test (none.ended c.in-Ok-eq0.field-0-test)).0

pub returns-in-Ok-eq0-clause-length : goal.returns-in-Ok-eq0-clause-length
returns-in-Ok-eq0-clause-length g c =
    let quiet = goes_on _ _ _ _ _ c.loop-many.invariant c.span_from.result c.span_from.ensures.rest c.span_from.ensures.octets _ _ c.in-Ok.ensures.accepted in
    let rest = c.span_from-in-loop-many in
    let none = c.in-Ok-eq0.ensures in
    (ends _ _ _ _ _ quiet rest.result rest.ensures.rest rest.ensures.octets _ _ none.accepted c.in-Ok-eq0.field-0-test (none.ended c.in-Ok-eq0.field-0-test)).1
