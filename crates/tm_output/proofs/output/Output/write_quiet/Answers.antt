use Rattle.std.proofs.Common.{ap, arith, refl, rules, ◌∙◌}
use Rattle.tm_items.specs.Fronts.{octets_of}
use Rattle.tm_output.specs.Seen.{output_state}
use Rattle.tm_output.proofs.SpanLemmas.{first-alone, span_taken, span_stopped}
use Rattle.tm_output.proofs.output.Output.write_quiet.Goals as goal

pub write_span-requires-clause-packets : goal.write_span-requires-clause-packets
write_span-requires-clause-packets g c =
    let noted = c.note_quiet-quiet.ensures.noted in
    ap octets_of (first-alone _ _ _ _ noted.first) ∙ noted.first.octets

pub write_span-requires-clause-joined : goal.write_span-requires-clause-joined
write_span-requires-clause-joined g c =
    let noted = c.note_quiet-quiet.ensures.noted in
    rw (first-alone _ _ _ _ noted.first) noted.joined

pub returns-in-Ok-clause-accepted : goal.returns-in-Ok-clause-accepted
returns-in-Ok-clause-accepted g c =
    let noted = c.note_quiet-quiet.ensures.noted in
    span_taken g.O.Outlet.grows g.met.O.Outlet.grows_nil g.met.O.Outlet.grows_trans g.met.O.Outlet.grows_split g.O.Outlet.text g.O.Outlet.buffering
    (output_state g.O.Outlet g.V.Drain c.args.self.now) _ (omega (arith, c.if-quiet-eq0.false)) noted (search rules) refl
    (c.in-Ok.ensures.counts, refl) (rw (first-alone _ _ _ _ noted.first) at c.in-Ok.ensures.whole)

pub returns-in-Err-clause-refused : goal.returns-in-Err-clause-refused
returns-in-Err-clause-refused g c =
    let noted = c.note_quiet-quiet.ensures.noted in
    span_stopped g.O.Outlet.grows g.met.O.Outlet.grows_nil g.met.O.Outlet.grows_trans g.met.O.Outlet.grows_split g.O.Outlet.text g.O.Outlet.buffering
    (output_state g.O.Outlet g.V.Drain c.args.self.now) _ (omega (arith, c.if-quiet-eq0.false)) noted (search rules) refl
    c.in-Err.ensures.counts refl (rw (first-alone _ _ _ _ noted.first) at c.in-Err.ensures.part)
