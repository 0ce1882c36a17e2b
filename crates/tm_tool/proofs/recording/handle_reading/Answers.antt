use Rattle.std.proofs.Common.{[], ◌∷◌, ◌∙◌, ap, arith, refl}
use Rattle.tm_bits.specs.Bits.{AreOctets}
use Rattle.tm_reassembly.specs.Steps.{Progress}
use Rattle.tm_output.specs.Totals.{with_record}
use Rattle.tm_output.specs.declared.totals.Totals.{Totals}
use Rattle.tm_tool.proofs.Courses.{step_stopped}
use Rattle.tm_checkpoint.specs.Works.{Work, work_of}
use Rattle.tm_tool.proofs.Counted.{record_counted}
use Rattle.tm_tool.proofs.Running.{records-counted, stepped_on}
use Rattle.tm_tool.proofs.Sinks.{took_all, stopped_among}
use Rattle.tm_tool.proofs.recording.handle_reading.Goals as goal

pub returns-in-Ok : goal.returns-in-Ok
returns-in-Ok g c =
    let octets : AreOctets c.args.octets.now = record { below = λ i. omega (arith, c.type_inv.octets i) } in
    let all = took_all g.O.Outlet.grows g.met.O.Outlet.grows_nil g.met.O.Outlet.grows_trans g.O.Outlet.text g.O.Outlet.buffering _ _ _ c.in-Ok.ensures.accepted in
    let on = stepped_on c.args.reassembly.now _ _ _ _ c.in-Ok.ensures.left all.noted_is c.requires.ready c.in-Ok.ensures.asked.1 octets in
    let counted = record_counted (g.O.Outlet.text (g.O.Outlet.fixed c.args.output.now.outlet.now)) c.args.reassembly.now.rules
    (g.met.O.Outlet.text_none (g.O.Outlet.fixed c.args.output.now.outlet.now)) (work_of c.args.reassembly.now c.args.output.now.tracker.now) refl
    c.args.octets.now c.args.output.now.totals c.add_record.new.self c.in-Ok.chosen
    (c.add_record.ensures ∙ ap (λ (t : Totals). with_record t c.in-Ok.chosen) all.totals_is) c.in-Ok.ensures.chosen in
    record {
      same = rw (all.same, ap (λ (p : Progress). p.rules) c.in-Ok.ensures.left) refl;
      ready = on.1;
      counted = ap (λ (w : Work). w.state.records) on.0 ∙ records-counted (work_of c.args.reassembly.now c.args.output.now.tracker.now) (c.args.octets.now ∷ []);
      taken = (on.0, all.took, counted);
      refused = tt;
    }

pub returns-in-Err-Sink : goal.returns-in-Err-Sink
returns-in-Err-Sink g c =
    let (going, few, up, one) = rw c.in-Err-Sink.field-0-is at c.in-Err-Sink.ensures.refused in
    let all = stopped_among g.O.Outlet.grows g.met.O.Outlet.grows_nil g.met.O.Outlet.grows_trans g.O.Outlet.text g.O.Outlet.buffering _ _ _ _ one in
    record { same = rw (all.same, up.rules) refl; ready = tt; counted = tt; taken = tt; refused = step_stopped g.O.Outlet.grows _ _ _ _ _ _ all.stopped }
