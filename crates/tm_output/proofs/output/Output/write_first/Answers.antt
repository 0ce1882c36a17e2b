use Rattle.tm_output.specs.Seen.{output_state}
use Rattle.tm_output.proofs.SpanLemmas.{one_taken}
use Rattle.tm_output.proofs.output.Output.write_first.Goals as goal

pub returns-in-Ok-clause-accepted : goal.returns-in-Ok-clause-accepted
returns-in-Ok-clause-accepted g c =
    one_taken g.O.Outlet.grows g.met.O.Outlet.grows_nil g.met.O.Outlet.grows_trans g.met.O.Outlet.grows_split g.O.Outlet.text g.O.Outlet.buffering
    (output_state g.O.Outlet g.V.Drain c.args.self.now) _ _ c.in-Some.ensures.some
    (record { same = c.in-Ok.ensures.noted.0; noted_is = c.in-Ok.ensures.noted.1; took = c.in-Ok.ensures.written; totals_is = c.in-Ok.ensures.counted })
