use Rattle.std.proofs.Common.{refl, ◌∙◌}
use Rattle.tm_items.specs.Sinks.{item_of}
use Rattle.tm_output.proofs.PieceLemmas.{stopped_lines}
use Rattle.tm_output.proofs.PacketLemmas.{line_report}
use Rattle.tm_output.proofs.TotalsLemmas.{line_counted}
use Rattle.tm_output.proofs.output.Output.write_item_line.Goals as goal

pub returns-in-Err-clause-written : goal.returns-in-Err-clause-written
returns-in-Err-clause-written g c =
    let none = g.met.O.Outlet.text_none (g.O.Outlet.fixed c.args.self.now.outlet.now) (item_of c.args.item) c.requires in
    let line = c.as_slice.ensures ∙ c.make_line.ensures ∙ line_report c.args.self.now.tracker.now (item_of c.args.item) _ c.requires none.1 in
    let prefix = rw line at c.in-Err.ensures.prefix in
    stopped_lines g.O.Outlet.grows _ _ _ g.O.Outlet.buffering (rw none.0 (g.met.O.Outlet.grows_nil _)) prefix refl c.in-Err.ensures.counts

pub returns-clause-counted : goal.returns-clause-counted
returns-clause-counted g c =
    c.add_line.ensures
    ∙ line_counted (g.O.Outlet.text (g.O.Outlet.fixed c.args.self.now.outlet.now)) c.args.self.now.tracker.now _ (item_of c.args.item) c.requires
