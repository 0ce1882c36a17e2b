use Rattle.std.proofs.Common.{◌++◌, ◌∷◌, [], drop, refl, sym, ap, ◌∙◌, arith}
use Rattle.std.proofs.lemmas.List.{map-append}
use Rattle.tm_output.proofs.PieceLemmas.{stopped_more, took_none, took_stopped, took_took}
use Rattle.tm_output.specs.Totals.{with_loss}
use Rattle.tm_output.proofs.TotalsLemmas.{unclosed_counted}
use Rattle.tm_output.proofs.OpenGroups.{next_open, parted_more, parted_all}
use Rattle.tm_output.proofs.output.Output.write_all_unclosed.Goals as goal

pub loop-unclosed-init : goal.loop-unclosed-init
loop-unclosed-init g c = record {
  same = refl;
  tracker = refl;
  below = omega arith;
  done = [];
  parted = record { parts = refl };
  took = took_none g.O.Outlet.grows g.met.O.Outlet.grows_nil g.met.O.Outlet.grows_trans _;
  totals = refl;
}

pub loop-unclosed-smaller : goal.loop-unclosed-smaller
loop-unclosed-smaller g c =
    let at = c.loop-unclosed.at in
    let next = next_open at (drop at c.loop-unclosed.self.tracker.now) c.in-Some.unclosed (sym c.in-Some.ensures.value) in
    omega (arith, next.from, c.in-Some.ensures.below)

pub loop-unclosed-preserved : goal.loop-unclosed-preserved
loop-unclosed-preserved g c =
    let inv = c.loop-unclosed.invariant in
    let ens = c.in_default-write_unclosed.ensures in
    let more = parted_more c.loop-unclosed.self.tracker.now inv.done c.loop-unclosed.at c.in-Some.unclosed inv.parted (sym c.in-Some.ensures.value) in
    record {
      same = ens.same ∙ inv.same;
      tracker = ens.tracker ∙ inv.tracker;
      below = omega (arith, c.in-Some.ensures.below);
      done = inv.done ++ c.in-Some.unclosed ∷ [];
      parted = rw ens.tracker more;
      took = rw map-append (took_took g.O.Outlet.grows g.met.O.Outlet.grows_nil g.met.O.Outlet.grows_trans _ _ _ _ _ inv.took ens.written);
      totals = ens.counted ∙ ap with_loss inv.totals ∙ sym (unclosed_counted _ inv.done c.in-Some.unclosed);
    }

pub returns-in-Err-clause-written : goal.returns-in-Err-clause-written
returns-in-Err-clause-written g c =
    let inv = c.loop-unclosed.invariant in
    let more = parted_more c.loop-unclosed.self.tracker.now inv.done c.loop-unclosed.at c.in-Some.unclosed inv.parted (sym c.in-Some.ensures.value) in
    rw (← inv.tracker, more.parts, map-append, map-append)
    (stopped_more g.O.Outlet.grows g.met.O.Outlet.grows_nil g.met.O.Outlet.grows_trans g.O.Outlet.buffering _ _ _ _ c.in-Err.fault
    (took_stopped g.O.Outlet.grows g.met.O.Outlet.grows_nil g.met.O.Outlet.grows_trans g.O.Outlet.buffering _ _ _ _ _ inv.took c.in-Err.fault
    c.in-Err.ensures.written))

pub returns-clause-written : goal.returns-clause-written
returns-clause-written g c =
    let inv = c.loop-unclosed.invariant in
    let all = parted_all c.loop-unclosed.self.tracker.now inv.done c.loop-unclosed.at inv.parted (sym c.in_default.ensures.value) in
    rw (← inv.tracker, ← all) inv.took

pub returns-clause-counted : goal.returns-clause-counted
returns-clause-counted g c =
    let inv = c.loop-unclosed.invariant in
    let all = parted_all c.loop-unclosed.self.tracker.now inv.done c.loop-unclosed.at inv.parted (sym c.in_default.ensures.value) in
    rw (← inv.tracker, ← all) inv.totals
