use Rattle.std.proofs.Common.{drop, sym, arith}
use Rattle.tm_output.proofs.OpenGroups.{next_open}
use Rattle.tm_feed.proofs.EndLemmas.{put_all, put_more}
use Rattle.tm_feed.proofs.ending.give_groups.Goals as goal

pub groups-smaller : goal.groups-smaller
groups-smaller c =
    let next = next_open c.groups.key (drop c.groups.key c.args.tracker.now) c.in-Some.unclosed (sym c.in-Some.ensures.value) in
    omega (arith, next.from, c.in-Some.ensures.below)

pub groups-preserved : goal.groups-preserved
groups-preserved c = record {
  put = put_more _ _ _ _ _ _ _ _ c.groups.invariant.put c.in-Some.unclosed _ (sym c.in-Some.ensures.value) c.unclosed_event.ensures
      (let within = c.groups.invariant.put.within in let some = c.if-filled-events.false in omega (arith, within, some));
  below = omega (arith, c.in-Some.ensures.below);
}

pub returns-clause-put : goal.returns-clause-put
returns-clause-put c = put_all _ _ _ _ _ _ _ _ c.groups.invariant.put (sym c.in_default.ensures.value)
