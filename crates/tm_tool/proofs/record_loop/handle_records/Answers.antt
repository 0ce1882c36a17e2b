use Rattle.std.proofs.Common.{refl, ◌∙◌, inl, arith, rules}
use Rattle.tm_tool.proofs.Taking.{first_reached, more_reached, just_enough, taken_first, taken_more, taken_all, taken_enough, taken_stopped}
use Rattle.tm_tool.proofs.record_loop.handle_records.Goals as goal

pub returns-in-Err-clause-stopped : goal.returns-in-Err-clause-stopped
returns-in-Err-clause-stopped g c = inl (rw c.records-done.ensures at c.in-Err.ensures, refl)

pub loop-ending-init : goal.loop-ending-init
loop-ending-init g c =
    let passed = rw c.records-done.ensures at c.in_default.ensures.0 in
    record {
      same = refl;
      ready = c.requires.ready;
      exact = omega arith;
      reads = c.in_default.ensures.1;
      done = c.records-done.ensures;
      reached = first_reached c.args.ending _;
      taken = taken_first _ _ _ c.args.ending _ _ _ passed;
    }

pub returns-then-not-wants_more-clause-stepped : goal.returns-then-not-wants_more-clause-stepped
returns-then-not-wants_more-clause-stepped g c =
    let inv = c.loop-ending.invariant in
    let enough = rw (inv.done, c.records.ensures) at (c.wants_more.ensures.enough (search rules)) in
    taken_enough _ _ _ c.args.ending _ _ _ _ _ inv.taken (just_enough c.args.ending _ _ inv.reached enough)

pub returns-in-Ok-Some-clause-stepped : goal.returns-in-Ok-Some-clause-stepped
returns-in-Ok-Some-clause-stepped g c =
    let inv = c.loop-ending.invariant in
    let wanted = rw (inv.done, c.records.ensures) at (c.wants_more.ensures.wanted (search rules)) in
    let (kept, same, ended) = rw c.in-Ok-Some.field-0-is at c.in-Ok-Some.ensures.ended in
    rw (kept, same)
    (taken_all _ _ _ c.args.ending _ _ _ _ _ inv.taken _ ended.rest ended.octets wanted c.in-Ok-Some.octets ended.left (omega (arith, ended.left, ended.short, inv.exact)) ended.end)

pub returns-in-Err-handle_next-clause-stopped : goal.returns-in-Err-handle_next-clause-stopped
returns-in-Err-handle_next-clause-stopped g c =
    let inv = c.loop-ending.invariant in
    let wanted = rw (inv.done, c.records.ensures) at (c.wants_more.ensures.wanted (search rules)) in
    let stopped = rw (inv.same, inv.reads, inv.exact) at c.in-Err-handle_next.ensures.stopped in
    taken_stopped _ _ _ c.args.ending _ _ _ _ _ inv.taken _ g.K.RecordHandler.count _ _ _ _ _ wanted refl stopped

pub loop-ending-smaller : goal.loop-ending-smaller
loop-ending-smaller g c =
    omega (arith, c.in-Ok-None.ensures.counted c.in-Ok-None.field-0-is, c.records.ensures)

pub loop-ending-preserved : goal.loop-ending-preserved
loop-ending-preserved g c =
    let inv = c.loop-ending.invariant in
    let wanted = rw (inv.done, c.records.ensures) at (c.wants_more.ensures.wanted (search rules)) in
    let next = c.in-Ok-None.ensures.took c.in-Ok-None.field-0-is in
    let counted = c.in-Ok-None.ensures.counted c.in-Ok-None.field-0-is in
    record {
      same = c.in-Ok-None.ensures.same ∙ inv.same;
      ready = c.in-Ok-None.ensures.ready;
      exact = c.in-Ok-None.ensures.exact ∙ inv.exact;
      reads = c.in-Ok-None.ensures.counts ∙ inv.reads;
      done = inv.done;
      reached = more_reached c.args.ending _ _ _ wanted counted;
      taken = taken_more _ _ _ c.args.ending _ _ _ _ _ inv.taken _ next.one next.octets _ _ (next.exact ∙ inv.exact) (rw inv.same at next.holds) counted;
    }
