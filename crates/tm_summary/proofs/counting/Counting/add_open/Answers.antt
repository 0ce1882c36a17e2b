use Rattle.std.proofs.Common.{◌++◌, ◌∷◌, [], drop, refl, sym, ap, ◌∙◌, arith}
use Rattle.tm_output.proofs.OpenGroups.{next_open, parted_more, parted_all}
use Rattle.tm_summary.specs.Tallies.{with_open}
use Rattle.tm_summary.proofs.GivenLemmas.{open_more}
use Rattle.tm_summary.proofs.counting.Counting.add_open.Goals as goal

pub loop-unclosed-init : goal.loop-unclosed-init
loop-unclosed-init c = record { same = (refl, refl); tracker = refl; below = omega arith; done = []; parted = record { parts = refl }; counted = refl }

pub loop-unclosed-smaller : goal.loop-unclosed-smaller
loop-unclosed-smaller c =
    let at = c.loop-unclosed.at in
    let next = next_open at (drop at c.loop-unclosed.self.tracker.now) c.in-Some.unclosed (sym c.in-Some.ensures.value) in
    omega (arith, next.from, c.in-Some.ensures.below)

pub loop-unclosed-preserved : goal.loop-unclosed-preserved
loop-unclosed-preserved c =
    let inv = c.loop-unclosed.invariant in
    record {
      same = inv.same;
      tracker = inv.tracker;
      below = omega (arith, c.in-Some.ensures.below);
      done = inv.done ++ c.in-Some.unclosed ∷ [];
      parted = parted_more c.loop-unclosed.self.tracker.now inv.done c.loop-unclosed.at c.in-Some.unclosed inv.parted (sym c.in-Some.ensures.value);
      counted = rw (c.add_note.ensures, inv.counted, open_more) refl;
    }

pub returns-clause-counted : goal.returns-clause-counted
returns-clause-counted c =
    let inv = c.loop-unclosed.invariant in
    let all = parted_all c.loop-unclosed.self.tracker.now inv.done c.loop-unclosed.at inv.parted (sym c.in_default.ensures.value) in
    inv.counted ∙ rw inv.tracker at (ap (with_open c.args.self.now.counts.now) all)
