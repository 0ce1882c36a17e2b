use Rattle.std.proofs.Common.{arith, refl}
use Rattle.tm_faults.specs.declared.settings.Key.TheVariants.{Spacecraft}
use Rattle.tm_settings.specs.Advice.{edits_to}
use Rattle.tm_settings.proofs.Nearest.{all_over, closer, farther, none_nearer, none_near}
use Rattle.tm_settings.proofs.advice.nearest_of.Goals as goal
use Rattle.tm_settings.proofs.advice.nearest_of.Goals.{then-edits-least, else-edits-least}

pub loop-key-preserved : goal.loop-key-preserved
loop-key-preserved c = elim c.if-edits-least.branch [
  | then-edits-least w ↦ rw (w.nearest-is, w.least-is) (closer c.args.limit (edits_to c.args.text.now) c.args.keys.now c.loop-key.key-index c.loop-key.least c.in_ok-edits.edits c.loop-key.nearest _ Spacecraft
      c.loop-key-test.true c.in_ok-edits.ensures refl (omega (arith, w.if-edits-least.true)) c.loop-key.invariant)
  | else-edits-least w ↦ rw (w.nearest-is, w.least-is) (farther c.args.limit (edits_to c.args.text.now) c.args.keys.now c.loop-key.key-index c.loop-key.least c.in_ok-edits.edits c.loop-key.nearest _ Spacecraft
      c.loop-key-test.true c.in_ok-edits.ensures refl (omega (arith, w.if-edits-least.false)) c.loop-key.invariant)
]

pub returns-clause-nearest : goal.returns-clause-nearest
returns-clause-nearest c = none_nearer c.args.limit (edits_to c.args.text.now) c.args.keys.now c.loop-key.nearest c.loop-key.least
    (all_over c.args.limit (edits_to c.args.text.now) c.args.keys.now c.loop-key.key-index c.loop-key.least c.loop-key.nearest (omega (arith, c.loop-key-test.false)) c.loop-key.invariant)

pub returns-clause-none : goal.returns-clause-none
returns-clause-none c = none_near c.args.limit (edits_to c.args.text.now) c.args.keys.now c.loop-key.nearest c.loop-key.least
    (all_over c.args.limit (edits_to c.args.text.now) c.args.keys.now c.loop-key.key-index c.loop-key.least c.loop-key.nearest (omega (arith, c.loop-key-test.false)) c.loop-key.invariant)
