use Rattle.std.proofs.Common.{◌∙◌, arith, length-set}
use Rattle.tm_files.specs.FileIdentities.{IsOfPlace}
use Rattle.tm_files.proofs.PlaceLemmas.{set_next}
use Rattle.tm_files.proofs.identities.identify_files.Goals as goal

pub loop-place-preserved : goal.loop-place-preserved
loop-place-preserved g c =
    let files = c.loop-place.invariant in
    record {
      long = rw c.set.ensures (length-set _ _ _ ∙ files.long);
      each = rw c.set.ensures
          (set_next (IsOfPlace (g.N.Namespace.stands_for c.args.names.now) c.args.plan.now) c.loop-place.identities.identities c.loop-place.place-index _ _ (omega (arith, c.loop-place-test.true)) files.long c.in_ok-identify_place.ensures.identity files.each);
    }
