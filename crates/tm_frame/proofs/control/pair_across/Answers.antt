use Rattle.std.proofs.Common.{◌≡◌, ◌++◌, take, drop, ap, ◌∙◌, arith}
use Rattle.tm_frame.proofs.FoldPairs.{across}
use Rattle.tm_frame.proofs.control.pair_across.Goals as goal
use Rattle.tm_frame.proofs.control.pair_across.Goals.{then-step-eq8, else-step-eq8}

pub returns-clause-octets : goal.returns-clause-octets
returns-clause-octets c =
    elim c.if-step-eq8.branch [
      | then-step-eq8 w ↦
          let eight : 8 ≡ c.args.step = omega (arith, w.if-step-eq8) in
          w.result-is
          ∙ across 8 c.args.pair c.args.next (omega arith) c.requires.both c.requires.sixteen
          ∙ ap (λ k. drop k c.args.pair ++ take k c.args.next) eight
      | else-step-eq8 w ↦
          let four : 4 ≡ c.args.step = omega (arith, w.if-step-eq8, c.requires.few, c.requires.many, c.requires.quarters) in
          w.result-is
          ∙ across 4 c.args.pair c.args.next (omega arith) c.requires.both c.requires.sixteen
          ∙ ap (λ k. drop k c.args.pair ++ take k c.args.next) four
    ]
