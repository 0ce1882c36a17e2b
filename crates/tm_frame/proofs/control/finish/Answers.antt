use Rattle.std.proofs.Common.{◌≡◌, ◌-◌, ◌∙◌, ap, drop, length, arith}
use Rattle.tm_frame.specs.code.Folding.{octets_remainder, remainder_from, words_remainder}
use Rattle.tm_frame.proofs.FoldPairs.{second_half}
use Rattle.tm_frame.proofs.FoldWords.{last_four}
use Rattle.tm_frame.proofs.control.finish.Goals as goal

pub returns : goal.returns
returns c =
    let before : 4 ≡ length c.fill.new.words - 4 = omega (arith, c.fill.auto.words) in
    c.divide_four.ensures
    ∙ ap words_remainder (last_four c.fold.new.words (omega (arith, c.fold.auto.words)))
    ∙ ap (λ n. words_remainder (drop n c.fold.new.words)) before
    ∙ c.fold.ensures.same
    ∙ ap (remainder_from 0) c.fill.ensures.same
    ∙ ap octets_remainder (second_half 64 c.copy.new.octets c.fold_pairs.new.octets (omega (arith, c.copy.auto.octets)) (omega (arith, c.fold_pairs.auto.octets)))
    ∙ c.fold_pairs.ensures.same
    ∙ ap octets_remainder c.copy.ensures
