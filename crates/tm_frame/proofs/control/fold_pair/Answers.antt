use Rattle.std.proofs.Common.{length}
use Rattle.tm_frame.specs.code.Folding.{octets_remainder}
use Rattle.tm_frame.proofs.FoldPairs.{pair_folds}
use Rattle.tm_frame.proofs.control.fold_pair.Goals as goal

pub returns-clause-same : goal.returns-clause-same
returns-clause-same c =
    pair_folds c.args.step c.args.before c.args.pair c.args.octets.now c.pair_across.result
    (octets_remainder c.add_pair.new.octets) (octets_remainder c.add_pair-2.new.octets) (octets_remainder c.add_pair-3.new.octets)
    (length c.add_pair.new.octets) (length c.add_pair-2.new.octets)
    c.requires.folds c.requires.few c.requires.many
    c.add_pair-3.ensures.sum c.add_pair-2.ensures.sum c.add_pair.ensures.sum c.pair_across.ensures.octets
    c.add_pair-2.ensures.len c.add_pair.ensures.len c.requires.room c.requires.sixteen
