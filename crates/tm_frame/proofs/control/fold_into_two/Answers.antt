use Rattle.tm_frame.proofs.FoldWords.{word_into_two}
use Rattle.tm_frame.proofs.control.fold_into_two.Goals as goal

pub returns : goal.returns
returns c = word_into_two c.args.word c.args.next c.args.after c.ranges.word.fits
