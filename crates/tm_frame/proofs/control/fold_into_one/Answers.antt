use Rattle.tm_frame.proofs.FoldWords.{word_into_one}
use Rattle.tm_frame.proofs.control.fold_into_one.Goals as goal

pub returns : goal.returns
returns c = word_into_one c.args.word c.args.next c.ranges.word.fits
