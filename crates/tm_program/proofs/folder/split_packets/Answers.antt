use Rattle.tm_program.proofs.EndingLemmas.{split_ends}
use Rattle.tm_program.proofs.folder.split_packets.Goals as goal

pub returns-clause-done : goal.returns-clause-done
returns-clause-done g c =
    split_ends c.args.ending c.args.job.work _ _ c.split_and_count-done.result c.split_end.result c.split_and_count-done.ensures.ran c.split_end.ensures.done
