use Rattle.tm_checkpoint.proofs.CheckpointLemmas.{read_again, older_again, written_again, valid_again, bound, most}
use Rattle.tm_checkpoint.proofs.NoPrefix.{no_prefix}
use Rattle.tm_checkpoint.proofs.laws.checkpoints.Goals as goal

pub returns : goal.returns
returns c = record {
  read_again = read_again;
  older_again = older_again;
  written_again = written_again;
  valid = valid_again;
  no_prefix = no_prefix;
  bound = bound;
  most = most;
}
