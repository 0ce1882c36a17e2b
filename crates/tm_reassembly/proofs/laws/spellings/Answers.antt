use Rattle.tm_reassembly.proofs.OlderForms.{one-form}
use Rattle.tm_reassembly.proofs.Spelled.{spelled-again, old-spelled-again}
use Rattle.tm_reassembly.proofs.Spelling.{read-again, old-read-again, no-prefix, old-no-prefix}
use Rattle.tm_reassembly.proofs.laws.spellings.Goals as goal

pub returns : goal.returns
returns c = record {
  read_again = λ o rest. read-again o.rules o.state rest o.valid;
  no_prefix = λ o t rest. no-prefix o.rules o.state t rest o.valid;
  spelled_again = spelled-again;
  old_read_again = λ o rest. old-read-again o.rules o.state rest o.valid;
  old_spelled_again = old-spelled-again;
  old_no_prefix = λ o t rest. old-no-prefix o.rules o.state t rest o.valid;
  one_form = one-form;
}
