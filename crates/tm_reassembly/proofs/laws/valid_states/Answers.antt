use Rattle.tm_reassembly.proofs.States.{empty-valid, records-valid, short-held}
use Rattle.tm_reassembly.proofs.laws.valid_states.Goals as goal

pub returns : goal.returns
returns c = record {
  none = empty-valid;
  left_valid = λ o records. records-valid o.rules o.state records o.valid;
  short_tails = λ o. short-held o.rules o.state o.valid;
}
