use Rattle.tm_reassembly.proofs.OlderForms.{without-first, few-left-out, items-lack, states-meet}
use Rattle.tm_reassembly.proofs.laws.forgotten_count.Goals as goal

pub returns : goal.returns
returns c = record {
  items_lack = λ o records. items-lack o.rules o.state records o.valid;
  without_first = λ o records later. without-first o.rules o.state records later o.valid;
  few_left_out = λ o records numbers. few-left-out o.rules o.state records numbers o.valid;
  states_meet = λ o records. states-meet o.rules o.state records o.valid;
}
