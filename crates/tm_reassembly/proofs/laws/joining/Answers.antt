use Rattle.tm_reassembly.proofs.Raw.{items-join, states-join}
use Rattle.tm_reassembly.proofs.laws.joining.Goals as goal

pub returns : goal.returns
returns c = record {
  items_join = λ o a b. items-join o.rules o.state a b o.valid;
  states_join = λ o a b. states-join o.rules o.state a b o.valid;
}
