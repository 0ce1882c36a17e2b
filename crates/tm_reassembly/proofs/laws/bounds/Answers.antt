use Rattle.tm_reassembly.proofs.Bounded.{record-events, record-sizes}
use Rattle.tm_reassembly.proofs.laws.bounds.Goals as goal

pub returns : goal.returns
returns c = record {
  events = λ o octets range. record-events o.rules o.state octets o.valid range.longest;
  sizes = λ o octets range. record-sizes o.rules o.state octets o.valid range.longest;
}
