use Rattle.tm_reassembly.proofs.Limited.{packets-limited}
use Rattle.tm_reassembly.proofs.laws.limited_packets.Goals as goal

pub returns : goal.returns
returns c = record { limited = λ o records. packets-limited o.rules o.state records o.valid }
