use Rattle.std.proofs.Common.{arith}
use Rattle.tm_packet.specs.Merge as sequence
use Rattle.tm_summary.proofs.Tallied.{all_counted, keys_fit, open_counted}
use Rattle.tm_summary.proofs.laws.giving.Goals as goal

pub returns : goal.returns
returns c = record { items = all_counted; «open» = λ t e most. open_counted t (sequence.unclosed 0 e) (keys_fit 0 e (omega (arith, most))) }
