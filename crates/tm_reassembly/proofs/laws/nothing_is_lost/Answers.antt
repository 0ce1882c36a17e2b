use Rattle.tm_reassembly.proofs.Merged.{seen-in_time, channel-told, channel-in_order, told-channel, masters-told}
use Rattle.tm_reassembly.proofs.laws.nothing_is_lost.Goals as goal

pub returns : goal.returns
returns c = record {
  in_time = λ o records. seen-in_time o.rules o.state records o.valid;
  told = λ o records. channel-told o.rules o.state records o.valid;
  in_order = λ o records. channel-in_order o.rules o.state records o.valid;
  nothing_added = told-channel;
  masters = λ o records. masters-told o.rules o.state records o.valid;
}
