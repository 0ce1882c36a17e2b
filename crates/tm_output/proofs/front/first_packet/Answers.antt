use Rattle.std.proofs.Common.{refl, ◌∙◌, append-nil}
use Rattle.tm_output.proofs.SpanLemmas.{front_is}
use Rattle.tm_output.proofs.front.first_packet.Goals as goal

pub slice_bounds-result-end : goal.slice_bounds-result-end
slice_bounds-result-end c = (front_is c.args.limit c.length.result c.args.span.octets.now c.in-Some.header c.in-Some.ensures c.length.ensures).whole

pub returns-in-Some-clause-some : goal.returns-in-Some-clause-some
returns-in-Some-clause-some c =
    let is = front_is c.args.limit c.length.result c.args.span.octets.now c.in-Some.header c.in-Some.ensures c.length.ensures in
    record {
      item = refl;
      channel_is = refl;
      header = is.own;
      some = is.some;
      first = record { inside = rw (← is.whole) is.inside; octets = append-nil _ ∙ rw (← is.whole) refl; front = is.front };
    }
