use Rattle.std.proofs.Common.{ap, arith, length, length-drop}
use Rattle.std.proofs.lemmas.List.{take_rest}
use Rattle.tm_reassembly.proofs.Decoding.{decoding_behind, decoding_master}
use Rattle.tm_reassembly.proofs.reassembly.read_front.Goals as goal

pub returns-in-Ok-clause-ok : goal.returns-in-Ok-clause-ok
returns-in-Ok-clause-ok c = record {
  same = λ rules. decoding_behind c.args.form rules c.args.octets.now c.if-octets-lt4.false c.four_at.result c.in-Ok.used c.in-Ok.master
      c.four_at.ensures c.in-Ok.ensures.ok.0;
  count = c.in-Ok.ensures.ok.1;
  inside = omega (arith, c.in-Ok.ensures.ok.2, ap length (take_rest c.args.octets.now 4), length-drop 4 c.args.octets.now);
  few = omega (arith, c.in-Ok.ensures.ok.3);
}

pub returns-in-Err-clause-refused : goal.returns-in-Err-clause-refused
returns-in-Err-clause-refused c = λ rules.
    decoding_master c.args.form rules c.args.octets.now c.if-octets-lt4.false c.in-Err.fault c.in-Err.ensures.refused
