use Rattle.std.proofs.Common.{◌*◌, length, refl, arith}
use Rattle.std.proofs.lemmas.Simd.{length-chunk}
use Rattle.tm_frame.proofs.FoldPairs.{first_pair, pair_taken, last_added}
use Rattle.tm_frame.proofs.control.fold_pairs.Goals as goal

pub loop-i-init : goal.loop-i-init
loop-i-init c = record { both = refl; same = first_pair c.args.step _ _ }

pub loop-i-preserved : goal.loop-i-preserved
loop-i-preserved c =
    record {
      both = length-chunk (16 * c.loop-i.i) 16 c.split_at_mut-front.result.0.now (omega (arith, c.split_at_mut-front.ensures.front_len));
      same =
          pair_taken c.args.step c.loop-i.octets c.split_at_mut-front.result.0.now c.split_at_mut-front.result.1.now c.fold_pair.new.octets c.loop-i.before c.loop-i.i _
          c.requires.few (omega (arith, c.loop-i-test.true, c.loop-i.auto.octets, c.requires.room, c.requires.whole))
          c.split_at_mut-front.ensures.front c.split_at_mut-front.ensures.back c.fold_pair.ensures.len c.fold_pair.ensures.same c.loop-i.invariant.same;
    }

pub returns-clause-same : goal.returns-clause-same
returns-clause-same c =
    last_added c.args.step c.loop-i.octets c.split_at_mut-left.result.0.now c.split_at_mut-left.result.1.now c.add_pair.new.octets c.loop-i.before c.pair_across.result c.loop-i.i
    (length c.args.octets.now) _ c.requires.few c.requires.many (omega (arith, c.loop-i.auto.octets)) c.requires.room
    (omega (arith, c.loop-i-test.false, c.loop-i.auto.i-end, c.requires.room, c.requires.whole))
    c.split_at_mut-left.ensures.front c.split_at_mut-left.ensures.back c.add_pair.ensures.sum c.pair_across.ensures.octets c.loop-i.invariant.same
