use Rattle.std.proofs.Common.{◌∙◌, arith}
use Rattle.tm_frame.proofs.Division.{octets_apart}
use Rattle.tm_frame.proofs.control.error_control.Goals as goal

pub loop-rest-preserved : goal.loop-rest-preserved
loop-rest-preserved c = record {
  whole = omega (arith, c.split_at-in-loop-rest.ensures.back_len, c.loop-rest.invariant.whole);
  same =
      octets_apart _ _ 128 c.loop-rest.rest.now _ _ c.split_at-in-loop-rest.ensures.front c.split_at-in-loop-rest.ensures.back c.append_block.ensures
      ∙ c.loop-rest.invariant.same;
}
