use Rattle.std.proofs.Common.{arith}
use Rattle.tm_reassembly.proofs.Slots.{more_length}
use Rattle.tm_reassembly.proofs.reassembly.spelled_length.Goals as goal

pub loop-channel-preserved : goal.loop-channel-preserved
loop-channel-preserved c =
    let l = more_length c.args.states.now c.loop-channel.channel c.index-states-channel.result (omega (arith, c.loop-channel-test.true)) in (
      omega (arith, l, c.loop-channel.invariant.0, c.spelled_length-length.ensures.value),
      omega (arith, c.loop-channel.invariant.1, c.spelled_length-length.ensures.most),
    )
