use Rattle.std.proofs.Common.{append_assoc, arith}
use Rattle.tm_reassembly.proofs.Slots.{rest_length, spelled_rest}
use Rattle.tm_reassembly.proofs.reassembly.push_channels.Goals as goal

pub push-requires : goal.push-requires
push-requires c =
    omega (arith, rest_length c.args.states.now c.loop-channel.channel c.index-states-channel.result (omega (arith, c.loop-channel-test.true)), c.loop-channel.invariant.1)

pub loop-channel-preserved : goal.loop-channel-preserved
loop-channel-preserved c =
    let e = spelled_rest c.args.states.now c.loop-channel.channel c.index-states-channel.result (omega (arith, c.loop-channel-test.true)) in
    let l = rest_length c.args.states.now c.loop-channel.channel c.index-states-channel.result (omega (arith, c.loop-channel-test.true)) in (
      rw (c.push.ensures.0, append_assoc, ← e) c.loop-channel.invariant.0,
      omega (arith, l, c.loop-channel.invariant.1, c.push.ensures.1, c.push.ensures.2),
    )
