use Rattle.std.proofs.Common.{arith}
use Rattle.tm_items.proofs.Leads.{leads_all, leads_refused}
use Rattle.tm_reassembly.proofs.Slots.{close_more}
use Rattle.tm_reassembly.proofs.reassembly.close_channels.Goals as goal

pub returns-in-Err : goal.returns-in-Err
returns-in-Err g c = record {
  given = leads_refused c.loop-channel.invariant _ _ _ _
      (close_more c.args.seen c.loop-channel.channel c.args.states.now c.index-states-channel.result (omega (arith, c.loop-channel-test.true)))
      c.in-Err.ensures.given;
}

pub loop-channel-preserved : goal.loop-channel-preserved
loop-channel-preserved g c =
    leads_all c.loop-channel.invariant _ _ _
    (close_more c.args.seen c.loop-channel.channel c.args.states.now c.index-states-channel.result (omega (arith, c.loop-channel-test.true)))
    c.in_default.ensures.given
