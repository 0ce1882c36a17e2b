use Rattle.std.proofs.Common.{refl, arith}
use Rattle.tm_reassembly.proofs.Blocks.{asked_fault, some_all}
use Rattle.tm_reassembly.proofs.reassembly.check_channels.Goals as goal

pub returns-in-Err-clause-refused : goal.returns-in-Err-clause-refused
returns-in-Err-clause-refused c =
    asked_fault _ _ _ _ _ _ _ _ c.loop-channel.invariant.reads c.loop-channel-test.true refl c.in-Err.ensures.refused

pub returns-clause-ok : goal.returns-clause-ok
returns-clause-ok c = some_all _ _ _ _ _ c.loop-channel.invariant (omega (arith, c.loop-channel-test.false))
