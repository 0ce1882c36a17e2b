use Rattle.std.proofs.Common.{arith, sym, ◌∙◌}
use Rattle.tm_summary.proofs.WritingLemmas.{channel_has, stopped_first, then_stopped}
use Rattle.tm_summary.proofs.writing.write_channel.Goals as goal

pub returns-in-Err-clause-written : goal.returns-in-Err-clause-written
returns-in-Err-clause-written g c =
    rw (channel_has c.args.chosen.now c.args.channel c.args.counts.now (sym c.has.ensures ∙ c.if-not-has.false) (omega arith))
    (stopped_first _ c.in-Err.ensures.written)

pub returns-in-Err-write_losses-clause-written : goal.returns-in-Err-write_losses-clause-written
returns-in-Err-write_losses-clause-written g c =
    rw (channel_has c.args.chosen.now c.args.channel c.args.counts.now (sym c.has.ensures ∙ c.if-not-has.false) (omega arith))
    (then_stopped c.in_default.ensures.written c.in-Err-write_losses.ensures.written)
