use Rattle.std.proofs.Common.{Option, Ok, refl, sym, ap, ◌∙◌, arith}
use Rattle.std.proofs.lemmas.List.{length-set}
use Rattle.tm_reassembly.specs.State.{Last}
use Rattle.tm_reassembly.specs.code.Slots.{lasts}
use Rattle.tm_reassembly.proofs.Blocks.{lasts_more, lasts_all}
use Rattle.tm_reassembly.proofs.Slots.{lasts_set, lasts_length, limit_at, limit_set}
use Rattle.tm_reassembly.proofs.reassembly.restore.Goals as goal

pub loop-channel-preserved : goal.loop-channel-preserved
loop-channel-preserved c =
    let before = limit_at c.args.rules.now.max_packet c.loop-channel.states c.loop-channel.channel c.index-states-channel.result c.loop-channel.invariant.2 (omega (arith, c.loop-channel-test.true, c.loop-channel.invariant.1)) in (
      rw (lasts_set c.loop-channel.states c.loop-channel.channel _)
          (lasts_more c.args.rules.now c.args.records c.args.octets.now (lasts c.loop-channel.states) _ _ _ _ _ c.loop-channel.invariant.0
          (lasts_length c.loop-channel.states ∙ c.loop-channel.invariant.1) c.loop-channel-test.true refl
          (c.in-Ok.ensures.ok.0 ∙ ap (λ (k : Option Last). Ok (record { last = k; octets = c.in-Ok.used })) (sym c.restore.ensures.0)) c.in-Ok.ensures.ok.1),
      length-set _ _ _ ∙ c.loop-channel.invariant.1,
      limit_set c.args.rules.now.max_packet c.loop-channel.states c.loop-channel.channel _ c.loop-channel.invariant.2 (c.restore.ensures.1 ∙ before.0, omega (arith, c.restore.ensures.2, before.1)),
    )

pub returns-clause-ok : goal.returns-clause-ok
returns-clause-ok c = (
  lasts_all c.args.rules.now c.args.records c.args.octets.now (lasts c.loop-channel.states) _ _ c.loop-channel.invariant.0
      (lasts_length c.loop-channel.states ∙ c.loop-channel.invariant.1) (omega (arith, c.loop-channel-test.false)),
  c.loop-channel.invariant.0.inside,
)
