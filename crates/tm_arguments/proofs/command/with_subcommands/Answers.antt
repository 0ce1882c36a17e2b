use Rattle.std.proofs.Common.{◌∙◌, ap, ap₂, sym}
use Rattle.std.proofs.lemmas.List.Sums.{fold_more}
use Rattle.clap.specs.Words.{App, with_subcommand}
use Rattle.tm_arguments.specs.code.Table.{with_described}
use Rattle.tm_arguments.proofs.command.with_subcommands.Goals as goal

pub loop-described-preserved : goal.loop-described-preserved
loop-described-preserved c =
    let sub = c.in_ok-subcommand.ensures in
    let adds = c.in_ok-command.ensures in
    let (so_far, local) = c.loop-described.invariant in (
      adds.shape sub.local ∙ ap₂ with_subcommand so_far (ap (λ (a : App). a.top) sub.app) ∙ sym (fold_more with_described _ _ _ _ c.loop-described-test.true),
      rw (local, sub.local) at adds.globals,
    )
