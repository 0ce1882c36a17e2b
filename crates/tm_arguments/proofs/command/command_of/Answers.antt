use Rattle.std.proofs.Common.{◌∙◌, ap₂, sym}
use Rattle.std.proofs.lemmas.List.Sums.{fold_more}
use Rattle.clap.specs.Words.{with_rule}
use Rattle.tm_arguments.specs.code.Table.{with_word}
use Rattle.tm_arguments.proofs.command.command_of.Goals as goal

pub loop-argument-preserved : goal.loop-argument-preserved
loop-argument-preserved c =
    let adds = c.in_ok-command.ensures in
    let (so_far, local) = c.loop-argument.invariant in (
      adds.shape c.arg_of.ensures.local ∙ ap₂ with_rule so_far c.arg_of.ensures.rule ∙ sym (fold_more with_word _ _ _ _ c.loop-argument-test.true),
      rw (local, c.arg_of.ensures.local) at adds.globals,
    )
