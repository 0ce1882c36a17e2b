use Rattle.std.proofs.Common.{◌≡◌, take, false}
use Rattle.std.specs.Prelude.{fold}
use Rattle.clap.specs.Words.{app_of}
use Rattle.clap.specs.declared.builder.command.Command.TheViews.{out-Command as fields_of}
use Rattle.tm_arguments.specs.code.Table.{with_word}
use Rattle.tm_arguments.proofs.command.command_of.Given as goal

abbrev pub invariant-loop-argument : goal.invariant-loop-argument
invariant-loop-argument l = (app_of l.command ≡ fold with_word (app_of l.initial.command) (take l.argument-index l.described.arguments.now))
    × ((fields_of l.command).has_globals ≡ false)
