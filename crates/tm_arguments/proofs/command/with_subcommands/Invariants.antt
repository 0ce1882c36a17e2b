use Rattle.std.proofs.Common.{◌≡◌, take, false}
use Rattle.std.specs.Prelude.{fold}
use Rattle.clap.specs.Words.{app_of}
use Rattle.clap.specs.declared.builder.command.Command.TheViews.{out-Command as fields_of}
use Rattle.tm_arguments.specs.code.Table.{with_described}
use Rattle.tm_arguments.proofs.command.with_subcommands.Given as goal

abbrev pub invariant-loop-described : goal.invariant-loop-described
invariant-loop-described l = (app_of l.command ≡ fold with_described (app_of l.initial.command) (take l.described-index l.table))
    × ((fields_of l.command).has_globals ≡ false)
