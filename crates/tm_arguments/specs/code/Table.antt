-- What `clap` makes of the table of arguments.
use Rattle.std.specs.Prelude.{Some, fold}
use Rattle.clap.specs.Walk.{Rule, Text}
use Rattle.clap.specs.Simple.{App, new_app, new_rule, with_rule, with_subcommand}
use Rattle.clap.specs.declared.builder.action.ArgAction.TheVariants.{SetTrue}
use Rattle.clap.specs.declared.builder.value_parser.ValueParser.TheVariants as parser
use Rattle.tm_arguments.specs.declared.table.ArgumentForm.{ArgumentForm}
use Rattle.tm_arguments.specs.declared.table.ArgumentForm.TheVariants.{Bare, Text as AnyText, Number, Flag}
use Rattle.tm_arguments.specs.declared.table.Argument.{Argument}
use Rattle.tm_arguments.specs.declared.table.Subcommand.{Subcommand}

-- a rule, with what the form of an argument of this name adds
abbrev pub with_form : Text → ArgumentForm → Rule → Rule
with_form name (Bare value) rule = record rule { value_names = 1 }
with_form name (AnyText value) rule = record rule { long = Some name; value_names = 1 }
with_form name (Number least most) rule = record rule { long = Some name; value_names = 1; parser = Some (parser.Signed least most) }
with_form name Flag rule = record rule { long = Some name; action = Some SetTrue }

-- the rule of `clap`'s argument for one of the table
abbrev pub rule_for : Argument → Rule
rule_for w = with_form w.name.now w.form (record (new_rule w.name.now) { required = w.required })

-- a command with an argument more
abbrev pub with_word : App → Argument → App
with_word a w = with_rule a (rule_for w)

-- a subcommand, with its arguments one after the other
abbrev pub app_for : Subcommand → App
app_for s = fold with_word (new_app s.name.now) s.arguments.now

-- a command with a subcommand more
abbrev pub with_described : App → Subcommand → App
with_described a s = with_subcommand a (app_for s).top
