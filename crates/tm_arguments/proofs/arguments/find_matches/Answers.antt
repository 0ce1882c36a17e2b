use Rattle.std.proofs.Common.{◌≡◌, ◌∙◌, ap, List, map, string_bytes}
use Rattle.std.proofs.lemmas.Result.{IfErr-weaker, IfOk-weaker}
use Rattle.clap.specs.Words.{App, Text, app_of, fault_of, is_simple, is_simple_and_free, subcommand_of, takes}
use Rattle.tm_arguments.specs.CommandLine.{tmx, is_accepted, faults_of, matches_of}
use Rattle.tm_arguments.proofs.Required.{told_of, tmx_simple, tmx_free}
use Rattle.tm_arguments.proofs.arguments.find_matches.Goals as goal

pub returns : goal.returns
unfolding is_accepted faults_of matches_of
returns c =
    let arguments : List Text = map string_bytes c.args.arguments.now in
    let app_is : app_of c.in_ok-tmx_command.field-0 ≡ tmx = c.in_ok-tmx_command.ensures.app in
    let parse = c.try_get_matches_from in
    let told = told_of parse.result _ _ (ap (λ (a : App). fault_of a arguments) app_is) (parse.ensures.kinds (ap is_simple_and_free app_is ∙ tmx_free)) in
    record {
      rows = IfOk-weaker parse.result _ _ (λ m h. (h (ap is_simple app_is ∙ tmx_simple)).1 ∙ ap (λ (a : App). subcommand_of a arguments) app_is) parse.ensures.matches;
      whole = told.0;
      accepted = IfErr-weaker parse.result _ _ (λ e h t. h (ap (λ (a : App). takes a arguments) app_is ∙ t)) parse.ensures.passes;
      kinds = told.1;
    }
