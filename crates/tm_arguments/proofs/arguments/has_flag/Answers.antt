use Rattle.std.proofs.Common.{◌∙◌}
use Rattle.clap.specs.Words.{found_of, one_text}
use Rattle.clap.proofs.WalkLemmas.{one_text-rows}
use Rattle.tm_arguments.proofs.Getters.{one_flag}
use Rattle.tm_arguments.proofs.arguments.has_flag.Goals as goal

pub returns : goal.returns
returns c =
    rw (← one_text-rows (found_of c.args.matches.now) c.args.id.now)
    (c.unwrap_or.ensures ∙ one_flag _ (one_text (found_of c.args.matches.now) c.args.id.now) c.get_one.result c.get_one.ensures.none c.get_one.ensures.value)
