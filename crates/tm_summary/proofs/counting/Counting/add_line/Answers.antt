use Rattle.std.proofs.Common.{sym, ◌∙◌}
use Rattle.tm_items.specs.Sinks.{item_of}
use Rattle.tm_summary.proofs.GivenLemmas.{line_given, line_noted}
use Rattle.tm_summary.proofs.counting.Counting.add_line.Goals as goal

pub returns-clause-noted : goal.returns-clause-noted
returns-clause-noted c = sym (line_noted _ (item_of c.args.item) c.requires.line)

pub returns-clause-counted : goal.returns-clause-counted
returns-clause-counted c = c.add_item.ensures ∙ sym (line_given _ _ (item_of c.args.item) c.requires.line)
