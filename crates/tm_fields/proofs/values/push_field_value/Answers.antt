use Rattle.std.proofs.Common.{sym}
use Rattle.std.proofs.lemmas.List.{append-nil}
use Rattle.csv.specs.Writing.{fields_text}
use Rattle.tm_fields.proofs.values.push_field_value.Goals as goal

pub returns-in-Fill : goal.returns-in-Fill
unfolding fields_text
returns-in-Fill c = rw c.in-Fill.is (sym (append-nil c.args.row.now.items))
