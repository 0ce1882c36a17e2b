use Rattle.std.proofs.Common.{◌≡◌, sym, ◌∙◌, true}
use Rattle.std.proofs.lemmas.Result.{on_ok_weaker}
use Rattle.tm_fields.specs.Reading.{is_shown}
use Rattle.tm_fields.proofs.Names.{names_more}
use Rattle.tm_fields.proofs.reading.add_name.Goals as goal

pub returns-then-has_column-clause-names : goal.returns-then-has_column-clause-names
returns-then-has_column-clause-names c = λ fields f are kind same.
    let shown : is_shown f.data_type ≡ true = rw kind (sym c.has_column.ensures ∙ c.if-has_column.true) in
    on_ok_weaker c.insert.result (λ updates. names_more fields c.args.names.now c.insert.new.self c.args.name f are updates shown same) c.insert.ensures.updates
