use Rattle.std.proofs.Common.{refl}
use Rattle.tm_fields.proofs.reading.read_field.Goals as goal

pub returns-clause-names : goal.returns-clause-names
returns-clause-names c =
    c.in_ok-name.ensures.names c.args.fields.now (record { name = c.in_ok-name.name; data_type = c.in_ok-data_type.data_type; begin = c.in_ok-begin.begin; length = c.in_ok-length.length })
    c.requires.names refl refl
