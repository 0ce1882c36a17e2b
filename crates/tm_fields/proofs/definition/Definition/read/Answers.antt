use Rattle.std.proofs.Common.{◌≡◌, map}
use Rattle.csv.specs.Records.{fields_of}
use Rattle.tm_fields.specs.Reading.{definition_of, fields_in}
use Rattle.tm_fields.proofs.Kept.{kept_definition}
use Rattle.tm_fields.proofs.definition.Definition.read.Goals as goal

pub returns : goal.returns
returns c =
    let records = map fields_of c.in_ok-table.table.items in
    let same : fields_in records ≡ definition_of c.args.text.now = kept_definition c.args.text.now records c.in_ok-table.ensures.rows c.in_ok-table.ensures.same in
    record { ok = rw (c.as_slice.ensures.value, same) at c.read_records.ensures.ok; refused = rw (c.as_slice.ensures.value, same) at c.read_records.ensures.refused }
