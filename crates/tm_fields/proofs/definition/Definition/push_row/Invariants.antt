use Rattle.std.proofs.Common.{◌≡◌, ◌++◌, take}
use Rattle.csv.specs.Writing.{default_writer, fields_text, row_body}
use Rattle.std.specs.List.{flat_map}
use Rattle.tm_fields.specs.Rows.{lead_texts, printed}
use Rattle.tm_fields.proofs.definition.Definition.push_row.Given as goal

abbrev pub invariant-loop-field : goal.invariant-loop-field
invariant-loop-field l =
    l.row.items ≡ l.fn.row.items
    ++ (row_body default_writer (lead_texts l.fn.lead) ++ fields_text default_writer (flat_map (printed l.packet) (take l.field-index l.self)))
