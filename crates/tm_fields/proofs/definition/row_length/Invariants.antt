use Rattle.std.proofs.Common.{◌≡◌, ◌≤◌, ◌+◌, ◌*◌, take}
use Rattle.std.specs.List.{sum_by}
use Rattle.tm_fields.specs.Binary.{value_length}
use Rattle.tm_fields.proofs.definition.row_length.Given as goal

abbrev pub invariant-loop-field : goal.invariant-loop-field
invariant-loop-field l = record {
  sum : l.length ≡ 16 + sum_by value_length (take l.field-index l.fields);
  few : l.length ≤ 16 + 65542 * l.field-index;
}
