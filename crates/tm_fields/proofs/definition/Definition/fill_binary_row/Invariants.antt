use Rattle.std.proofs.Common.{◌≡◌, ◌++◌, ◌+◌, length, take, drop}
use Rattle.std.specs.List.{flat_map, sum_by}
use Rattle.tm_fields.specs.Binary.{value_length, value_octets, row_lead}
use Rattle.tm_fields.proofs.definition.Definition.fill_binary_row.Given as goal

abbrev pub invariant-loop-field : goal.invariant-loop-field
invariant-loop-field l = record {
  left : l.place + sum_by value_length (drop l.field-index l.self) ≡ length l.row;
  put : take l.place l.row ≡ row_lead l.fn.lead ++ flat_map (value_octets l.packet) (take l.field-index l.self);
}
