use Rattle.std.proofs.Common.{◌++◌, [], take, Some}
use Rattle.std.specs.List.{flat_map}
use Rattle.tm_fields.specs.code.Line.{HasValues}
use Rattle.tm_fields.specs.Rows.{lead_names, named}
use Rattle.tm_fields.proofs.definition.Definition.head.Given as goal

abbrev pub invariant-loop-field : goal.invariant-loop-field
invariant-loop-field l = HasValues (λ v. Some v.items) l.writer [] (lead_names ++ flat_map named (take l.field-index l.self))
