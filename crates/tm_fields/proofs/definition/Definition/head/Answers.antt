use Rattle.std.proofs.Common.{◌≡◌, ℕ, ◌++◌, [], take, Some, List, subst, ◌∙◌, arith, length-append}
use Rattle.std.proofs.lemmas.List.{take_all}
use Rattle.std.specs.List.{flat_map}
use Rattle.tm_fields.specs.code.Line.{HasValues}
use Rattle.tm_fields.specs.Rows.{lead_names, named}
use Rattle.tm_fields.proofs.RowLemmas.{values_more}
use Rattle.tm_fields.proofs.definition.Definition.head.Goals as goal

pub loop-field-preserved : goal.loop-field-preserved
loop-field-preserved c =
    let same = c.deref-field-items.ensures.value ∙ c.self.view_is in
    let inside = rw same at c.loop-field-test.true in
    let is = rw same at c.field-item.is in
    let i : ℕ = c.loop-field.field-index in
    let more = values_more named lead_names c.args.self.now i c.field-item.result inside is in
    subst (λ (values : List (List ℕ)). HasValues (λ v. Some v.items) c.write_field_name.new.writer [] values) more
    (c.in_ok-write_field_name.ensures [] (lead_names ++ flat_map named (take i c.args.self.now)) c.loop-field.invariant)

pub returns : goal.returns
returns c =
    let same = c.deref-field-items.ensures.value ∙ c.self.view_is in
    let left = rw same at c.loop-field-test.false in
    let fields = c.args.self.now in
    let all : take c.loop-field.field-index fields ≡ fields = take_all c.loop-field.field-index fields left in
    let values : List (List ℕ) = lead_names ++ flat_map named fields in
    let written = rw all at c.loop-field.invariant in
    c.in_ok-into_text.ensures _ (c.in_ok-end.ensures [] values (omega (arith, length-append lead_names (flat_map named fields))) written)
