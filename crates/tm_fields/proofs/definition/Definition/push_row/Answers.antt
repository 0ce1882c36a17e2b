use Rattle.std.proofs.Common.{◌≡◌, ℕ, ◌++◌, ◌∷◌, [], take, ap, sym, ◌∙◌, append_assoc}
use Rattle.std.proofs.lemmas.List.{append-nil, take_all}
use Rattle.std.specs.List.{flat_map}
use Rattle.csv.specs.Writing.{default_writer, fields_text, row_body}
use Rattle.tm_fields.specs.Rows.{lead_texts, printed}
use Rattle.tm_fields.proofs.LineLemmas.{fields_of_both}
use Rattle.tm_fields.proofs.RowLemmas.{row_whole, values_more}
use Rattle.tm_fields.proofs.definition.Definition.push_row.Goals as goal

pub loop-field-init : goal.loop-field-init
unfolding fields_text
loop-field-init c =
    let lead = row_body default_writer (lead_texts c.args.lead) in
    c.in_ok-push_lead.ensures ∙ ap (λ values. c.args.row.now.items ++ values) (sym (append-nil lead))

pub loop-field-preserved : goal.loop-field-preserved
loop-field-preserved c =
    let same = c.deref-field-items.ensures.value ∙ c.self.view_is in
    let inside = rw same at c.loop-field-test.true in
    let is = rw same at c.field-item.is in
    let i : ℕ = c.loop-field.field-index in
    let print = printed c.args.packet.now in
    let more = values_more print [] c.args.self.now i c.field-item.result inside is in
    let lead = row_body default_writer (lead_texts c.args.lead) in
    let before = fields_text default_writer (flat_map print (take i c.args.self.now)) in
    let next = fields_text default_writer (print c.field-item.result) in
    let both = sym (fields_of_both (flat_map print (take i c.args.self.now)) (print c.field-item.result)) ∙ ap (fields_text default_writer) more in
    c.in_ok-push_field_value.ensures
    ∙ ap (λ row. row ++ next) c.loop-field.invariant
    ∙ append_assoc c.args.row.now.items (lead ++ before) next
    ∙ ap (λ values. c.args.row.now.items ++ values) (append_assoc lead before next ∙ ap (λ values. lead ++ values) both)

pub returns : goal.returns
returns c =
    let same = c.deref-field-items.ensures.value ∙ c.self.view_is in
    let left = rw same at c.loop-field-test.false in
    let fields = c.args.self.now in
    let all : take c.loop-field.field-index fields ≡ fields = take_all c.loop-field.field-index fields left in
    let made = rw all at c.loop-field.invariant in
    let values = flat_map (printed c.args.packet.now) fields in
    let body = row_body default_writer (lead_texts c.args.lead) ++ fields_text default_writer values in
    c.in_ok-push.ensures.items
    ∙ ap (λ row. row ++ 10 ∷ []) made
    ∙ append_assoc c.args.row.now.items body (10 ∷ [])
    ∙ ap (λ line. c.args.row.now.items ++ line) (row_whole c.args.lead values)
