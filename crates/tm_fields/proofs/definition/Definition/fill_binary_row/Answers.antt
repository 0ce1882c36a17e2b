use Rattle.std.proofs.Common.{ℕ, ◌++◌, ap, sym, ◌∙◌, arith, length, length-take-le}
use Rattle.std.proofs.lemmas.List.Sums.{sum_by-drop_more}
use Rattle.tm_fields.specs.Binary.{value_length, value_octets, row_lead}
use Rattle.tm_fields.proofs.RowLemmas.{values_more}
use Rattle.tm_fields.proofs.definition.Definition.fill_binary_row.Goals as goal

pub copy_from_slice-requires : goal.copy_from_slice-requires
copy_from_slice-requires c = length-take-le 16 c.args.row.now (omega (arith, c.requires.length)) ∙ sym (ap length c.row_lead.ensures)

pub loop-field-preserved : goal.loop-field-preserved
loop-field-preserved c =
    let same = c.deref-field-items.ensures.value ∙ c.self.view_is in
    let inside = rw same at c.loop-field-test.true in
    let is = rw same at c.field-item.is in
    let i : ℕ = c.loop-field.field-index in
    let octets = value_octets c.args.packet.now c.field-item.result in
    let left = sum_by-drop_more value_length c.args.self.now i c.field-item.result inside in
    let here = ap value_length is in
    record {
      left = omega (arith, left, here, c.loop-field.invariant.left, c.write_value_octets-place.ensures.after);
      put =
          c.write_value_octets-place.ensures.put
          ∙ ap (λ row. row ++ octets) c.loop-field.invariant.put
          ∙ values_more (value_octets c.args.packet.now) (row_lead c.args.lead) c.args.self.now i c.field-item.result inside is;
    }
