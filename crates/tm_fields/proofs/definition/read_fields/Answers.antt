use Rattle.std.proofs.Common.{◌≡◌, ◌∷◌, [], arith, sym, ◌∙◌, rules, true, refl, length-append}
use Rattle.std.specs.Result.{is_ok}
use Rattle.std.proofs.lemmas.Result.{err_from_is_err_and}
use Rattle.std.proofs.lemmas.List.Folds.{list_all-append}
use Rattle.csv.specs.Records.{fields_of}
use Rattle.tm_fields.specs.Reading.{is_sound}
use Rattle.tm_fields.proofs.Fields.{last_end_more, needed_more, next_read, next_refused}
use Rattle.tm_fields.proofs.definition.read_fields.Goals as goal

pub returns-in_err-field-clause-refused : goal.returns-in_err-field-clause-refused
returns-in_err-field-clause-refused c =
    let p = err_from_is_err_and c.from_residual.result c.from_residual.ensures.1 in
    let step = rw c.as_slice.ensures.value at c.in_err-field.ensures.refused in
    rw (p.1, p.2) (λ apart. sym c.loop-values.invariant.rest ∙ next_refused fields_of c.args.columns.now c.loop-values.fields.items c.args.records.now c.loop-values.values-index c.values-item.result _ (omega arith) c.values-item.is (step apart))

pub loop-values-preserved : goal.loop-values-preserved
loop-values-preserved c =
    let fields = c.loop-values.fields.items in
    let x = c.in_ok-field.field in
    let ok = rw c.as_slice.ensures.value at c.in_ok-field.ensures.ok in
    let good : is_ok c.push.result ≡ true = search rules in
    let items = rw good at c.push.ensures.items in
    let step = next_read fields_of c.args.columns.now fields c.args.records.now c.loop-values.values-index c.values-item.result x (omega arith) c.values-item.is ok in
    rw items (record {
      rest = sym step ∙ c.loop-values.invariant.rest;
      before = sym (last_end_more 48 fields x);
      sound = list_all-append is_sound fields (x ∷ []) ∙ rw (c.loop-values.invariant.sound, c.in_ok-field.ensures.sound) refl;
      needed = c.max-needed.ensures ∙ sym (needed_more fields c.loop-values.needed x c.loop-values.invariant.needed);
      names = rw c.as_slice.ensures.value at c.in_ok-field.ensures.names;
      count = omega (arith, length-append fields (x ∷ []), c.loop-values.invariant.count);
    })
