use Rattle.std.proofs.Common.{◌≡◌, ◌≢◌, ◌∷◌, [], false, rules, arith, length-append, ◌∙◌}
use Rattle.std.specs.Result.{is_err}
use Rattle.csv.proofs.ReadFacts.{on-ok}
use Rattle.csv.specs.Writing.{writer_setup}
use Rattle.csv.specs.declared.writer.QuoteStyle.TheVariants as style
use Rattle.tm_fields.proofs.LineLemmas.{line_more}
use Rattle.tm_fields.proofs.line.write_value.Goals as goal

pub returns : goal.returns
returns g c = λ lines values h.
    let wrote : is_err c.write_field.result ≡ false = search rules in
    let plain : (writer_setup c.args.writer.now).style ≢ style.NonNumeric = rw h.setup (λ e. cc e) in
    let appended = rw h.setup at (on-ok c.write_field.result wrote c.write_field.ensures.text plain) in
    record {
      setup = on-ok c.write_field.result wrote c.write_field.ensures.same ∙ h.setup;
      count = on-ok c.write_field.result wrote c.write_field.ensures.count ∙ rw h.count (omega (arith, length-append values (c.args.value.now ∷ [])));
      text = line_more _ _ lines values c.args.value.now _ h.text h.count appended;
    }
