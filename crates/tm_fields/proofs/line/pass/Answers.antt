use Rattle.std.proofs.Common.{◌≡◌, ◌∙◌, [], false, rules}
use Rattle.std.specs.Result.{is_err}
use Rattle.csv.proofs.ReadFacts.{on-ok}
use Rattle.tm_fields.specs.code.Line.{HasValues}
use Rattle.tm_fields.proofs.LineLemmas.{lines_kept, lines_passed}
use Rattle.tm_fields.proofs.line.pass.Goals as goal

pub returns : goal.returns
returns g c = λ lines h.
    let passed : is_err c.flush.result ≡ false = search rules in
    let text = lines_kept _ _ _ h.text c.flush.ensures.bytes in
    let whole : HasValues g.W.Write.contents c.flush.new.self lines [] = record { setup = c.flush.ensures.setup ∙ h.setup; count = c.flush.ensures.fields ∙ h.count; text = text } in
    record {
      whole = whole;
      passed = lines_passed _ lines _ text (on-ok c.flush.result passed c.flush.ensures.pending);
    }
