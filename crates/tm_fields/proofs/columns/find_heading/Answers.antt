use Rattle.std.proofs.Common.{◌≡◌, true, false, arith, sym, ◌∙◌}
use Rattle.std.specs.Prelude.{if◌then◌else◌}
use Rattle.std.specs.Str.{bytes_eq}
use Rattle.csv.specs.Records.{fields_of}
use Rattle.tm_fields.specs.code.Reading.{met}
use Rattle.tm_fields.specs.Values.{value}
use Rattle.tm_fields.proofs.Places.{standing_step}
use Rattle.tm_fields.proofs.columns.find_heading.Goals as goal
use Rattle.tm_fields.proofs.columns.find_heading.Goals.{then-is_text, else-is_text}

pub loop-at-preserved : goal.loop-at-preserved
loop-at-preserved c =
    let word = c.args.word.now in
    let fs = fields_of c.args.headings.now in
    let i = c.loop-at.at in
    let test = rw c.value_at.ensures at c.is_text.ensures in
    let new : c.if-is_text.found ≡ (if bytes_eq (value fs i) word then met c.loop-at.found i else c.loop-at.found) = elim c.if-is_text.branch [
      | then-is_text w ↦ let yes : bytes_eq (value fs i) word ≡ true = sym test ∙ w.if-is_text.true in rw yes (w.found-is ∙ w.once_more-found.ensures)
      | else-is_text w ↦ let no : bytes_eq (value fs i) word ≡ false = sym test ∙ w.if-is_text.false in rw no w.found-is
    ] in
    standing_step word fs c.loop-at.found c.if-is_text.found i (omega arith) new ∙ c.loop-at.invariant
