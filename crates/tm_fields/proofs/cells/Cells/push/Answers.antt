use Rattle.std.proofs.Common.{◌≡◌, ◌∙◌, ◌++◌, ◌∷◌, [], false, rules, List, ℕ, Some, ap, length}
use Rattle.std.specs.Result.{is_err}
use Rattle.std.proofs.lemmas.Result.{on_ok_weaker}
use Rattle.csv.proofs.ReadFacts.{on-ok}
use Rattle.csv.specs.Writing.{default_writer, fields_text, writer_under}
use Rattle.tm_fields.specs.code.Line.{HasPassedOn}
use Rattle.tm_fields.proofs.LineLemmas.{appended, line_behind}
use Rattle.tm_fields.proofs.cells.Cells.push.Goals as goal
use Rattle.tm_fields.proofs.cells.Cells.push.Goals.{then-len-gt-ENOUGH, else-len-gt-ENOUGH}

pub returns : goal.returns
returns c =
    let inside = c.if-len-gt-ENOUGH.self-inside in
    let before : (lines : List ℕ) × HasPassedOn (λ v. Some v.items) inside.writer lines =
    elim c.if-len-gt-ENOUGH.branch [
      | then-len-gt-ENOUGH w ↦ rw w.self-inside-is ([], w.begin_again.ensures)
      | else-len-gt-ENOUGH w ↦ rw w.self-inside-is c.self.invariant
    ] in
    let text : inside.text.items ≡ c.args.self.now =
    elim c.if-len-gt-ENOUGH.branch [
      | then-len-gt-ENOUGH w ↦ rw w.self-inside-is c.self.view_is
      | else-len-gt-ENOUGH w ↦ rw w.self-inside-is c.self.view_is
    ] in
    let wrote : is_err c.write_line.result ≡ false = search rules in
    let written = on-ok c.write_line.result wrote c.write_line.ensures before.0 before.1 in
    let size : c.len-before.result ≡ length (writer_under inside.writer).items = search rules in
    let lines : c.as_slice-lines.result.now ≡ (writer_under c.write_line.new.writer).items = search rules in
    let value = line_behind (writer_under inside.writer).items _ before.0 _ _ before.1.passed (ap Some lines ∙ written.passed) size in
    on_ok_weaker c.extend_from_slice.result (λ pushed. pushed ∙ ap (λ (t : List ℕ). c.args.row.now.items ++ t) (value ∙ ap (λ (t : List ℕ). fields_text default_writer (t ∷ [])) (c.as_slice.ensures.value ∙ text)))
    (appended c.extend_from_slice.result _ _ _ c.extend_from_slice.ensures.items)
