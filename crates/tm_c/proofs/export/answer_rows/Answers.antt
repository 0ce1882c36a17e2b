use Rattle.std.proofs.Common.{inr}
use Rattle.tm_c.proofs.export.answer_rows.Goals as goal

pub returns-in-Ok : goal.returns-in-Ok
returns-in-Ok c =
    let given = rw (c.is_last.ensures, c.rows_in-rows.ensures, c.form_by_number-form.ensures) at c.answer_chunk.ensures in
    inr (_, c.in-Ok.ensures.ok, given)
