use Rattle.std.proofs.Common.{◌∙◌}
use Rattle.std.proofs.lemmas.List.{append-nil}
use Rattle.std.proofs.lemmas.Option.{same_Some}
use Rattle.tm_fields.proofs.LineLemmas.{lines_kept}
use Rattle.tm_fields.proofs.line.into_text.Goals as goal

pub returns-in-Ok : goal.returns-in-Ok
returns-in-Ok c = λ lines h. same_Some _ _ (lines_kept _ _ _ h.text c.in-Ok.ensures.ok) ∙ append-nil lines
