use Rattle.std.proofs.Common.{List, ℕ, [], ◌∷◌, ◌++◌, Some, subst, arith}
use Rattle.std.proofs.lemmas.Result.{on_ok_weaker}
use Rattle.tm_fields.specs.code.Line.{HasPassedOn}
use Rattle.tm_fields.proofs.LineLemmas.{blank_line}
use Rattle.tm_fields.proofs.cells.write_line.Goals as goal

pub returns : goal.returns
returns c =
    let value = c.args.value.now in
    on_ok_weaker c.pass.result (λ passed lines h.
    subst (λ (line : List ℕ). HasPassedOn (λ v. Some v.items) c.pass.new.writer (lines ++ line)) (blank_line value)
    (passed _ (c.in_ok-end.ensures lines ([] ∷ value ∷ []) (omega arith) (c.in_ok-write_value-2.ensures lines _ (c.in_ok-write_value.ensures lines [] h.whole)))))
    c.pass.ensures
