use Rattle.std.proofs.Common.{◌≡◌, ◌∙◌, ◌++◌, List, ℕ, length, take, sym, ap, arith, rules, length-append}
use Rattle.std.specs.List.{flat_map}
use Rattle.std.proofs.lemmas.List.{take-take}
use Rattle.std.proofs.Math.Seq.{take-append_seam}
use Rattle.tm_bits.specs.Escape.{octet_text}
use Rattle.tm_bits.proofs.Escapes.{written_within}
use Rattle.tm_bits.proofs.escape.push_escaped.Goals as goal

pub returns-in_err-push_octet-clause-prefix : goal.returns-in_err-push_octet-clause-prefix
returns-in_err-push_octet-clause-prefix c =
    let old : List ℕ = c.args.text.now.items in
    let more : List ℕ = flat_map octet_text (take c.loop-octet.octet-index c.args.octets.now) in
    let is : c.loop-octet.text.items ≡ old ++ more = c.loop-octet.invariant.0 in
    let seam : take (length c.loop-octet.text.items) c.push_octet.new.text.items ≡ c.loop-octet.text.items = search rules in
    let whole = sym (take-take (length old) (length (old ++ more)) c.push_octet.new.text.items (omega (arith, length-append old more)))
    ∙ ap (take (length old)) (rw is at seam) ∙ take-append_seam old more in
    search (rules, whole)

pub returns-in_err-push_octet-clause-full : goal.returns-in_err-push_octet-clause-full
returns-in_err-push_octet-clause-full c =
    let fits = written_within c.args.octets.now c.args.text.now.items c.loop-octet.text.items c.loop-octet.octet-index 0 c.loop-octet-test.true c.loop-octet.invariant.0 in
    grind (arith, fits)
