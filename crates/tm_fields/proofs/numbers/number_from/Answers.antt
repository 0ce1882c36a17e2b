use Rattle.std.proofs.Common.{◌≡◌, ℕ, ◌+◌, ◌-◌, List, length, take, drop, sym, ap, ◌∙◌, arith, length-drop}
use Rattle.std.proofs.lemmas.List.{take_all}
use Rattle.byteorder.specs.Endian.{big_number}
use Rattle.tm_bits.specs.Bits.{AreOctets}
use Rattle.tm_fields.proofs.NumberLemmas.{part_read}
use Rattle.tm_fields.proofs.numbers.number_from.Goals as goal

pub returns-clause-value : goal.returns-clause-value
returns-clause-value c =
    let octets = c.args.octets.now in
    let at : ℕ = c.args.at in
    let count : ℕ = c.args.count in
    let last : ℕ = c.min-last.result in
    let are : AreOctets octets = record { below = λ i. omega (arith, c.type_inv.octets i) } in
    let width : at + count - at ≡ count = omega arith in
    let from : List ℕ = drop (last - 8) octets in
    let whole : take (length octets - (last - 8)) from ≡ from = take_all (length octets - (last - 8)) from (omega (arith, length-drop (last - 8) octets)) in
    let word = c.read_u64-word.ensures ∙ ap (big_number 8) whole in
    let read = part_read octets last at (at + count) c.read_u64-word.result are (omega arith) (omega arith) (omega arith) (omega arith) (omega arith) word in
    c.cut_bits.ensures.value ∙ sym (rw width at read)
