use Rattle.std.proofs.Common.{◌≡◌, ℕ, ◌+◌, ◌-◌, ◌*◌, ◌/◌, ◌%◌, ◌^◌, sym, ap, ◌∙◌, arith}
use Rattle.std.proofs.lemmas.Nat.{one_shl}
use Rattle.tm_fields.proofs.NumberLemmas.{part_between}
use Rattle.tm_fields.proofs.numbers.number_across_octets.Goals as goal

pub returns-clause-value : goal.returns-clause-value
returns-clause-value c =
    let at : ℕ = c.args.at in
    let count : ℕ = c.args.count in
    let last : ℕ = c.div_ceil-last.result in
    let end : c.from.result + c.from-2.result ≡ at + count = omega (arith, c.from.ensures, c.from-2.ensures) in
    let width : at + count - at ≡ count = omega arith in
    let bits = ap (λ n. c.big_endian-all.result / 2 ^ (8 * last - (at + count)) % 2 ^ n) width in
    let between = part_between c.args.octets.now (at / 8) last at (at + count) (omega arith) (omega arith) (omega arith) (omega arith) (omega arith) in
    rw (one_shl count 128 (omega arith), end) (sym bits ∙ ap (λ n. n / 2 ^ (8 * last - (at + count)) % 2 ^ (at + count - at)) c.big_endian-all.ensures.value ∙ sym between)
