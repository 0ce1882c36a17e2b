use Rattle.std.proofs.Common.{◌≡◌, ◌*◌, ◌/◌, ◌^◌, ◌<◌, ◌≤◌, ◌-◌, suc, ℕ, ap, ◌∙◌, ⊎_elim, arith}
use Rattle.std.proofs.lemmas.Bool.{cases_lt, le-ltb, lt-ltb}
use Rattle.std.proofs.Math.Nat.{div-eq_of_lt, div-eq_of_lt-le, pow-le-pow_right, pow-suc}
use Rattle.tm_fields.proofs.binary.extend_sign.Goals as goal

-- half is the least number with the sign's bit, and twice that is the first number with too many bits
pub returns : goal.returns
returns c =
    let number : ℕ = c.args.number in
    let half : ℕ = 2 ^ (c.args.bits - 1) in
    let some : 0 < 2 = omega arith in
    let below : c.args.bits - 1 ≤ 63 = omega (arith, c.requires.few) in
    let few : half ≤ 2 ^ 63 = pow-le-pow_right {n = 2} some below in
    let next : c.args.bits ≡ suc (c.args.bits - 1) = omega (arith, c.requires.some) in
    let double : 2 ^ c.args.bits ≡ half * 2 = ap (λ n. 2 ^ n) next ∙ pow-suc 2 (c.args.bits - 1) in
    ⊎_elim
    (λ (less : number < half). rw (div-eq_of_lt less, lt-ltb number half less) (omega (arith, few)))
    (λ (more : half ≤ number).
    let one : number / half ≡ 1 = div-eq_of_lt-le half (omega (arith, more)) (omega (arith, double, c.requires.bound)) in
    rw (one, le-ltb number half more) (omega (arith, few, double, c.requires.bound)))
    (cases_lt number half)
