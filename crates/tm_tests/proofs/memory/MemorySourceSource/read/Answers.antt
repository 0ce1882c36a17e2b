use Rattle.std.proofs.Common.{◌≡◌, ◌+◌, ◌-◌, ◌≤◌, drop, take, length, arith, ap, ◌∙◌, drop_of_length-le, length-append, length-drop, length-take-le}
use Rattle.tm_tests.proofs.Copies.{copied_front}
use Rattle.tm_tests.proofs.memory.MemorySourceSource.read.Goals as goal

pub returns-clause-octets : goal.returns-clause-octets
returns-clause-octets c =
    let n = c.min-n.result in
    let at = c.args.self.now.at in
    let xs = c.args.self.now.octets.items in
    let buffer = c.args.buffer.now in
    let size = c.args.self.now.octets.ok.0 in
    let within : at + n ≤ length xs = omega (arith, size, c.args.self.now.within) in
    let same : (at + n) - at ≡ n = omega arith in
    let e : c.copy_from_slice.new.self ≡ take n (drop at xs) = c.copy_from_slice.ensures.after ∙ ap (λ l. take ((at + n) - at) (drop at l)) c.deref.ensures.value ∙ ap (λ m. take m (drop at xs)) same in
    let kept : length c.copy_from_slice.new.self ≡ n = c.copy_from_slice.ensures.len ∙ length-take-le n buffer (omega arith) in (
      copied_front xs c.copy_from_slice.new.self (drop n buffer) at n within e,
      λ none some. drop_of_length-le xs {i = at + n} (omega (arith, size, c.args.self.now.some, simp (length-append, length-drop) at some)),
    )
