use Rattle.std.proofs.Common.{◌≡◌, ◌+◌, ◌-◌, ◌∙◌, ◌++◌, ◌≤◌, List, ℕ, ap, arith, drop, length, length-append, sym}
use Rattle.tm_lines.specs.code.Parts.{packet_beginning}
use Rattle.tm_lines.proofs.BufferLemmas.{behind_begin, text_kept}
use Rattle.tm_lines.proofs.buffer.LineBuffer.keep_beginning.Goals as goal

pub invariant_of-self : goal.invariant_of-self
invariant_of-self c =
    let text : List ℕ = packet_beginning c.args.seen c.args.channel c.args.seen in
    let front : drop c.self-2.inside.begin c.self-2.inside.octets ≡ text ++ c.args.self.now = c.self-2.view_is ∙ c.prepend_beginning.ensures.text in
    let before : length c.args.self.now ≡ 320 - c.self.inside.begin = ap length (sym c.self.view_is) ∙ behind_begin c.self.inside.begin c.self.inside.octets c.self.told in
    let after : 320 - c.self-2.inside.begin ≡ length text + length c.args.self.now =
    sym (behind_begin c.self-2.inside.begin c.self-2.inside.octets c.self-2.told) ∙ ap length front ∙ length-append text c.args.self.now in
    let most : length text + length c.args.self.now ≤ 64 + length c.args.self.now =
    omega (arith, length-append text c.args.self.now, ap length c.prepend_beginning.ensures.text, c.prepend_beginning.ensures.most) in (
      omega arith,
      (
        omega arith,
        ap (drop (64 - (c.self.inside.begin - c.self-2.inside.begin))) c.copy_from_slice.ensures.after
            ∙ text_kept c.self-2.inside.octets c.args.self.now text c.self-2.inside.begin c.self.inside.begin front (omega arith) (omega arith) (omega arith),
      ),
    )
