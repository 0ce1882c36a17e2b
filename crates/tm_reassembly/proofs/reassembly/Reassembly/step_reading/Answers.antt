use Rattle.std.proofs.Common.{◌≡◌, false, sym, ap, subst, ◌∙◌, arith, rules}
use Rattle.tm_bits.specs.Bits.{AreOctets}
use Rattle.tm_reassembly.specs.code.Slots.{capacities}
use Rattle.tm_frame.specs.Fault.{frame_reading_of}
use Rattle.tm_reassembly.specs.Steps.{Progress}
use Rattle.tm_reassembly.specs.Valid.{IsValidState}
use Rattle.tm_reassembly.proofs.Slots.{capacities_of_eight}
use Rattle.tm_reassembly.proofs.States.{record-valid}
use Rattle.tm_reassembly.proofs.reassembly.Reassembly.step_reading.Goals as goal

pub invariant_of-self : goal.invariant_of-self
invariant_of-self g c = λ failed.
    let left = c.in-Ok.ensures.left c.args.octets.now (ap (λ (p : Progress). frame_reading_of p.rules.layout c.args.octets.now) c.self.view_is ∙ sym c.requires) in
    let octets : AreOctets c.args.octets.now = record { below = λ i. omega (arith, c.type_inv.octets i) } in (
      subst (IsValidState c.self.inside.rules) (sym left)
          (record-valid c.self.inside.rules _ c.args.octets.now (c.self.invariant failed).0 octets (omega (arith, c.if-self.false))),
      c.in-Ok.ensures.limit,
    )

pub returns-in-Ok-clause-left : goal.returns-in-Ok-clause-left
returns-in-Ok-clause-left g c =
    let going : c.self.inside.failed ≡ false = search rules in
    let old = c.self.invariant going in
    let octets : AreOctets c.args.octets.now = record { below = λ i. omega (arith, c.type_inv.octets i) } in
    let left = c.in-Ok.ensures.left c.args.octets.now (ap (λ (p : Progress). frame_reading_of p.rules.layout c.args.octets.now) c.self.view_is ∙ sym c.requires) in
    let new = subst (IsValidState c.self.inside.rules) (sym left) (record-valid c.self.inside.rules _ c.args.octets.now old.0 octets (omega (arith, c.if-self.false))) in
    let capacity : capacities c.add_record.new.states ≡ capacities c.self.inside.states =
    capacities_of_eight c.self.inside.rules.max_packet c.add_record.new.states c.in-Ok.ensures.limit new.shape.eight_channels
    ∙ sym (capacities_of_eight c.self.inside.rules.max_packet c.self.inside.states old.1 old.0.shape.eight_channels) in
    rw (← c.self.view_is, going, capacity, left)
