use Rattle.std.proofs.Common.{◌≡◌, false, ap, ◌∙◌}
use Rattle.tm_frame.specs.Rules.{Rules, chooses}
use Rattle.tm_reassembly.specs.Steps.{Progress}
use Rattle.tm_reassembly.proofs.OneRecord.{held_short, held_other}
use Rattle.tm_reassembly.proofs.Slots.{last_at}
use Rattle.tm_reassembly.proofs.reassembly.Reassembly.held.Goals as goal

pub returns-clause-short : goal.returns-clause-short
returns-clause-short c =
    let done : c.self.inside.failed ≡ false = ap (λ (p : Progress). p.failed) c.self.view_is ∙ c.requires.done in
    let v = (c.self.invariant done).0 in
    let same : c.self.inside.rules ≡ c.args.self.now.rules = ap (λ (p : Progress). p.rules) c.self.view_is in
    rw (c.octets.ensures, ← same, ← last_at c.self.inside.states c.args.channel c.index-self-channel.result) (held_short _ _ v c.args.channel _ c.requires.channel)

pub returns-clause-other : goal.returns-clause-other
returns-clause-other c = λ other.
    let done : c.self.inside.failed ≡ false = ap (λ (p : Progress). p.failed) c.self.view_is ∙ c.requires.done in
    let same : c.self.inside.rules ≡ c.args.self.now.rules = ap (λ (p : Progress). p.rules) c.self.view_is in
    let v = (c.self.invariant done).0 in
    rw (c.octets.ensures, ← last_at c.self.inside.states c.args.channel c.index-self-channel.result)
    (held_other _ _ v c.args.channel _ c.requires.channel (ap (λ (r : Rules). chooses r c.args.channel) same ∙ other))
