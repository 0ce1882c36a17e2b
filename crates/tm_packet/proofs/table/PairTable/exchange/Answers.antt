use Rattle.std.proofs.Common.{◌<◌, length, arith, ◌∙◌, sym}
use Rattle.std.proofs.lemmas.List.{get_or_default}
use Rattle.tm_packet.proofs.TableLemmas.{table_change}
use Rattle.tm_packet.proofs.table.PairTable.exchange.Goals as goal

pub invariant_of-self : goal.invariant_of-self
invariant_of-self c =
    let inside : c.args.key < length c.self.inside.places.items = omega (arith, c.if-len-key.false, c.len.ensures, c.self.inside.places.ok) in (
      table_change _ _ _ c.args.before _ c.self.invariant.0 inside
          (get_or_default _ _ _ _ inside ∙ sym c.index.ensures ∙ c.is.ensures.0 c.if-not-is.false),
      c.self.invariant.1,
    )
