use Rattle.std.proofs.Common.{refl, arith}
use Rattle.tm_packet.proofs.TableLemmas.{table_more, table_put}
use Rattle.tm_packet.proofs.table.PairTable.put.Goals.{then-len-key, else-len-key}
use Rattle.tm_packet.proofs.table.PairTable.put.Goals as goal

pub invariant_of-self : goal.invariant_of-self
invariant_of-self c = elim c.if-len-key.branch [
  | then-len-key w ↦
      rw w.self-inside-is (
        table_put _ _ _ _ _ (table_more _ _ _ c.self.invariant.0 (omega (arith, w.make_places.ensures.many, c.requires.key)) w.make_places.ensures.entries)
            (omega (arith, w.make_places.ensures.many)) refl,
        w.make_places.ensures.room,
      )
  | else-len-key w ↦ rw w.self-inside-is (table_put _ _ _ _ _ c.self.invariant.0 (omega (arith, w.if-len-key.false, c.len.ensures, c.self.inside.places.ok)) refl, c.self.invariant.1)
]
