use Rattle.std.proofs.Common.{◌≡◌, ◌≤◌, ℕ, List, ◌+◌, ◌++◌, ◌∙◌, arith, append_assoc, ap, length, take, refl}
use Rattle.std.proofs.lemmas.Slice.{take-put_mid}
use Rattle.tm_output.specs.Pieces.{binary_packet}
use borrow.Rule.Slice.PartMut.{put_mid}
use Rattle.tm_output.proofs.outlet.append_packet.Goals as goal

-- 16 octets, and others after them
put_both : (filled k : ℕ) (room first lead octets others : List ℕ) → first ≡ lead → octets ≡ others → length lead ≡ 16 → filled ≤ length room
    → take (filled + 16) (put_mid filled k room first) ++ others ≡ take filled room ++ (lead ++ octets)
put_both filled k room first lead octets others is then long fits =
    ap (λ (l : List ℕ). l ++ others) (take-put_mid filled k room first (filled + 16) (omega (arith, ap length is)) fits)
    ∙ append_assoc (take filled room) first others
    ∙ rw (is, then) refl

pub returns-clause-put : goal.returns-clause-put
unfolding binary_packet
returns-clause-put c =
    c.copy_first.ensures.put
    ∙ put_both c.args.filled _ c.args.room.now _ _ _ _ (c.copy_from_slice.ensures.after ∙ c.packet_lead.ensures) c.requires.first refl (omega (arith, c.requires.room))
