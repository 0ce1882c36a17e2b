-- No packet that is given has more octets than the limit.
use Rattle.std.proofs.Common.{Ok, Err, ℕ, ◌≤◌, Bool, Option, List, [], ◌∷◌, ◌++◌, length, sym, subst, ⊎_elim}
use Rattle.std.specs.List.{slice_get}
use Rattle.std.proofs.lemmas.Bool.{cases_Bool}
use Rattle.tm_items.specs.Among.{Among}
use Rattle.tm_reassembly.specs.Chain.{ChainMember, has_frame_gap, member, master_member}
use Rattle.tm_items.specs.Item.{Item, Packet}
use Rattle.tm_reassembly.specs.Items.{master_gap_item, gap_item, gap_at, vca_at, items_of_readings, state_after_readings}
use Rattle.tm_reassembly.specs.Readings.{FrameReading}
use Rattle.tm_reassembly.specs.Recording as raw
use Rattle.tm_frame.specs.Rules.{Rules, chooses}
use Rattle.tm_reassembly.specs.State.{State, Tail}
use Rattle.tm_reassembly.specs.Valid.{IsValidState}
use Rattle.tm_reassembly.specs.code.Fits.{IsFit, AllReadingsFit}
use Rattle.tm_bits.proofs.Each.{Each, Each-append, Each-cond}
use Rattle.tm_reassembly.proofs.Fits.{readings-fit}
use Rattle.tm_reassembly.proofs.Joining.{before_of, tail_of, member_items, gap-each, part_items-each}
use Rattle.tm_reassembly.proofs.Merged.{among-each}
use Rattle.tm_reassembly.proofs.OneStep.{valid-from, items-one-valid, items-other}
use Rattle.tm_reassembly.proofs.Records.{HasOpenTails, items-cons, valid-after}
use Rattle.tm_reassembly.proofs.Seen.{chain_parts_at-at}

module _ (limit : ℕ) where
  abbrev Limited : Item → Type 0
  Limited (Packet seen channel first place octets) = length octets ≤ limit
  Limited x = Unit {0}

  each-master : (before : Option ℕ) (m : ChainMember) → Each Limited (gap_at master_gap_item before m)
  each-master before m = gap-each Limited master_gap_item before m (λ expected. tt)

  each-member : (channel : ℕ) (before : Option ℕ) (tail : Option Tail) (m : ChainMember) → Each Limited (member_items limit channel before tail m)
  each-member channel before tail m =
      Each-append Limited (gap_at (gap_item channel) before m ++ vca_at channel m) _
      (Each-append Limited (gap_at (gap_item channel) before m) (vca_at channel m) (gap-each Limited (gap_item channel) before m (λ expected. tt)) (Each-cond Limited m.is_vca _ (λ e. (tt, tt))))
      (part_items-each Limited limit channel m.number (λ p most. most) (λ p reason. tt) _ (chain_parts_at-at limit (has_frame_gap before m) m.is_vca tail m))

  module _ (chosen : ℕ → Bool) where
    each-record : (s : State) (r : FrameReading) → HasOpenTails limit chosen s → IsFit r → Each Limited (items_of_readings limit chosen s (r ∷ []))
    each-record s (Err fault) v fit = (tt, tt)
    each-record s (Ok g) v fit =
        ⊎_elim
        (λ e.
        let x = slice_get s.channels g.channel in
        subst (Each Limited) (sym (items-one-valid limit chosen s g v fit e))
        (Each-append Limited (gap_at master_gap_item s.master (master_member s.records g)) (member_items limit g.channel (before_of x) (tail_of x) (member s.records g))
        (each-master s.master (master_member s.records g)) (each-member g.channel (before_of x) (tail_of x) (member s.records g))))
        (λ e. subst (Each Limited) (sym (items-other limit chosen s g e)) (each-master s.master (master_member s.records g)))
        (cases_Bool (chosen g.channel))

    each-item : (s : State) (rs : List FrameReading) → HasOpenTails limit chosen s → AllReadingsFit rs → Each Limited (items_of_readings limit chosen s rs)
    each-item s [] v fits = tt
    each-item s (r ∷ rs) v fits =
        subst (Each Limited) (sym (items-cons limit chosen s r v fits.0 rs fits.1))
        (Each-append Limited (items_of_readings limit chosen s (r ∷ [])) _ (each-record s r v fits.0)
        (each-item (state_after_readings limit chosen s (r ∷ [])) rs (valid-after limit chosen s r v fits.0) fits.1))

pub packets-limited : (rules : Rules) (s : State) (records : List (List ℕ)) → IsValidState rules s
    → (seen channel first place : ℕ) (octets : List ℕ) → Among (Packet seen channel first place octets) (raw.items rules s records) → length octets ≤ rules.max_packet
unfolding raw.items
packets-limited rules s records v seen channel first place octets a =
    among-each (Limited rules.max_packet) (Packet seen channel first place octets) _
    (each-item rules.max_packet (chooses rules) s (raw.readings rules.layout records) (valid-from rules.max_packet (chooses rules) s v.shape) (readings-fit rules.layout records)) a
