-- The items of a channel, one record at a time.
use Rattle.tm_bits.proofs.Each.{Each, Each-append, Each-weaken, Each-flat_map, Each-cond}
use Rattle.tm_items.specs.declared.items.Reason.{Reason}
use Rattle.std.proofs.Common.{◌≡◌, ℕ, suc, ◌<◌, ◌≤◌, Option, Some, None, List, [], ◌∷◌, ◌++◌, length, refl, sym, ap, subst, ◌∙◌, arith, eqb}
use Rattle.std.specs.List.{flat_map}
use Rattle.std.proofs.lemmas.List.{append-nil}
use Rattle.std.proofs.lemmas.List.Concat.{flat_map-append}
use Rattle.std.proofs.lemmas.List.Elements.{filter-append}
use Rattle.tm_reassembly.specs.State.{Last, Tail}
use Rattle.tm_items.specs.Item.{Item, seen_of, Vca, Dropped, Packet}
pub use Rattle.tm_reassembly.specs.Tiles.{tail_of}
pub use Rattle.tm_reassembly.specs.Steps.{count_of_last as before_of}
use Rattle.tm_reassembly.specs.Chain.{ChainMember, has_frame_gap, stem_of, stem_with, Unended}
use Rattle.tm_reassembly.specs.Parts.{Part, Fate, Given, Lost, Held}
use Rattle.tm_reassembly.specs.code.Field.{chain_parts_at, chain_tail_at, part_items}
use Rattle.tm_reassembly.specs.Items.{part_item, seen_at, gap_item, gaps, gap_at, vca_at, channel_items}
use Rattle.tm_reassembly.proofs.Step.{PlaceFits}
use Rattle.tm_reassembly.proofs.Chained.{IsOpenTail, chained, chained_step, chained_end, chain_parts-stem, chain_parts-fresh, left_parts}
use Rattle.tm_reassembly.proofs.Seen.{AllSeen, seen_at-all, seen_at-none, chain_parts_at-at, chain_tail_at-open, AllAt, IsAt}

-- what holds of each gap and of each VCA frame, by what holds of their members
pub gap-each : (Q : Item → Type 0) (gap : ℕ → ChainMember → Item) (before : Option ℕ) (m : ChainMember) → ((expected : ℕ) → Q (gap expected m)) → Each Q (gap_at gap before m)
gap-each Q gap None m h = tt
gap-each Q gap (Some before) m h = Each-cond Q (has_frame_gap (Some before) m) _ (λ e. (h _, tt))

pub gaps-each : (P : ChainMember → Type 0) (Q : Item → Type 0) (gap : ℕ → ChainMember → Item) → ((m : ChainMember) (expected : ℕ) → P m → Q (gap expected m))
    → (before : Option ℕ) (ms : List ChainMember) → Each P ms → Each Q (gaps gap before ms)
gaps-each P Q gap f before [] h = tt
gaps-each P Q gap f before (m ∷ ms) h =
    Each-append Q (gap_at gap before m) (gaps gap (Some m.count) ms) (gap-each Q gap before m (λ expected. f m expected h.0)) (gaps-each P Q gap f (Some m.count) ms h.1)

pub vcas-each : (P : ChainMember → Type 0) (Q : Item → Type 0) (channel : ℕ) → ((m : ChainMember) → P m → Q (Vca m.number channel)) → (ms : List ChainMember) → Each P ms
    → Each Q (flat_map (vca_at channel) ms)
vcas-each P Q channel f ms h = Each-flat_map P Q (vca_at channel) ms (λ m p. Each-cond Q m.is_vca _ (λ e. (f m p, tt))) h

-- what holds of the items of parts that are given or lost at a record
pub part_items-each : (Q : Item → Type 0) (limit channel n : ℕ) → ((p : Part) → length p.octets ≤ limit → Q (Packet n channel p.first p.place p.octets))
    → ((p : Part) (reason : Reason) → Q (Dropped n channel p.first p.place (length p.octets) reason))
    → (ps : List Part) → AllAt limit n ps → Each Q (part_items channel ps)
part_items-each Q limit channel n given lost ps h =
    Each-flat_map (λ p. IsAt limit n p p.fate) Q (λ p. part_item channel p p.fate) ps (λ p k. one p p.fate k) h
  where
    one : (p : Part) (f : Fate) → IsAt limit n p f → Each Q (part_item channel p f)
    one p (Given seen) e = (subst (λ (s : ℕ). Q (Packet s channel p.first p.place p.octets)) (sym e.0) (given p e.1), tt)
    one p (Lost reason seen) e = (subst (λ (s : ℕ). Q (Dropped s channel p.first p.place (length p.octets) reason)) (sym e) (lost p reason), tt)
    one p Held e = absurd e

-- members that fit, and whose numbers P holds of
abbrev pub AllNumbered : (ℕ → Type 0) → List ChainMember → Type 0
AllNumbered P ms = Each (λ m. P m.number × PlaceFits m.place (length m.field)) ms

-- numbered from k on
abbrev pub FitFrom : ℕ → List ChainMember → Type 0
FitFrom k ms = AllNumbered (λ n. k ≤ n) ms

pub left_items : (channel : ℕ) (tail : Option Tail) → part_items channel (left_parts tail Unended) ≡ []
left_items channel None = refl
left_items channel (Some t) = refl

six-here : (n : ℕ) (a a' b b' c c' : List Item) → seen_at n a ≡ a → seen_at n a' ≡ [] → seen_at n b ≡ b → seen_at n b' ≡ [] → seen_at n c ≡ c → seen_at n c' ≡ []
    → seen_at n (((a ++ a') ++ (b ++ b')) ++ (c ++ c')) ≡ (a ++ b) ++ c
six-here n a a' b b' c c' e1 e2 e3 e4 e5 e6 =
    simp (filter-append (λ x. eqb (seen_of x) n), e1, e2, e3, e4, e5, e6, append-nil {A = Item})

six-there : (n : ℕ) (a a' b b' c c' : List Item) → seen_at n a ≡ [] → seen_at n b ≡ [] → seen_at n c ≡ []
    → seen_at n (((a ++ a') ++ (b ++ b')) ++ (c ++ c')) ≡ seen_at n ((a' ++ b') ++ c')
six-there n a a' b b' c c' e1 e3 e5 =
    simp (filter-append (λ x. eqb (seen_of x) n), e1, e3, e5)

-- a list that is seen from k on has nothing seen before
pub none_before : (k n : ℕ) (xs : List Item) → n < k → AllSeen (λ s. k ≤ s) xs → seen_at n xs ≡ []
none_before k n xs lt h = seen_at-none n xs (Each-weaken (λ x. k ≤ seen_of x) (λ x. seen_of x ≡ n → ⊥) xs (λ x le e. absurd (omega arith)) h)

pub none_other : (k n : ℕ) (xs : List Item) → (k ≡ n → ⊥) → AllSeen (λ s. s ≡ k) xs → seen_at n xs ≡ []
none_other k n xs ne h = seen_at-none n xs (Each-weaken (λ x. seen_of x ≡ k) (λ x. seen_of x ≡ n → ⊥) xs (λ x e f. ne (sym e ∙ f)) h)

module _ (limit : ℕ) where
  -- the items of a channel after such a state
  abbrev pub items_after : ℕ → Option ℕ → Option Tail → List ChainMember → List Item
  items_after channel before tail fs = gaps (gap_item channel) before fs ++ flat_map (vca_at channel) fs ++ part_items channel (chained limit before tail fs)

  pub channel_items-is : (channel : ℕ) (x : Option (Option Last)) (fs : List ChainMember)
      → channel_items limit channel (stem_of x ++ fs) ≡ items_after channel (before_of x) (tail_of x) fs
  channel_items-is channel None fs = ap (λ (ps : List Part). gaps (gap_item channel) None fs ++ flat_map (vca_at channel) fs ++ part_items channel ps) (chain_parts-fresh limit fs)
  channel_items-is channel (Some None) fs = ap (λ (ps : List Part). gaps (gap_item channel) None fs ++ flat_map (vca_at channel) fs ++ part_items channel ps) (chain_parts-fresh limit fs)
  channel_items-is channel (Some (Some last)) fs = with_tail last.tail
    where
      with_tail : (t : Option Tail)
          → channel_items limit channel (stem_with last.count t ∷ fs) ≡ items_after channel (Some last.count) t fs
      with_tail None = ap (λ (ps : List Part). gaps (gap_item channel) (Some last.count) fs ++ flat_map (vca_at channel) fs ++ part_items channel ps) (chain_parts-stem limit last.count None fs)
      with_tail (Some t) = ap (λ (ps : List Part). gaps (gap_item channel) (Some last.count) fs ++ flat_map (vca_at channel) fs ++ part_items channel ps) (chain_parts-stem limit last.count (Some t) fs)

  -- one member
  abbrev pub member_items : ℕ → Option ℕ → Option Tail → ChainMember → List Item
  member_items channel before tail m =
      gap_at (gap_item channel) before m ++ vca_at channel m ++ part_items channel (chain_parts_at limit (has_frame_gap before m) m.is_vca tail m)

  pub part_items-step : (channel : ℕ) (before : Option ℕ) (tail : Option Tail) (f : ChainMember) (fs : List ChainMember) → IsOpenTail limit tail → PlaceFits f.place (length f.field)
      → part_items channel (chained limit before tail (f ∷ fs))
      ≡ part_items channel (chain_parts_at limit (has_frame_gap before f) f.is_vca tail f)
      ++ part_items channel (chained limit (Some f.count) (chain_tail_at limit (has_frame_gap before f) f.is_vca tail f) fs)
  part_items-step channel before tail f fs h k =
      ap (part_items channel) (chained_step limit before tail f fs h k) ∙ flat_map-append (λ p. part_item channel p p.fate) (chain_parts_at limit (has_frame_gap before f) f.is_vca tail f) (chained limit (Some f.count) (chain_tail_at limit (has_frame_gap before f) f.is_vca tail f) fs)

  -- what members give is seen at their own numbers
  module _ (P : ℕ → Type 0) (channel : ℕ) where
    gaps-seen : (before : Option ℕ) (fs : List ChainMember) → AllNumbered P fs → AllSeen P (gaps (gap_item channel) before fs)
    gaps-seen before fs h =
        gaps-each (λ m. P m.number × PlaceFits m.place (length m.field)) (λ x. P (seen_of x)) (gap_item channel) (λ m expected p. p.0) before fs h

    vcas-seen : (fs : List ChainMember) → AllNumbered P fs → AllSeen P (flat_map (vca_at channel) fs)
    vcas-seen fs h = vcas-each (λ m. P m.number × PlaceFits m.place (length m.field)) (λ x. P (seen_of x)) channel (λ m p. p.0) fs h

    parts-seen : (before : Option ℕ) (tail : Option Tail) (fs : List ChainMember) → IsOpenTail limit tail → AllNumbered P fs
        → AllSeen P (part_items channel (chained limit before tail fs))
    parts-seen before tail [] o h = subst (AllSeen P) (sym (ap (part_items channel) (chained_end limit before tail o) ∙ left_items channel tail)) tt
    parts-seen before tail (f ∷ fs) o h =
        subst (AllSeen P) (sym (part_items-step channel before tail f fs o h.0.1))
        (Each-append (λ x. P (seen_of x)) _ _
        (part_items-each (λ x. P (seen_of x)) limit channel f.number (λ p most. h.0.0) (λ p reason. h.0.0) _ (chain_parts_at-at limit (has_frame_gap before f) f.is_vca tail f))
        (parts-seen (Some f.count) (chain_tail_at limit (has_frame_gap before f) f.is_vca tail f) fs (chain_tail_at-open limit (has_frame_gap before f) f.is_vca tail f o) h.1))

    pub items-seen : (before : Option ℕ) (tail : Option Tail) (fs : List ChainMember) → IsOpenTail limit tail → AllNumbered P fs
        → AllSeen P (items_after channel before tail fs)
    items-seen before tail fs o h =
        Each-append (λ x. P (seen_of x)) (gaps (gap_item channel) before fs ++ flat_map (vca_at channel) fs) (part_items channel (chained limit before tail fs))
        (Each-append (λ x. P (seen_of x)) (gaps (gap_item channel) before fs) (flat_map (vca_at channel) fs) (gaps-seen before fs h) (vcas-seen fs h))
        (parts-seen before tail fs o h)

  module _ (channel : ℕ) (before : Option ℕ) (tail : Option Tail) (f : ChainMember) (fs : List ChainMember) (unwhole : IsOpenTail limit tail) (fits : PlaceFits f.place (length f.field)) where
    own_gap : AllSeen (λ s. s ≡ f.number) (gap_at (gap_item channel) before f)
    own_gap = gap-each (λ x. seen_of x ≡ f.number) (gap_item channel) before f (λ expected. refl)

    own_vca : AllSeen (λ s. s ≡ f.number) (vca_at channel f)
    own_vca = Each-cond (λ x. seen_of x ≡ f.number) f.is_vca _ (λ e. (refl, tt))

    own_parts : AllSeen (λ s. s ≡ f.number) (part_items channel (chain_parts_at limit (has_frame_gap before f) f.is_vca tail f))
    own_parts =
        part_items-each (λ x. seen_of x ≡ f.number) limit channel f.number (λ p most. refl) (λ p reason. refl) _ (chain_parts_at-at limit (has_frame_gap before f) f.is_vca tail f)

    -- at its own record a member gives its items, whatever comes later
    pub items-here : FitFrom (suc f.number) fs → seen_at f.number (items_after channel before tail (f ∷ fs)) ≡ member_items channel before tail f
    items-here h =
        ap (λ (ps : List Item). seen_at f.number ((gap_at (gap_item channel) before f ++ gaps (gap_item channel) (Some f.count) fs) ++ (vca_at channel f ++ flat_map (vca_at channel) fs) ++ ps))
        (part_items-step channel before tail f fs unwhole fits)
        ∙ six-here f.number (gap_at (gap_item channel) before f) (gaps (gap_item channel) (Some f.count) fs) (vca_at channel f) (flat_map (vca_at channel) fs) _ _
        (seen_at-all f.number _ own_gap)
        (none_before (suc f.number) f.number _ (omega arith) (gaps-seen (λ s. suc f.number ≤ s) channel (Some f.count) fs h))
        (seen_at-all f.number _ own_vca)
        (none_before (suc f.number) f.number _ (omega arith) (vcas-seen (λ s. suc f.number ≤ s) channel fs h))
        (seen_at-all f.number _ own_parts)
        (none_before (suc f.number) f.number _ (omega arith)
        (parts-seen (λ s. suc f.number ≤ s) channel (Some f.count) _ fs (chain_tail_at-open limit (has_frame_gap before f) f.is_vca tail f unwhole) h))

    -- at another record it is as if the member were done, and had left its count and its tail
    pub items-there : (n : ℕ) → (f.number ≡ n → ⊥)
        → seen_at n (items_after channel before tail (f ∷ fs))
        ≡ seen_at n (items_after channel (Some f.count) (chain_tail_at limit (has_frame_gap before f) f.is_vca tail f) fs)
    items-there n ne =
        ap (λ (ps : List Item). seen_at n ((gap_at (gap_item channel) before f ++ gaps (gap_item channel) (Some f.count) fs) ++ (vca_at channel f ++ flat_map (vca_at channel) fs) ++ ps))
        (part_items-step channel before tail f fs unwhole fits)
        ∙ six-there n (gap_at (gap_item channel) before f) (gaps (gap_item channel) (Some f.count) fs) (vca_at channel f) (flat_map (vca_at channel) fs) _ _
        (none_other f.number n _ ne own_gap)
        (none_other f.number n _ ne own_vca)
        (none_other f.number n _ ne own_parts)
