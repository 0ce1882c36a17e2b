-- The packets and dropped parts of a channel, in the order given, and then its held tail, lie one after the other in its fields.
use Rattle.tm_bits.proofs.Each.{Each, Each-append, Each-cond, filter-none}
use Rattle.std.proofs.Common.{◌≡◌, Ok, Err, ℕ, ◌+◌, ◌<◌, Bool, true, false, if◌then◌else◌, Option, Some, None, List, [], ◌∷◌, ◌++◌, length, refl, sym, ap, subst, ◌∙◌, ⊎_elim, append_assoc, eqb}
use Rattle.std.specs.List.{slice_get}
use Rattle.std.proofs.lemmas.List.{append-nil, length-map}
use Rattle.std.proofs.lemmas.List.Elements.{filter-append}
use Rattle.std.proofs.lemmas.Bool.{cases_Bool, cases_eq, eq-eqb, ne_eqb, cond-true, cond-false}
use Rattle.tm_reassembly.specs.State.{State, Last, Tail}
use Rattle.tm_frame.specs.Frame.{GoodFrame, is_vca_kind}
use Rattle.tm_frame.specs.declared.frame.Kind.TheVariants as got
use Rattle.tm_frame.specs.declared.frame.Kind.{Kind}
use Rattle.tm_reassembly.specs.Readings.{FrameReading}
use Rattle.tm_reassembly.specs.Recording.{readings, items, after}
use Rattle.tm_frame.specs.Rules.{Rules, chooses}
use Rattle.tm_reassembly.proofs.Fits.{readings-fit}
use Rattle.tm_items.specs.Item as item
use Rattle.tm_items.specs.Item.{Item}
use Rattle.tm_reassembly.specs.Chain.{ChainMember, has_frame_gap, member, master_member, member_of, counted_field}
use Rattle.tm_reassembly.specs.Parts.{Part, Fate, Given, Lost, Held}
use Rattle.tm_reassembly.specs.code.Field.{chain_parts_at, chain_tail_at, part_items}
use Rattle.tm_reassembly.specs.Items.{items_of_readings, state_after_readings, empty, part_item, gap_item, master_gap_item, gap_at, vca_at}
use Rattle.tm_reassembly.specs.Valid.{HasShape}
use Rattle.tm_reassembly.specs.code.Fits.{IsFit, AllReadingsFit}
use Rattle.tm_reassembly.specs.Tiles.{Spot, field_spots, kind_spots, record_spots, channel_spots, IsHeld, Covers, Tile, is_part_of, parts_of, tail_of, held_tail}
use Rattle.tm_reassembly.proofs.Chained.{IsOpenTail}
use Rattle.tm_reassembly.proofs.Seen.{AllAt, chain_parts_at-at, IsAt}
use Rattle.tm_reassembly.proofs.Joining.{before_of, member_items, gap-each}
use Rattle.tm_reassembly.proofs.Records.{HasOpenTails, valid-after, items-cons, after-cons, tail-same, tail-moved, at_eight, none_last}
use Rattle.tm_reassembly.proofs.OneStep.{items-one-valid, items-other, after-nil}
use Rattle.tm_reassembly.proofs.Laying.{Lay, Laid, spots_of, plain_spots, chain_lays}

Tile-append : (a b c : List Spot) (xs ys : List Item) → Tile a xs b → Tile b ys c → Tile a (xs ++ ys) c
Tile-append a b c [] ys h k = subst (λ (s : List Spot). Tile s ys c) (sym h) k
Tile-append a b c (x ∷ xs) ys h k = (h.0, h.1, Tile-append h.0 b c xs ys h.2 k)

Covers-more : (a b more : List Spot) (x : Item) → Covers a x b → Covers (a ++ more) x (b ++ more)
Covers-more a b more (item.Packet seen channel first place octets) h =
    (h.0, ap (λ (s : List Spot). s ++ more) h.1 ∙ append_assoc h.0 b more, h.2, h.3)
Covers-more a b more (item.Dropped seen channel first place octets reason) h =
    (h.0, ap (λ (s : List Spot). s ++ more) h.1 ∙ append_assoc h.0 b more, h.2, h.3)
Covers-more a b more x h = absurd h

Tile-more : (a b more : List Spot) (xs : List Item) → Tile a xs b → Tile (a ++ more) xs (b ++ more)
Tile-more a b more [] h = ap (λ (s : List Spot). s ++ more) h
Tile-more a b more (x ∷ xs) h = (h.0 ++ more, Covers-more a h.0 more x h.1, Tile-more h.0 b more xs h.2)

-- parts and their items
tile-parts : (limit c n : ℕ) (spots rest : List Spot) (ps : List Part) → AllAt limit n ps → Lay spots ps rest → Tile spots (parts_of c (part_items c ps)) rest
tile-parts limit c n spots rest [] k h = h
tile-parts limit c n spots rest (p ∷ ps) k h = one p.fate k.0 (tile-parts limit c n h.0 rest ps k.1 h.2)
  where
    longer : (b : Bool) → b ≡ true → (x : Item) (xs : List Item) → Covers spots x h.0 → Tile h.0 xs rest → Tile spots (if b then x ∷ xs else xs) rest
    longer b e x xs t u = subst (λ (z : Bool). Tile spots (if z then x ∷ xs else xs) rest) (sym e) (h.0, t, u)

    one : (f : Fate) → IsAt limit n p f → Tile h.0 (parts_of c (part_items c ps)) rest → Tile spots (parts_of c (part_item c p f ++ part_items c ps)) rest
    one (Given seen) e t =
        longer (eqb c c) (eq-eqb c c refl) (item.Packet seen c p.first p.place p.octets) (parts_of c (part_items c ps)) h.1 t
    one (Lost reason seen) e t =
        longer (eqb c c) (eq-eqb c c refl) (item.Dropped seen c p.first p.place (length p.octets) reason) (parts_of c (part_items c ps))
        (h.1.0, h.1.1, sym (length-map h.1.0 (λ x. x.octet)) ∙ ap length h.1.2, h.1.3) t
    one Held e t = absurd e

-- the items of other channels, and those that are no parts, don't count
others-none : (c own : ℕ) (ps : List Part) → eqb own c ≡ false → Each (λ x. is_part_of c x ≡ false) (part_items own ps)
others-none c own [] h = tt
others-none c own (p ∷ ps) h = Each-append (λ x. is_part_of c x ≡ false) (part_item own p p.fate) (part_items own ps) (one p.fate) (others-none c own ps h)
  where
    one : (f : Fate) → Each (λ x. is_part_of c x ≡ false) (part_item own p f)
    one Held = tt
    one f = (h, tt)

of-none : (c : ℕ) (xs ys : List Item) → Each (λ x. is_part_of c x ≡ false) xs → parts_of c (xs ++ ys) ≡ parts_of c ys
of-none c xs ys h = filter-append (λ x. is_part_of c x) xs ys ∙ ap (λ (zs : List Item). zs ++ parts_of c ys) (filter-none (λ x. is_part_of c x) xs h)

gap-none : (c : ℕ) (before : Option ℕ) (m : ChainMember) → Each (λ x. is_part_of c x ≡ false) (gap_at master_gap_item before m)
gap-none c before m = gap-each (λ x. is_part_of c x ≡ false) master_gap_item before m (λ expected. refl)

-- what a frame adds to the fields of its channel
plain-kind : (k : ℕ) (kind : Kind) (field : List ℕ)
    → kind_spots k kind field ≡ plain_spots (is_vca_kind kind) (field_spots k 0 (counted_field kind field))
plain-kind k got.Vca field = refl
plain-kind k kind field = refl

-- at the start nothing is kept
empty-tail : (c : ℕ) → held_tail empty c ≡ None
empty-tail c = by_entry (slice_get empty.channels c) refl
  where
    by_entry : (x : Option (Option Last)) → slice_get empty.channels c ≡ x → tail_of x ≡ None
    by_entry (Some (Some last)) e = absurd (none_last c last e)
    by_entry None e = refl
    by_entry (Some None) e = refl

module _ (limit : ℕ) where
  member-parts : (c own : ℕ) (before : Option ℕ) (tail : Option Tail) (m : ChainMember)
      → parts_of c (member_items limit own before tail m) ≡ parts_of c (part_items own (chain_parts_at limit (has_frame_gap before m) m.is_vca tail m))
  member-parts c own before tail m =
      of-none c (gap_at (gap_item own) before m ++ vca_at own m) _
      (Each-append (λ x. is_part_of c x ≡ false) (gap_at (gap_item own) before m) (vca_at own m)
      (gap-each (λ x. is_part_of c x ≡ false) (gap_item own) before m (λ expected. refl)) (Each-cond (λ x. is_part_of c x ≡ false) m.is_vca _ (λ e. (refl, tt))))

  other-member : (c own : ℕ) (before : Option ℕ) (tail : Option Tail) (m : ChainMember) → eqb own c ≡ false → parts_of c (member_items limit own before tail m) ≡ []
  other-member c own before tail m h =
      member-parts c own before tail m ∙ filter-none (λ x. is_part_of c x) _ (others-none c own (chain_parts_at limit (has_frame_gap before m) m.is_vca tail m) h)

  -- one record
  abbrev Result : (ℕ → Bool) → State → FrameReading → ℕ → List Spot → Type 0
  Result chosen s r c h =
      (middle : List Spot) × Tile (h ++ record_spots c s.records r) (parts_of c (items_of_readings limit chosen s (r ∷ []))) middle
      × IsHeld (held_tail (state_after_readings limit chosen s (r ∷ [])) c) middle

  quiet : (chosen : ℕ → Bool) (s : State) (r : FrameReading) (c : ℕ) (h : List Spot) → HasOpenTails limit chosen s → IsFit r → c < 8 → chosen c ≡ true
      → IsHeld (held_tail s c) h → parts_of c (items_of_readings limit chosen s (r ∷ [])) ≡ [] → record_spots c s.records r ≡ [] → member_of c s.records r ≡ []
      → Result chosen s r c h
  quiet chosen s r c h valid fit small is_chosen held nothing no_spots no_frame =
      (h, rw (nothing, no_spots) (append-nil h), rw (tail-same limit chosen s r valid fit c small is_chosen no_frame) held)

  own-record : (chosen : ℕ → Bool) (s : State) (g : GoodFrame) (h : List Spot) → HasOpenTails limit chosen s → IsFit (Ok g) → chosen g.channel ≡ true
      → IsHeld (held_tail s g.channel) h → Result chosen s (Ok g) g.channel h
  own-record chosen s g h valid fit is_chosen held =
      let c : ℕ = g.channel in
      let m : ChainMember = member s.records g in
      let x : Option (Option Last) = slice_get s.channels g.channel in
      let one : member_of g.channel s.records (Ok g) ≡ member s.records g ∷ [] =
      cond-true (eqb g.channel g.channel) (member s.records g ∷ []) [] (eq-eqb g.channel g.channel refl) in
      let lies : Laid (h ++ plain_spots m.is_vca (spots_of m)) (chain_parts_at limit (has_frame_gap (before_of x) m) m.is_vca (tail_of x) m) (chain_tail_at limit (has_frame_gap (before_of x) m) m.is_vca (tail_of x) m) =
      chain_lays limit (has_frame_gap (before_of x) m) m.is_vca (tail_of x) m h (valid.tails_open c fit.0 is_chosen) held in
      let spots : record_spots g.channel s.records (Ok g) ≡ plain_spots (is_vca_kind g.kind) (spots_of (member s.records g)) =
      cond-true (eqb g.channel g.channel) (kind_spots s.records g.kind g.field) [] (eq-eqb g.channel g.channel refl) ∙ plain-kind s.records g.kind g.field in
      let given : parts_of c (items_of_readings limit chosen s (Ok g ∷ [])) ≡ parts_of c (part_items c (chain_parts_at limit (has_frame_gap (before_of x) m) m.is_vca (tail_of x) m)) =
      ap (parts_of c) (items-one-valid limit chosen s g valid fit is_chosen) ∙ of-none c _ _ (gap-none c s.master (master_member s.records g)) ∙ member-parts c c (before_of x) (tail_of x) m in (
        lies.0,
        rw (given, spots) (tile-parts limit c m.number _ lies.0 _ (chain_parts_at-at limit (has_frame_gap (before_of x) m) m.is_vca (tail_of x) m) lies.1),
        rw (tail-moved limit chosen s (Ok g) valid fit g.channel fit.0 is_chosen (member s.records g) one fit.1) lies.2,
      )

  one-record : (chosen : ℕ → Bool) (s : State) (r : FrameReading) (c : ℕ) (h : List Spot) → HasOpenTails limit chosen s → IsFit r → c < 8 → chosen c ≡ true
      → IsHeld (held_tail s c) h → Result chosen s r c h
  one-record chosen s (Err fault) c h valid fit small is_chosen held = quiet chosen s (Err fault) c h valid fit small is_chosen held refl refl refl
  one-record chosen s (Ok g) c h valid fit small is_chosen held =
      ⊎_elim
      (λ e. rw (← e) (own-record chosen s g h valid fit (ap chosen e ∙ is_chosen) (rw e held)))
      (λ ne.
      let other : eqb g.channel c ≡ false = ne_eqb g.channel c ne in
      quiet chosen s (Ok g) c h valid fit small is_chosen held
      (⊎_elim
      (λ e.
      ap (parts_of c) (items-one-valid limit chosen s g valid fit e)
      ∙ of-none c _ _ (gap-none c s.master (master_member s.records g))
      ∙ other-member c g.channel _ _ (member s.records g) other)
      (λ e. ap (parts_of c) (items-other limit chosen s g e) ∙ filter-none (λ x. is_part_of c x) _ (gap-none c s.master (master_member s.records g)))
      (cases_Bool (chosen g.channel)))
      (cond-false (eqb g.channel c) _ _ other)
      (cond-false (eqb g.channel c) _ _ other))
      (cases_eq g.channel c)

  -- any records, from any state whose tail has these octets
  pub tiles-from : (chosen : ℕ → Bool) (c : ℕ) → c < 8 → chosen c ≡ true
      → (rs : List FrameReading) (s : State) (h : List Spot) → HasOpenTails limit chosen s → state_after_readings limit chosen s [] ≡ s → AllReadingsFit rs → IsHeld (held_tail s c) h
      → (rest : List Spot) × Tile (h ++ channel_spots c s.records rs) (parts_of c (items_of_readings limit chosen s rs)) rest
      × IsHeld (held_tail (state_after_readings limit chosen s rs) c) rest
  tiles-from chosen c small is_chosen [] s h valid still fits held =
      (h, append-nil h, subst (λ (z : State). IsHeld (held_tail z c) h) (sym still) held)
  tiles-from chosen c small is_chosen (r ∷ rs) s h valid still fits held =
      let one = one-record chosen s r c h valid fits.0 small is_chosen held in
      let next = tiles-from chosen c small is_chosen rs (state_after_readings limit chosen s (r ∷ [])) one.0 (valid-after limit chosen s r valid fits.0)
      (sym (after-cons limit chosen s r valid fits.0 [])) fits.1 one.2 in
      let given : parts_of c (items_of_readings limit chosen s (r ∷ rs)) ≡ parts_of c (items_of_readings limit chosen s (r ∷ [])) ++ parts_of c (items_of_readings limit chosen (state_after_readings limit chosen s (r ∷ [])) rs) =
      ap (parts_of c) (items-cons limit chosen s r valid fits.0 rs fits.1)
      ∙ filter-append (λ x. is_part_of c x) (items_of_readings limit chosen s (r ∷ [])) (items_of_readings limit chosen (state_after_readings limit chosen s (r ∷ [])) rs) in (
        next.0,
        rw (given, ← append_assoc h (record_spots c s.records r) (channel_spots c (s.records + 1) rs))
            (Tile-append _ (one.0 ++ channel_spots c (s.records + 1) rs) next.0 (parts_of c (items_of_readings limit chosen s (r ∷ []))) _
            (Tile-more (h ++ record_spots c s.records r) one.0 (channel_spots c (s.records + 1) rs) (parts_of c (items_of_readings limit chosen s (r ∷ []))) one.1)
            next.1),
        subst (λ (z : State). IsHeld (held_tail z c) next.0) (sym (after-cons limit chosen s r valid fits.0 rs)) next.2,
      )

  pub empty-state : (chosen : ℕ → Bool) → HasShape limit chosen empty
  empty-state chosen = record {
    eight_channels = refl;
    only_chosen = λ c e small. at_eight (λ d. None) c small;
    tails = λ c last t e f. absurd (none_last c last e);
  }

pub tiled : (rules : Rules) (channel : ℕ) (records : List (List ℕ)) → channel < 8 → chooses rules channel ≡ true
    → (rest : List Spot) × Tile (channel_spots channel 0 (readings rules.layout records)) (parts_of channel (items rules empty records)) rest
    × IsHeld (held_tail (after rules empty records) channel) rest
unfolding items after
tiled rules channel records small is_chosen =
    tiles-from rules.max_packet (chooses rules) channel small is_chosen (readings rules.layout records) empty []
    (record { tails_open = λ c k e. subst (IsOpenTail rules.max_packet) (sym (empty-tail c)) tt })
    (after-nil rules.max_packet (chooses rules) empty (empty-state rules.max_packet (chooses rules))) (readings-fit rules.layout records)
    (subst (λ (t : Option Tail). IsHeld t []) (sym (empty-tail channel)) refl)
