-- Merged by record, the items of the chosen channels are all there, and no others.
use Rattle.tm_reassembly.proofs.Records.{HasOpenTails, good-items, items-cons, own_items, valid-after}
use Rattle.tm_reassembly.proofs.Masters.{masters-is, master-moved}
use Rattle.tm_reassembly.specs.Items as read
use Rattle.std.proofs.lemmas.Option.{slice_get_within, none-some}
use Rattle.tm_bits.proofs.Each.{Each, Each-every, Each-append, Each-weaken, Each-cond, Each-filter, filter-passes, filter-all, filter-none, none-filter}
use Rattle.std.proofs.Common.{◌≡◌, ℕ, suc, zero, ◌+◌, ◌<◌, ◌≤◌, ◌⊎◌, Bool, true, false, if◌then◌else◌, Ok, Err, Option, Some, None, List, [], ◌∷◌, ◌++◌, length, refl, sym, ap, subst, ◌∙◌, ⊎_elim, inl, inr, arith, eqb}
use Rattle.std.specs.List.{flat_map, filter, slice_get}
use Rattle.std.proofs.lemmas.Bool.{cases_Bool, cases_eq, cond_both, cond-true, eq-eqb, eqb-true, both_ways, true≢false, false_from_ne_true}
use Rattle.std.proofs.lemmas.List.{append-nil, length-map}
use Rattle.std.proofs.lemmas.List.Elements.{filter-append}
use Rattle.tm_frame.specs.Frame.{GoodFrame}
use Rattle.tm_frame.specs.Fault.{frame_reading_of}
use Rattle.tm_reassembly.specs.Readings.{FrameReading}
use Rattle.tm_reassembly.specs.State.{State, Last}
use Rattle.tm_items.specs.Item as item
use Rattle.tm_items.specs.Item.{Item, seen_of}
use Rattle.tm_reassembly.specs.Chain.{ChainMember, chain, frames, master_chain, member_of, master_member, master_frames}
use Rattle.tm_reassembly.specs.Parts.{Part, Fate, Held}
use Rattle.tm_reassembly.specs.Items.{part_item, seen_at, gap_item, master_gap_item, gaps, gap_at, vca_at, master_items, channel_items, chain_parts, record_items, merged}
use Rattle.tm_reassembly.specs.code.Field.{part_items}
use Rattle.tm_frame.specs.Rules.{Rules, chooses}
use Rattle.tm_reassembly.specs.Recording.{readings, items}
use Rattle.tm_reassembly.specs.Valid.{IsValidState}
use Rattle.tm_reassembly.specs.code.Fits.{AllReadingsFit, PlaceFits, IsFit}
use Rattle.tm_items.specs.Among.{Among, is_of, is_master_gap}
use Rattle.tm_reassembly.proofs.Seen.{AllSeen, seen_at-all, seen_at-none}
use Rattle.tm_reassembly.proofs.Joining.{before_of, tail_of, channel_items-is, AllNumbered, items-seen, gaps-each, vcas-each, none_other, gap-each}
use Rattle.tm_reassembly.proofs.Fits.{readings-fit}
use Rattle.tm_reassembly.proofs.OneStep.{open-at, valid-from}

-- the record of this number is a good frame of the channel, where the records are numbered from k on
abbrev pub IsFrame : ℕ → ℕ → List FrameReading → ℕ → Type 0
IsFrame c k rs n = (i : ℕ) × (g : GoodFrame) × (n ≡ k + i) × (slice_get rs i ≡ Some (Ok g)) × (g.channel ≡ c)

next-frame : (c k : ℕ) (r : FrameReading) (rs : List FrameReading) (n : ℕ) → IsFrame c (k + 1) rs n → IsFrame c k (r ∷ rs) n
next-frame c k r rs n h = let e = h.2 in (suc h.0, h.1, omega arith, h.3, h.4)

frames-numbered : (c k : ℕ) (rs : List FrameReading) → AllReadingsFit rs → AllNumbered (IsFrame c k rs) (frames c k rs)
frames-numbered c k [] h = tt
frames-numbered c k (r ∷ rs) h =
    Each-append (λ m. IsFrame c k (r ∷ rs) m.number × PlaceFits m.place (length m.field)) (member_of c k r) (frames c (k + 1) rs) (own r h.0)
    (Each-weaken (λ m. IsFrame c (k + 1) rs m.number × PlaceFits m.place (length m.field)) (λ m. IsFrame c k (r ∷ rs) m.number × PlaceFits m.place (length m.field))
    (frames c (k + 1) rs) (λ m p. (next-frame c k r rs m.number p.0, p.1)) (frames-numbered c (k + 1) rs h.1))
  where
    own : (r : FrameReading) → IsFit r → Each (λ m. IsFrame c k (r ∷ rs) m.number × PlaceFits m.place (length m.field)) (member_of c k r)
    own (Err fault) k = tt
    own (Ok g) fit =
        Each-cond (λ m. IsFrame c k (Ok g ∷ rs) m.number × PlaceFits m.place (length m.field)) (eqb g.channel c) _
        (λ e. (((0, g, omega arith, refl, eqb-true g.channel c e), fit.1), tt))

-- lists of items
among-either : (x : Item) (xs ys : List Item) → Among x (xs ++ ys) → Among x xs ⊎ Among x ys
among-either x [] ys a = inr a
among-either x (y ∷ xs) ys (inl e) = inl (inl e)
among-either x (y ∷ xs) ys (inr a) = ⊎_elim (λ b. inl (inr b)) (λ b. inr b) (among-either x xs ys a)

-- among items for which P holds
pub among-each : (P : Item → Type 0) (x : Item) (xs : List Item) → Each P xs → Among x xs → P x
among-each P x [] h a = absurd a
among-each P x (y ∷ ys) h (inl e) = subst P (sym e) h.0
among-each P x (y ∷ ys) h (inr a) = among-each P x ys h.1 a

-- among those that pass a test
among-pass : (test : Item → Bool) (x : Item) (xs : List Item) → test x ≡ true → Among x xs → Among x (filter test xs)
among-pass test x [] e a = absurd a
among-pass test x (y ∷ ys) e (inl f) = subst (Among x) (sym (cond-true (test y) _ _ (ap test (sym f) ∙ e))) (inl f)
among-pass test x (y ∷ ys) e (inr a) =
    cond_both (test y) (y ∷ filter test ys) (filter test ys) (Among x) (λ p. inr (among-pass test x ys e a)) (λ p. among-pass test x ys e a)

all-among : (xs : List Item) → Each (λ y. Among y xs) xs
all-among [] = tt
all-among (x ∷ xs) = (inl refl, Each-weaken (λ y. Among y xs) (λ y. Among y (x ∷ xs)) xs (λ y a. inr a) (all-among xs))

among-all : (test : Item → Bool) (x : Item) (xs : List Item) → Among x (filter test xs) → Among x xs
among-all test x xs a = among-each (λ y. Among y xs) x (filter test xs) (Each-filter (λ y. Among y xs) test xs (all-among xs)) a

-- the items of a channel are of it
abbrev pub AllOf : ℕ → List Item → Type 0
AllOf c xs = Each (λ x. is_of c x ≡ true) xs

parts-of : (c : ℕ) (ps : List Part) → AllOf c (part_items c ps)
parts-of c [] = tt
parts-of c (p ∷ ps) = Each-append (λ x. is_of c x ≡ true) (part_item c p p.fate) (part_items c ps) (one p.fate) (parts-of c ps)
  where
    one : (f : Fate) → AllOf c (part_item c p f)
    one Held = tt
    one f = (eq-eqb c c refl, tt)

-- master gaps are of no channel
masters-of : (c : ℕ) (ms : List ChainMember) → Each (λ x. is_of c x ≡ false) (master_items ms)
masters-of c ms = gaps-each (λ m. Unit {0}) (λ x. is_of c x ≡ false) master_gap_item (λ m expected h. refl) None ms (Each-every (λ m. Unit {0}) ms (λ m. tt))

-- and of no other
one_channel : (b c : ℕ) (x : Item) → is_of b x ≡ true → is_of c x ≡ true → b ≡ c
one_channel b c (item.Gap seen own expected found missing) h k = sym (eqb-true own b h) ∙ eqb-true own c k
one_channel b c (item.Vca seen own) h k = sym (eqb-true own b h) ∙ eqb-true own c k
one_channel b c (item.Dropped seen own first place octets reason) h k = sym (eqb-true own b h) ∙ eqb-true own c k
one_channel b c (item.Packet seen own first place octets) h k = sym (eqb-true own b h) ∙ eqb-true own c k
one_channel b c x h k = absurd (cc)

-- the items of the channel among others
abbrev of_channel : ℕ → List Item → List Item
of_channel c xs = filter (λ x. is_of c x) xs

of-none : (b c : ℕ) (xs : List Item) → (b ≡ c → ⊥) → AllOf b xs → of_channel c xs ≡ []
of-none b c xs ne h =
    filter-none (λ x. is_of c x) xs
    (Each-weaken (λ x. is_of b x ≡ true) (λ x. is_of c x ≡ false) xs (λ x e. false_from_ne_true (is_of c x) (λ f. ne (one_channel b c x e f))) h)

pub seen-exact : (n : ℕ) (xs : List Item) → AllSeen (λ s. s ≡ n) (seen_at n xs)
seen-exact n xs =
    Each-weaken (λ x. eqb (seen_of x) n ≡ true) (λ x. seen_of x ≡ n) (seen_at n xs) (λ x e. eqb-true (seen_of x) n e) (filter-passes (λ x. eqb (seen_of x) n) xs)

-- the items of a channel are seen at good frames of it
channel-seen : (rules : Rules) (s : State) → IsValidState rules s → (c : ℕ) (rs : List FrameReading) → AllReadingsFit rs
    → AllSeen (IsFrame c s.records rs) (channel_items rules.max_packet c (chain s c rs))
channel-seen rules s v c rs fits =
    let x : Option (Option Last) = slice_get s.channels c in
    subst (AllSeen (IsFrame c s.records rs)) (sym (channel_items-is rules.max_packet c x (frames c s.records rs)))
    (items-seen rules.max_packet (IsFrame c s.records rs) c (before_of x) (tail_of x) (frames c s.records rs) (open-at rules.max_packet (chooses rules) s v.shape c) (frames-numbered c s.records rs fits))

pub seen-in_time : (rules : Rules) (s : State) (records : List (List ℕ)) → IsValidState rules s
    → (c : ℕ) (x : Item) → Among x (channel_items rules.max_packet c (chain s c (readings rules.layout records)))
    → (s.records ≤ seen_of x) × (seen_of x < s.records + length records)
seen-in_time rules s records v c x a =
    let rs : List FrameReading = readings rules.layout records in
    let f = among-each (λ y. IsFrame c s.records rs (seen_of y)) x _ (channel-seen rules s v c rs (readings-fit rules.layout records)) a in
    let inside : f.0 < length (readings rules.layout records) = slice_get_within (readings rules.layout records) f.0 (Ok f.1) f.3 in
    (omega (arith, f.2, length-map records (frame_reading_of rules.layout)), omega (arith, f.2, length-map records (frame_reading_of rules.layout)))

module _ (limit : ℕ) where
  pub channel-of : (c : ℕ) (ms : List ChainMember) → AllOf c (channel_items limit c ms)
  channel-of c ms =
      Each-append (λ x. is_of c x ≡ true) (gaps (gap_item c) None ms ++ flat_map (vca_at c) ms) (part_items c (chain_parts limit ms))
      (Each-append (λ x. is_of c x ≡ true) (gaps (gap_item c) None ms) (flat_map (vca_at c) ms)
      (gaps-each (λ m. Unit {0}) (λ x. is_of c x ≡ true) (gap_item c) (λ m expected h. eq-eqb c c refl) None ms (Each-every (λ m. Unit {0}) ms (λ m. tt)))
      (vcas-each (λ m. Unit {0}) (λ x. is_of c x ≡ true) c (λ m h. eq-eqb c c refl) ms (Each-every (λ m. Unit {0}) ms (λ m. tt))))
      (parts-of c (chain_parts limit ms))

  module _ (chosen : ℕ → Bool) (s : State) (all : List FrameReading) where
    -- the items of a record are seen at it
    pub record-exact : (k : ℕ) (r : FrameReading) → AllSeen (λ m. m ≡ k) (record_items limit chosen s all k r)
    record-exact k (Err fault) = (refl, tt)
    record-exact k (Ok g) =
        Each-append (λ x. seen_of x ≡ k) (seen_at k (master_items (master_chain s all))) _ (seen-exact k (master_items (master_chain s all)))
        (Each-cond (λ x. seen_of x ≡ k) (chosen g.channel) _ (λ e. seen-exact k (channel_items limit g.channel (chain s g.channel all))))

    -- what is seen at a good frame and of a channel is one of its items
    of_frame : (k : ℕ) (g : GoodFrame) (c : ℕ) (x : Item) → is_of c x ≡ true
        → Among x (if chosen g.channel then seen_at k (channel_items limit g.channel (chain s g.channel all)) else [])
        → (chosen c ≡ true) × Among x (channel_items limit c (chain s c all))
    of_frame k g c x own a =
        ⊎_elim
        (λ is_chosen.
        let xs : List Item = channel_items limit g.channel (chain s g.channel all) in
        let there : Among x xs = among-all (λ y. eqb (seen_of y) k) x xs (rw is_chosen at a) in
        rw (← one_channel g.channel c x (among-each (λ y. is_of g.channel y ≡ true) x xs (channel-of g.channel (chain s g.channel all)) there) own) (is_chosen, there))
        (λ not_chosen. absurd (rw not_chosen at a))
        (cases_Bool (chosen g.channel))

    -- and what is there and of a channel is one of its items
    from-record : (k : ℕ) (r : FrameReading) (c : ℕ) (x : Item) → is_of c x ≡ true → Among x (record_items limit chosen s all k r)
        → (chosen c ≡ true) × Among x (channel_items limit c (chain s c all))
    from-record k (Err fault) c x own (inl e) = absurd (true≢false (sym own ∙ ap (is_of c) e))
    from-record k (Err fault) c x own (inr a) = absurd a
    from-record k (Ok g) c x own a =
        ⊎_elim
        (λ gap.
        let gaps : List Item = master_items (master_chain s all) in
        absurd (both_ways (is_of c x) (among-each (λ y. is_of c y ≡ false) x gaps (masters-of c (master_chain s all)) (among-all (λ y. eqb (seen_of y) k) x gaps gap)) own))
        (of_frame k g c x own)
        (among-either x (seen_at k (master_items (master_chain s all))) _ a)

    from-merged : (k : ℕ) (rs : List FrameReading) (c : ℕ) (x : Item) → is_of c x ≡ true → Among x (merged limit chosen s all k rs)
        → (chosen c ≡ true) × Among x (channel_items limit c (chain s c all))
    from-merged k [] c x own a = absurd a
    from-merged k (r ∷ rs) c x own a =
        ⊎_elim (from-record k r c x own) (from-merged (k + 1) rs c x own) (among-either x (record_items limit chosen s all k r) (merged limit chosen s all (k + 1) rs) a)

pub told-channel : (rules : Rules) (s : State) (records : List (List ℕ))
    → (c : ℕ) (x : Item) → is_of c x ≡ true → Among x (items rules s records)
    → (chooses rules c ≡ true) × Among x (channel_items rules.max_packet c (chain s c (readings rules.layout records)))
unfolding items
told-channel rules s records c x own a = from-merged rules.max_packet (chooses rules) s (readings rules.layout records) s.records (readings rules.layout records) c x own a

module _ (limit : ℕ) where
  module _ (chosen : ℕ → Bool) (s : State) (all : List FrameReading) (c : ℕ) (is_chosen : chosen c ≡ true) (n : ℕ) where
    -- the items of a channel that are seen at n, among some items, and among all of its own
    abbrev Here : List Item → List Item
    Here xs = seen_at n (of_channel c xs)

    abbrev Own : List Item
    Own = seen_at n (channel_items limit c (chain s c all))

    here-append : (xs ys : List Item) → Here (xs ++ ys) ≡ Here xs ++ Here ys
    here-append xs ys = ap (seen_at n) (filter-append (λ x. is_of c x) xs ys) ∙ filter-append (λ x. eqb (seen_of x) n) (of_channel c xs) (of_channel c ys)

    -- another record
    record-there : (k : ℕ) (r : FrameReading) → (k ≡ n → ⊥) → Here (record_items limit chosen s all k r) ≡ []
    record-there k r ne =
        none_other k n _ ne (Each-filter (λ x. seen_of x ≡ k) (λ x. is_of c x) _ (record-exact limit chosen s all k r))

    -- what stands after a master gap
    past-master : (k : ℕ) (xs : List Item) → Here (seen_at k (master_items (master_chain s all)) ++ xs) ≡ Here xs
    past-master k xs =
        here-append (seen_at k (master_items (master_chain s all))) xs ∙ ap (λ (ys : List Item). seen_at n ys ++ Here xs) (none-filter (λ x. is_of c x) (λ x. eqb (seen_of x) k) _ (masters-of c (master_chain s all)))

    -- a frame of another channel
    record-other : (k : ℕ) (g : GoodFrame) → (g.channel ≡ c → ⊥) → Here (record_items limit chosen s all k (Ok g)) ≡ []
    record-other k g ne =
        past-master k _
        ∙ cond_both (chosen g.channel) (seen_at k (channel_items limit g.channel (chain s g.channel all))) [] (λ (xs : List Item). Here xs ≡ [])
        (λ e.
        ap (seen_at n)
        (of-none g.channel c (seen_at k (channel_items limit g.channel (chain s g.channel all))) ne
        (Each-filter (λ x. is_of g.channel x ≡ true) (λ x. eqb (seen_of x) k) _ (channel-of limit g.channel (chain s g.channel all)))))
        (λ e. refl)

    -- the record, with a frame of the channel
    record-here : (g : GoodFrame) → g.channel ≡ c → Here (record_items limit chosen s all n (Ok g)) ≡ Own
    record-here g e =
        let xs : List Item = channel_items limit c (chain s c all) in
        past-master n _
        ∙ rw (e, is_chosen, filter-all (λ x. is_of c x) (seen_at n xs) (Each-filter (λ x. is_of c x ≡ true) (λ x. eqb (seen_of x) n) xs (channel-of limit c (chain s c all))))
        (seen_at-all n (seen_at n xs) (seen-exact n xs))

    -- the record is a frame of the channel, and its items are there, or it is none
    abbrev Either : ℕ → List FrameReading → Type 0
    Either k rs =
        (IsFrame c k rs n × (Here (merged limit chosen s all k rs) ≡ Own)) ⊎ ((IsFrame c k rs n → ⊥) × (Here (merged limit chosen s all k rs) ≡ []))

    at_it : (k : ℕ) (r : FrameReading) (rs : List FrameReading) → k ≡ n → Here (merged limit chosen s all (k + 1) rs) ≡ [] → Either k (r ∷ rs)
    at_it k (Err fault) rs e rest = inr (no, here-append (record_items limit chosen s all k (Err fault)) (merged limit chosen s all (k + 1) rs) ∙ rest)
      where
        no : IsFrame c k (Err fault ∷ rs) n → ⊥
        no (zero, g, at, there, own) = cc
        no (suc i, g, at, there, own) = omega arith
    at_it k (Ok g) rs e rest =
        let append = here-append (record_items limit chosen s all k (Ok g)) (merged limit chosen s all (k + 1) rs) in
        ⊎_elim
        (λ own. inl ((0, g, omega arith, refl, own), append ∙ rw (rest, append-nil, e) (record-here g own)))
        (λ other. inr (no other, append ∙ rw (record-other k g other) rest))
        (cases_eq g.channel c)
      where
        no : (g.channel ≡ c → ⊥) → IsFrame c k (Ok g ∷ rs) n → ⊥
        no other (zero, f, at, there, own) = let same : g ≡ f = cc in other (ap (λ (z : GoodFrame). z.channel) same ∙ own)
        no other (suc i, f, at, there, own) = omega arith

    before-it : (k : ℕ) (r : FrameReading) (rs : List FrameReading) → (k ≡ n → ⊥) → Either (k + 1) rs → Either k (r ∷ rs)
    before-it k r rs ne rest =
        let same : Here (merged limit chosen s all k (r ∷ rs)) ≡ Here (merged limit chosen s all (k + 1) rs) =
        here-append (record_items limit chosen s all k r) (merged limit chosen s all (k + 1) rs)
        ∙ ap (λ (ys : List Item). ys ++ Here (merged limit chosen s all (k + 1) rs)) (record-there k r ne) in
        ⊎_elim (λ h. inl (next-frame c k r rs n h.0, same ∙ h.1)) (λ h. inr (no h.0, same ∙ h.1)) rest
      where
        no : (IsFrame c (k + 1) rs n → ⊥) → IsFrame c k (r ∷ rs) n → ⊥
        no not_later (zero, g, at, there, own) = ne (omega arith)
        no not_later (suc i, g, at, there, own) = not_later (i, g, omega arith, there, own)

    either : (k : ℕ) (rs : List FrameReading) → Either k rs
    either k [] = inr (λ f. none-some (Ok f.1) f.3, refl)
    either k (r ∷ rs) =
        ⊎_elim
        (λ e.
        at_it k r rs e
        (⊎_elim (λ h. absurd (omega (arith, h.0.2))) (λ h. h.1) (either (k + 1) rs)))
        (λ ne. before-it k r rs ne (either (k + 1) rs))
        (cases_eq k n)

pub channel-in_order : (rules : Rules) (s : State) (records : List (List ℕ)) → IsValidState rules s
    → (c : ℕ) → chooses rules c ≡ true → (n : ℕ)
    → seen_at n (filter (λ x. is_of c x) (items rules s records)) ≡ seen_at n (channel_items rules.max_packet c (chain s c (readings rules.layout records)))
unfolding items
channel-in_order rules s records v c is_chosen n =
    let rs : List FrameReading = readings rules.layout records in
    let xs : List Item = channel_items rules.max_packet c (chain s c (readings rules.layout records)) in
    ⊎_elim
    (λ h. h.1)
    (λ h.
    h.1
    ∙ sym
    (seen_at-none n xs
    (Each-weaken (λ x. IsFrame c s.records rs (seen_of x)) (λ x. seen_of x ≡ n → ⊥) xs (λ x f e. h.0 (subst (IsFrame c s.records rs) e f))
    (channel-seen rules s v c rs (readings-fit rules.layout records)))))
    (either rules.max_packet (chooses rules) s rs c is_chosen n s.records rs)

-- what is among the channel's items is told
pub channel-told : (rules : Rules) (s : State) (records : List (List ℕ)) → IsValidState rules s
    → (c : ℕ) → chooses rules c ≡ true → (x : Item) → Among x (channel_items rules.max_packet c (chain s c (readings rules.layout records))) → Among x (items rules s records)
channel-told rules s records v c is_chosen x a =
    among-all (λ y. is_of c y) x (items rules s records)
    (among-all (λ y. eqb (seen_of y) (seen_of x)) x (filter (λ y. is_of c y) (items rules s records))
    (subst (Among x) (sym (channel-in_order rules s records v c is_chosen (seen_of x)))
    (among-pass (λ y. eqb (seen_of y) (seen_of x)) x _ (eq-eqb (seen_of x) (seen_of x) refl) a)))

-- the gaps of the master chain are all there, and no others
abbrev masters_in : List Item → List Item
masters_in xs = filter is_master_gap xs

-- what is of a channel is none of them
pub not_master : (c : ℕ) (x : Item) → is_of c x ≡ true → is_master_gap x ≡ false
not_master c (item.MasterGap seen expected found missing) h = absurd (cc)
not_master c x h = refl

module _ (limit : ℕ) (chosen : ℕ → Bool) where
  -- one good frame: its own items are none
  pub own-none : (s : State) (g : GoodFrame) → Each (λ x. is_master_gap x ≡ false) (own_items limit chosen s g)
  own-none s g =
      Each-cond (λ x. is_master_gap x ≡ false) (chosen g.channel) _
      (λ p. Each-weaken (λ x. is_of g.channel x ≡ true) (λ x. is_master_gap x ≡ false) _ (not_master g.channel)
      (Each-filter (λ x. is_of g.channel x ≡ true) (λ x. eqb (seen_of x) s.records) _ (channel-of limit g.channel (chain s g.channel (Ok g ∷ [])))))

  good-in : (s : State) (g : GoodFrame) → masters_in (read.items_of_readings limit chosen s (Ok g ∷ [])) ≡ gap_at master_gap_item s.master (master_member s.records g)
  good-in s g =
      let gap : List Item = gap_at master_gap_item s.master (master_member s.records g) in
      ap masters_in (good-items limit chosen s g)
      ∙ filter-append is_master_gap gap (own_items limit chosen s g)
      ∙ rw (filter-none is_master_gap (own_items limit chosen s g) (own-none s g), append-nil)
      (filter-all is_master_gap gap (gap-each (λ x. is_master_gap x ≡ true) master_gap_item s.master (master_member s.records g) (λ expected. refl)))

  all-in : (s : State) (rs : List FrameReading) → HasOpenTails limit chosen s → AllReadingsFit rs
      → masters_in (read.items_of_readings limit chosen s rs) ≡ gaps master_gap_item s.master (master_frames s.records rs)
  all-in s [] v fits = refl
  all-in s (Err fault ∷ rs) v fits =
      ap masters_in (items-cons limit chosen s (Err fault) v tt rs fits.1)
      ∙ all-in (read.state_after_readings limit chosen s (Err fault ∷ [])) rs (valid-after limit chosen s (Err fault) v tt) fits.1
      ∙ ap (λ (before : Option ℕ). gaps master_gap_item before (master_frames (s.records + 1) rs)) (master-moved s (Err fault))
  all-in s (Ok g ∷ rs) v fits =
      ap masters_in (items-cons limit chosen s (Ok g) v fits.0 rs fits.1)
      ∙ filter-append is_master_gap (read.items_of_readings limit chosen s (Ok g ∷ [])) (read.items_of_readings limit chosen (read.state_after_readings limit chosen s (Ok g ∷ [])) rs)
      ∙ ap (λ (xs : List Item). xs ++ masters_in (read.items_of_readings limit chosen (read.state_after_readings limit chosen s (Ok g ∷ [])) rs)) (good-in s g)
      ∙ ap (λ (xs : List Item). gap_at master_gap_item s.master (master_member s.records g) ++ xs)
      (all-in (read.state_after_readings limit chosen s (Ok g ∷ [])) rs (valid-after limit chosen s (Ok g) v fits.0) fits.1
      ∙ ap (λ (before : Option ℕ). gaps master_gap_item before (master_frames (s.records + 1) rs)) (master-moved s (Ok g)))

pub masters-told : (rules : Rules) (s : State) (records : List (List ℕ)) → IsValidState rules s
    → filter is_master_gap (items rules s records) ≡ master_items (master_chain s (readings rules.layout records))
unfolding items
masters-told rules s records v =
    all-in rules.max_packet (chooses rules) s (readings rules.layout records) (valid-from rules.max_packet (chooses rules) s v.shape) (readings-fit rules.layout records)
    ∙ sym (masters-is s.master (master_frames s.records (readings rules.layout records)))
