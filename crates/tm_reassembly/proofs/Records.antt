-- Joining, over records: the items and the state after a record and more records are those of the record, and then of the others.
use Rattle.tm_bits.proofs.Each.{Each-append, Each-weaken}
use Rattle.std.proofs.lemmas.Option.{slice_get_within, none-some}
use Rattle.std.proofs.Common.{◌≡◌, Ok, Err, ◌≢◌, ℕ, suc, zero, ◌+◌, ◌<◌, Bool, true, Option, Some, None, List, [], ◌∷◌, ◌++◌, map, length, refl, sym, ap, subst, ◌∙◌, ◌⊎◌, ⊎_elim, inl, inr, lit<, arith, append_assoc, eqb, if◌then◌else◌, ◌≤◌}
use Rattle.std.specs.List.{flat_map, slice_get}
use Rattle.std.proofs.lemmas.List.{append-nil}
use Rattle.std.proofs.lemmas.List.Concat.{flat_map-append}
use Rattle.std.proofs.lemmas.Bool.{cases_Bool, cond_both, eq-eqb, cond-true}
pub use Rattle.tm_reassembly.specs.code.Fits.{IsFit, AllReadingsFit}
use Rattle.tm_frame.specs.Frame.{GoodFrame}
use Rattle.tm_reassembly.specs.State.{State, Last, Tail}
use Rattle.tm_reassembly.specs.Readings.{FrameReading}
use Rattle.tm_items.specs.Item.{Item}
use Rattle.tm_reassembly.specs.Chain.{ChainMember, has_frame_gap, stem_of, stem_with, chain, frames, member_of, member, master_member, Unended}
use Rattle.tm_reassembly.specs.Parts.{Part}
use Rattle.tm_reassembly.specs.code.Field.{chain_parts_at, chain_tail_at}
use Rattle.tm_frame.specs.Channels.{eight}
use Rattle.tm_reassembly.specs.Items.{seen_at, gap_at, master_gap_item, held_part, channel_items, chain_parts, last_frame_count, last_with, first_tail, channel_after, state_after_readings, record_items, merged, items_of_readings, empty}
use Rattle.tm_reassembly.proofs.Step.{PlaceFits}
use Rattle.tm_reassembly.proofs.Chained.{IsOpenTail, chained, chained_step, chained_end, chain_parts-stem, chain_parts-fresh, left_parts}
use Rattle.tm_reassembly.proofs.Seen.{held-none, chain_parts_at-at, chain_tail_at-open}
use Rattle.tm_reassembly.proofs.Masters.{masters-now, masters-later, master-moved, master-later}
use Rattle.tm_reassembly.proofs.Joining.{before_of, tail_of, items_after, channel_items-is, member_items, FitFrom, items-here, items-there}

last_count-is : (x : Option (Option Last)) (fs : List ChainMember) → last_frame_count None (stem_of x ++ fs) ≡ last_frame_count (before_of x) fs
last_count-is None fs = refl
last_count-is (Some None) fs = refl
last_count-is (Some (Some last)) fs = with_tail last.tail
  where
    with_tail : (t : Option Tail) → last_frame_count None (stem_with last.count t ∷ fs) ≡ last_frame_count (Some last.count) fs
    with_tail None = refl
    with_tail (Some t) = refl

pub at_eight : (f : ℕ → Option Last) (c : ℕ) → c < 8 → slice_get (map f eight) c ≡ Some (f c)
at_eight f zero h = refl
at_eight f (suc zero) h = refl
at_eight f (suc (suc zero)) h = refl
at_eight f (suc (suc (suc zero))) h = refl
at_eight f (suc (suc (suc (suc zero)))) h = refl
at_eight f (suc (suc (suc (suc (suc zero))))) h = refl
at_eight f (suc (suc (suc (suc (suc (suc zero)))))) h = refl
at_eight f (suc (suc (suc (suc (suc (suc (suc zero))))))) h = refl
at_eight f (suc (suc (suc (suc (suc (suc (suc (suc c)))))))) h = absurd (omega arith)

-- at the start nothing is kept
pub none_last : (c : ℕ) (last : Last) → slice_get empty.channels c ≡ Some (Some last) → ⊥
none_last c last e = let there = at_eight (λ d. None) c (slice_get_within empty.channels c (Some last) e) in cc

-- a record has no frame of the channel, or one
abbrev OneFrame : ℕ → List ChainMember → Type 0
OneFrame k fs = (f : ChainMember) × (fs ≡ f ∷ []) × (f.number ≡ k) × PlaceFits f.place (length f.field)

frame_cases : (c k : ℕ) (r : FrameReading) → IsFit r → (member_of c k r ≡ []) ⊎ OneFrame k (member_of c k r)
frame_cases c k (Err fault) h = inl refl
frame_cases c k (Ok f) h =
    cond_both (eqb f.channel c) (member k f ∷ []) [] (λ fs. (fs ≡ []) ⊎ OneFrame k fs) (λ e. inr (member k f, refl, refl, h.1)) (λ e. inl refl)

pub frames-fit : (c k : ℕ) (rs : List FrameReading) → AllReadingsFit rs → FitFrom k (frames c k rs)
frames-fit c k [] h = tt
frames-fit c k (r ∷ rs) h =
    Each-append (λ m. (k ≤ m.number) × PlaceFits m.place (length m.field)) (member_of c k r) (frames c (k + 1) rs)
    (⊎_elim (λ (e : member_of c k r ≡ []). rw e tt) (λ (w : OneFrame k (member_of c k r)). rw w.1 ((omega (arith, w.2), w.3), tt)) (frame_cases c k r h.0))
    (Each-weaken (λ m. (k + 1 ≤ m.number) × PlaceFits m.place (length m.field)) (λ m. (k ≤ m.number) × PlaceFits m.place (length m.field)) (frames c (k + 1) rs)
    (λ m p. (let b = p.0 in omega arith, p.1)) (frames-fit c (k + 1) rs h.1))

no_tail : (x : Option (Option Last)) → before_of x ≡ None → tail_of x ≡ None
no_tail None h = refl
no_tail (Some None) h = refl
no_tail (Some (Some last)) h = absurd (cc)

before_with : (tail : Option Tail) (count : Option ℕ) → before_of (Some (last_with tail count)) ≡ count
before_with tail None = refl
before_with tail (Some count) = refl

tail_with : (tail : Option Tail) (count : Option ℕ) → (count ≡ None → tail ≡ None) → tail_of (Some (last_with tail count)) ≡ tail
tail_with tail None h = sym (h refl)
tail_with tail (Some count) h = refl

map_eight : (f g : ℕ → Option Last) → ((c : ℕ) → c < 8 → f c ≡ g c) → map f eight ≡ map g eight
map_eight f g h =
    rw (h 0 (lit< tt), h 1 (lit< tt), h 2 (lit< tt), h 3 (lit< tt), h 4 (lit< tt), h 5 (lit< tt), h 6 (lit< tt), h 7 (lit< tt))

pub state_same : {a b : ℕ} {m n : Option ℕ} {x y : List (Option Last)} → a ≡ b → m ≡ n → x ≡ y
    → ◌≡◌ {A = State} (record { records = a; master = m; channels = x }) (record { records = b; master = n; channels = y })
state_same e f g = rw (e, f, g)

append_same : {a b c d : List Item} → a ≡ c → b ≡ d → a ++ b ≡ c ++ d
append_same e f = rw (e, f)

module _ (limit : ℕ) where
  -- the tail that a chain leaves
  chain_parts-is : (x : Option (Option Last)) (fs : List ChainMember) → chain_parts limit (stem_of x ++ fs) ≡ chained limit (before_of x) (tail_of x) fs
  chain_parts-is None fs = chain_parts-fresh limit fs
  chain_parts-is (Some None) fs = chain_parts-fresh limit fs
  chain_parts-is (Some (Some last)) fs = chain_parts-stem limit last.count last.tail fs

  abbrev pub tail_after : Option ℕ → Option Tail → List ChainMember → Option Tail
  tail_after before tail fs = first_tail (flat_map (λ p. held_part p p.fate) (chained limit before tail fs))

  pub tail_after-end : (before : Option ℕ) (tail : Option Tail) → IsOpenTail limit tail → tail_after before tail [] ≡ tail
  tail_after-end before tail h = ap (λ (ps : List Part). first_tail (flat_map (λ p. held_part p p.fate) ps)) (chained_end limit before tail h) ∙ same tail
    where
      same : (t : Option Tail) → first_tail (flat_map (λ p. held_part p p.fate) (left_parts t Unended)) ≡ t
      same None = refl
      same (Some t) = refl

  tail_after-step : (before : Option ℕ) (tail : Option Tail) (f : ChainMember) (fs : List ChainMember) → IsOpenTail limit tail → PlaceFits f.place (length f.field)
      → tail_after before tail (f ∷ fs) ≡ tail_after (Some f.count) (chain_tail_at limit (has_frame_gap before f) f.is_vca tail f) fs
  tail_after-step before tail f fs h k =
      let here : List Part = chain_parts_at limit (has_frame_gap before f) f.is_vca tail f in
      let rest : List Part = chained limit (Some f.count) (chain_tail_at limit (has_frame_gap before f) f.is_vca tail f) fs in
      ap (λ (ps : List Part). first_tail (flat_map (λ p. held_part p p.fate) ps)) (chained_step limit before tail f fs h k)
      ∙ ap first_tail
      (flat_map-append (λ p. held_part p p.fate) here rest
      ∙ ap (λ (ts : List Tail). ts ++ flat_map (λ p. held_part p p.fate) rest) (held-none limit f.number here (chain_parts_at-at limit (has_frame_gap before f) f.is_vca tail f)))

  -- what a channel's state is after records
  pub channel_after-is : (chosen : ℕ → Bool) (s : State) (rs : List FrameReading) (c : ℕ) → chosen c ≡ true
      → channel_after limit chosen s rs c
      ≡ last_with (tail_after (before_of (slice_get s.channels c)) (tail_of (slice_get s.channels c)) (frames c s.records rs))
      (last_frame_count (before_of (slice_get s.channels c)) (frames c s.records rs))
  channel_after-is chosen s rs c h =
      cond-true (chosen c) _ _ h
      ∙ pair_same
      (ap (λ (ps : List Part). first_tail (flat_map (λ p. held_part p p.fate) ps)) (chain_parts-is (slice_get s.channels c) (frames c s.records rs)))
      (last_count-is (slice_get s.channels c) (frames c s.records rs))
    where
      pair_same : {a b : Option Tail} {m n : Option ℕ} → a ≡ b → m ≡ n → last_with a m ≡ last_with b n
      pair_same e f = rw (e, f)

  -- a state that may be: each chosen channel's tail is open
  pub record HasOpenTails (chosen : ℕ → Bool) (s : State) : Type 0 where
    pub tails_open : (c : ℕ) → c < 8 → chosen c ≡ true → IsOpenTail limit (tail_of (slice_get s.channels c))

  module _ (chosen : ℕ → Bool) (s : State) (r : FrameReading) (valid : HasOpenTails chosen s) (fit : IsFit r) (c : ℕ) (small : c < 8) (is_chosen : chosen c ≡ true) where
    abbrev before : Option ℕ
    before = before_of (slice_get s.channels c)

    abbrev tail : Option Tail
    tail = tail_of (slice_get s.channels c)

    abbrev own : List ChainMember
    own = member_of c s.records r

    abbrev next : State
    next = state_after_readings limit chosen s (r ∷ [])

    open_tail : IsOpenTail limit tail
    open_tail = valid.tails_open c small is_chosen

    pub new-is : slice_get next.channels c ≡ Some (last_with (tail_after before tail (own ++ [])) (last_frame_count before (own ++ [])))
    new-is = at_eight (channel_after limit chosen s (r ∷ [])) c small ∙ ap (λ (x : Option Last). Some x) (channel_after-is chosen s (r ∷ []) c is_chosen)

    -- no frame of the channel: the channel's state stays
    pub before-same : own ≡ [] → before_of (slice_get next.channels c) ≡ before
    before-same e = ap before_of new-is ∙ rw (before_with, e)

    pub tail-same : own ≡ [] → tail_of (slice_get next.channels c) ≡ tail
    tail-same e =
        let t : tail_after before tail (own ++ []) ≡ tail = rw e (tail_after-end before tail open_tail) in
        let n : last_frame_count before (own ++ []) ≡ before = rw e in
        ap tail_of new-is ∙ tail_with _ _ (λ z. t ∙ no_tail (slice_get s.channels c) (sym n ∙ z)) ∙ t

    module _ (f : ChainMember) (e : own ≡ f ∷ []) (place : PlaceFits f.place (length f.field)) where
      -- one frame: its count, and the tail that it leaves
      pub before-moved : before_of (slice_get next.channels c) ≡ Some f.count
      before-moved = ap before_of new-is ∙ rw (before_with, e)

      pub tail-moved : tail_of (slice_get next.channels c) ≡ chain_tail_at limit (has_frame_gap before f) f.is_vca tail f
      tail-moved =
          let left : Option Tail = chain_tail_at limit (has_frame_gap before f) f.is_vca tail f in
          let t : tail_after before tail (own ++ []) ≡ left =
          rw e (tail_after-step before tail f [] open_tail place
          ∙ tail_after-end (Some f.count) left (chain_tail_at-open limit (has_frame_gap before f) f.is_vca tail f open_tail)) in
          let n : last_frame_count before (own ++ []) ≡ Some f.count = rw e in
          ap tail_of new-is ∙ tail_with _ _ (λ z. absurd (none-some f.count (sym z ∙ n))) ∙ t

    -- at a later record the channel's items are as from the state after this one
    items-later : (rs : List FrameReading) (n : ℕ) → (s.records ≡ n → ⊥)
        → seen_at n (channel_items limit c (chain s c (r ∷ rs))) ≡ seen_at n (channel_items limit c (chain next c rs))
    items-later rs n ne =
        ap (seen_at n) (channel_items-is limit c (slice_get s.channels c) (own ++ frames c (s.records + 1) rs))
        ∙ ⊎_elim
        (λ (e : own ≡ []). rw (before-same e, tail-same e, e))
        (λ (w : OneFrame s.records own).
        rw (before-moved w.0 w.1 w.3, tail-moved w.0 w.1 w.3, w.1)
        (items-there limit c before tail w.0 (frames c (s.records + 1) rs) open_tail w.3 n (λ q. ne (sym w.2 ∙ q))))
        (frame_cases c s.records r fit)
        ∙ sym (ap (seen_at n) (channel_items-is limit c (slice_get next.channels c) (frames c (s.records + 1) rs)))

    -- at this record the channel's items are the same, whatever comes later
    items-now : (rs : List FrameReading) → AllReadingsFit rs → own ≢ []
        → seen_at s.records (channel_items limit c (chain s c (r ∷ rs))) ≡ seen_at s.records (channel_items limit c (chain s c (r ∷ [])))
    items-now rs fits some =
        ⊎_elim (λ e. absurd (some e)) (λ w. here rs fits w.0 w.1 w.2 w.3 ∙ sym (here [] tt w.0 w.1 w.2 w.3)) (frame_cases c s.records r fit)
      where
        here : (qs : List FrameReading) → AllReadingsFit qs → (f : ChainMember) → own ≡ f ∷ [] → f.number ≡ s.records → PlaceFits f.place (length f.field)
            → seen_at s.records (channel_items limit c (chain s c (r ∷ qs))) ≡ member_items limit c before tail f
        here qs fitted f e number place =
            let later : FitFrom (suc f.number) (frames c (s.records + 1) qs) =
            subst (λ (k : ℕ). FitFrom k (frames c (s.records + 1) qs)) (omega arith) (frames-fit c (s.records + 1) qs fitted) in
            ap (seen_at s.records) (channel_items-is limit c (slice_get s.channels c) (own ++ frames c (s.records + 1) qs))
            ∙ rw e (ap (λ (k : ℕ). seen_at k (items_after limit c before tail (f ∷ frames c (s.records + 1) qs))) (sym number)
            ∙ items-here limit c before tail f (frames c (s.records + 1) qs) open_tail place later)

    -- the state of the channel after more records
    pub channel-later : (rs : List FrameReading) → channel_after limit chosen s (r ∷ rs) c ≡ channel_after limit chosen next rs c
    channel-later rs =
        channel_after-is chosen s (r ∷ rs) c is_chosen
        ∙ ⊎_elim
        (λ (e : own ≡ []). rw (before-same e, tail-same e, e))
        (λ (w : OneFrame s.records own).
        rw (before-moved w.0 w.1 w.3, tail-moved w.0 w.1 w.3, w.1, tail_after-step before tail w.0 (frames c (s.records + 1) rs) open_tail w.3))
        (frame_cases c s.records r fit)
        ∙ sym (channel_after-is chosen next rs c is_chosen)

    -- and its tail stays open
    pub tail-later : IsOpenTail limit (tail_of (slice_get next.channels c))
    tail-later =
        ⊎_elim
        (λ (e : own ≡ []). rw (tail-same e) open_tail)
        (λ (w : OneFrame s.records own).
        rw (tail-moved w.0 w.1 w.3) (chain_tail_at-open limit (has_frame_gap before w.0) w.0.is_vca tail w.0 open_tail))
        (frame_cases c s.records r fit)

  pub record_items-now : (chosen : ℕ → Bool) (s : State) (r : FrameReading) → HasOpenTails chosen s → IsFit r → (rs : List FrameReading) → AllReadingsFit rs
      → record_items limit chosen s (r ∷ rs) s.records r ≡ record_items limit chosen s (r ∷ []) s.records r
  record_items-now chosen s (Err fault) valid fit rs fits = refl
  record_items-now chosen s (Ok g) valid fit rs fits =
      append_same (masters-now s g rs ∙ sym (masters-now s g []))
      (⊎_elim
      (λ e.
      rw e
      (items-now chosen s (Ok g) valid fit g.channel fit.0 e rs fits
      (λ z. let one : member_of g.channel s.records (Ok g) ≡ member s.records g ∷ [] = rw (eq-eqb g.channel g.channel refl) in cc)))
      (λ e. rw e)
      (cases_Bool (chosen g.channel)))

  -- the items of one good frame: its master gap, and then those of its channel
  abbrev pub own_items : (ℕ → Bool) → State → GoodFrame → List Item
  own_items chosen s g = if chosen g.channel then seen_at s.records (channel_items limit g.channel (chain s g.channel (Ok g ∷ []))) else []

  pub good-items : (chosen : ℕ → Bool) (s : State) (g : GoodFrame)
      → items_of_readings limit chosen s (Ok g ∷ []) ≡ gap_at master_gap_item s.master (master_member s.records g) ++ own_items chosen s g
  good-items chosen s g =
      append-nil (record_items limit chosen s (Ok g ∷ []) s.records (Ok g)) ∙ ap (λ (xs : List Item). xs ++ own_items chosen s g) (masters-now s g [])

  module _ (chosen : ℕ → Bool) (s : State) (r : FrameReading) (valid : HasOpenTails chosen s) (fit : IsFit r) where
    merged-later : (rs : List FrameReading) (n : ℕ) (qs : List FrameReading) → s.records < n → AllReadingsFit qs
        → merged limit chosen s (r ∷ rs) n qs ≡ merged limit chosen (state_after_readings limit chosen s (r ∷ [])) rs n qs
    merged-later rs n [] h fits = refl
    merged-later rs n (q ∷ qs) h fits = append_same (one q fits.0) (merged-later rs (n + 1) qs (omega arith) fits.1)
      where
        one : (q : FrameReading) → IsFit q → record_items limit chosen s (r ∷ rs) n q ≡ record_items limit chosen (state_after_readings limit chosen s (r ∷ [])) rs n q
        one (Err fault) k = refl
        one (Ok g) k =
            append_same (masters-later s (state_after_readings limit chosen s (r ∷ [])) r (master-moved s r) (omega arith) rs n (λ z. omega arith))
            (⊎_elim
            (λ e. rw e (items-later chosen s r valid fit g.channel k.0 e rs n (λ z. omega arith)))
            (λ e. rw e)
            (cases_Bool (chosen g.channel)))

    -- the items of a record and more records: those of the record, and then those of the others
    pub items-cons : (rs : List FrameReading) → AllReadingsFit rs
        → items_of_readings limit chosen s (r ∷ rs) ≡ items_of_readings limit chosen s (r ∷ []) ++ items_of_readings limit chosen (state_after_readings limit chosen s (r ∷ [])) rs
    items-cons rs fits =
        rw (
          record_items-now chosen s r valid fit rs fits,
          merged-later rs (s.records + 1) rs (omega arith) fits,
          append-nil (record_items limit chosen s (r ∷ []) s.records r),
        )

    pub valid-after : HasOpenTails chosen (state_after_readings limit chosen s (r ∷ []))
    valid-after = record { tails_open = λ c small is_chosen. tail-later chosen s r valid fit c small is_chosen }

    pub after-cons : (rs : List FrameReading) → state_after_readings limit chosen s (r ∷ rs) ≡ state_after_readings limit chosen (state_after_readings limit chosen s (r ∷ [])) rs
    after-cons rs =
        state_same (omega arith) (master-later s (state_after_readings limit chosen s (r ∷ [])) r (master-moved s r) (omega arith) rs)
        (map_eight (channel_after limit chosen s (r ∷ rs)) (channel_after limit chosen (state_after_readings limit chosen s (r ∷ [])) rs)
        (λ c small. ⊎_elim (λ e. channel-later chosen s r valid fit c small e rs) (λ e. rw e) (cases_Bool (chosen c))))

  -- joining, over any two lists of records
  pub items-append : (chosen : ℕ → Bool) (s : State) (rs qs : List FrameReading) → HasOpenTails chosen s → state_after_readings limit chosen s [] ≡ s → AllReadingsFit rs → AllReadingsFit qs
      → items_of_readings limit chosen s (rs ++ qs) ≡ items_of_readings limit chosen s rs ++ items_of_readings limit chosen (state_after_readings limit chosen s rs) qs
  items-append chosen s [] qs valid still fits more = ap (λ (z : State). items_of_readings limit chosen z qs) (sym still)
  items-append chosen s (r ∷ rs) qs valid still fits more =
      let next : HasOpenTails chosen (state_after_readings limit chosen s (r ∷ [])) = valid-after chosen s r valid fits.0 in
      items-cons chosen s r valid fits.0 (rs ++ qs) (Each-append IsFit rs qs fits.1 more)
      ∙ ap (λ (xs : List Item). items_of_readings limit chosen s (r ∷ []) ++ xs)
      (items-append chosen (state_after_readings limit chosen s (r ∷ [])) rs qs next (sym (after-cons chosen s r valid fits.0 [])) fits.1 more)
      ∙ regroup (items_of_readings limit chosen s (r ∷ [])) (items_of_readings limit chosen (state_after_readings limit chosen s (r ∷ [])) rs) _ _ _
      (sym (items-cons chosen s r valid fits.0 rs fits.1))
      (ap (λ (z : State). items_of_readings limit chosen z qs) (sym (after-cons chosen s r valid fits.0 rs)))
    where
      regroup : (a b c d e : List Item) → a ++ b ≡ d → c ≡ e → a ++ (b ++ c) ≡ d ++ e
      regroup a b c d e f g = sym (append_assoc a b c) ∙ rw (f, g)

  pub after-append : (chosen : ℕ → Bool) (s : State) (rs qs : List FrameReading) → HasOpenTails chosen s → state_after_readings limit chosen s [] ≡ s → AllReadingsFit rs
      → state_after_readings limit chosen s (rs ++ qs) ≡ state_after_readings limit chosen (state_after_readings limit chosen s rs) qs
  after-append chosen s [] qs valid still fits = ap (λ (z : State). state_after_readings limit chosen z qs) (sym still)
  after-append chosen s (r ∷ rs) qs valid still fits =
      after-cons chosen s r valid fits.0 (rs ++ qs)
      ∙ after-append chosen (state_after_readings limit chosen s (r ∷ [])) rs qs (valid-after chosen s r valid fits.0) (sym (after-cons chosen s r valid fits.0 [])) fits.1
      ∙ ap (λ (z : State). state_after_readings limit chosen z qs) (sym (after-cons chosen s r valid fits.0 rs))
