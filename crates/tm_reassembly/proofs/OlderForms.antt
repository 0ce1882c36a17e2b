-- The older form of a spelling, and what is lost with the last master channel count.
use Rattle.std.proofs.Common.{◌≡◌, ◌⊎◌, Ok, Err, Result, ℕ, ◌+◌, ◌<◌, ◌≤◌, Bool, false, None, List, [], ◌∷◌, ◌++◌, length, refl, sym, ap, subst, ◌∙◌, inl, inr, ⊎_elim, arith, append_assoc}
use Rattle.std.proofs.lemmas.Bool.{cases_Bool, eq-eqb, le-ltb}
use Rattle.std.specs.Prelude.{◌||◌, not}
use Rattle.tm_frame.specs.Frame.{GoodFrame}
use Rattle.tm_reassembly.specs.declared.fault.StateFault.{StateFault}
use Rattle.tm_reassembly.specs.Readings.{FrameReading}
use Rattle.tm_reassembly.specs.State.{State}
use Rattle.tm_reassembly.specs.Chain.{master_frames, master_member}
use Rattle.tm_reassembly.specs.Checkpoint.{ReadBlocks, four_at, master_read, with_channels, state_decoding_of, old_decoding_of}
use Rattle.tm_items.specs.Among.{is_master_gap}
use Rattle.tm_items.specs.Item.{Item, Bad, seen_of}
use Rattle.tm_reassembly.specs.Items.{master_gap_item, gap_at, items_of_readings, merged, record_items, seen_at, state_after_readings}
use Rattle.tm_reassembly.specs.OlderForms.{without_master, first_good_record, is_gap_at, without_gaps_at, LacksFirstGap, one_octet_more}
use Rattle.tm_reassembly.specs.Recording as raw
use Rattle.tm_frame.specs.Rules.{Rules, chooses}
use Rattle.tm_reassembly.specs.Valid.{HasShape, IsValidState}
use Rattle.tm_reassembly.specs.code.Fits.{IsFit, AllReadingsFit}
use Rattle.tm_bits.proofs.Each.{Each-append, Each-weaken, filter-none}
use Rattle.tm_reassembly.proofs.WithoutGaps.{without-append, without-none, few, no-gap, not-there, one-at}
use Rattle.tm_reassembly.proofs.Fits.{readings-fit, readings-append}
use Rattle.tm_reassembly.proofs.Joining.{gap-each}
use Rattle.tm_reassembly.proofs.Masters.{masters-is}
use Rattle.tm_reassembly.proofs.Merged.{masters-told, own-none, record-exact}
use Rattle.tm_reassembly.proofs.Seen.{AllSeen}
use Rattle.tm_reassembly.proofs.OneStep.{valid-from, after-nil, after-one, after-bad, after-other}
use Rattle.tm_reassembly.proofs.Records.{good-items, items-cons, after-cons, own_items}

-- ---- reading

one-more : (records : ℕ) (x : Result ReadBlocks StateFault) → with_channels records None 5 x ≡ one_octet_more (with_channels records None 4 x)
one-more records (Ok all) =
    let more : 5 + all.octets ≡ (4 + all.octets) + 1 = omega arith in
    ap (λ (n : ℕ). Ok (record { state = record { records = records; master = None; channels = all.channels }; octets = n })) more
one-more records (Err found) = refl

-- with a 0 put in after the number of records, the newer form reads what the older one reads without
pub one-form : (rules : Rules) (a b : List ℕ) → length a ≡ 4 → state_decoding_of rules (a ++ 0 ∷ b) ≡ one_octet_more (old_decoding_of rules (a ++ b))
unfolding state_decoding_of old_decoding_of master_read
one-form rules (w ∷ x ∷ y ∷ z ∷ []) b h =
    rw (le-ltb (length (w ∷ x ∷ y ∷ z ∷ 0 ∷ b)) 4 (omega arith), le-ltb (length (w ∷ x ∷ y ∷ z ∷ b)) 4 (omega arith)) (one-more (four_at (w ∷ x ∷ y ∷ z ∷ b) 0) _)
one-form rules a b h = absurd (omega arith)

-- ---- items

shape-of : (limit : ℕ) (chosen : ℕ → Bool) (s t : State) → t.channels ≡ s.channels → HasShape limit chosen s → HasShape limit chosen t
shape-of limit chosen s t e v = record {
  eight_channels = rw e v.eight_channels;
  only_chosen = λ c n small. rw e (v.only_chosen c n small);
  tails = λ c last tail f g. v.tails c last tail (rw (← e) f) g;
}

module _ (limit : ℕ) (chosen : ℕ → Bool) where
  -- the items of records that are numbered from k on are seen there
  within : (s : State) (all : List FrameReading) (k : ℕ) (rs : List FrameReading) → AllSeen (λ n. (k ≤ n) × (n < k + length rs)) (merged limit chosen s all k rs)
  within s all k [] = tt
  within s all k (r ∷ rs) =
      Each-append (λ x. (k ≤ seen_of x) × (seen_of x < k + length (r ∷ rs))) (record_items limit chosen s all k r) (merged limit chosen s all (k + 1) rs)
      (Each-weaken (λ x. seen_of x ≡ k) (λ x. (k ≤ seen_of x) × (seen_of x < k + length (r ∷ rs))) _ (λ x e. (omega arith, omega arith)) (record-exact limit chosen s all k r))
      (Each-weaken (λ x. (k + 1 ≤ seen_of x) × (seen_of x < (k + 1) + length rs)) (λ x. (k ≤ seen_of x) × (seen_of x < k + length (r ∷ rs))) _
      (λ x e. let a = e.0 in let b = e.1 in (omega arith, omega arith)) (within s all (k + 1) rs))

  -- the states after records: the same, or different in the master channel count alone, no good frame having come
  abbrev StatesMeet : State → State → List Item → List Item → Type 0
  StatesMeet a b all fewer = (b ≡ a) ⊎ ((b ≡ without_master a) × (fewer ≡ all))

  record Meet (s : State) (rs : List FrameReading) : Type 0 where
    the_items : LacksFirstGap s rs (items_of_readings limit chosen s rs) (items_of_readings limit chosen (without_master s) rs)
    the_states : StatesMeet (state_after_readings limit chosen s rs) (state_after_readings limit chosen (without_master s) rs) (items_of_readings limit chosen s rs) (items_of_readings limit chosen (without_master s) rs)
    without_first : (later : List FrameReading) → items_of_readings limit chosen (without_master s) rs ≡ without_gaps_at (first_good_record s.records (rs ++ later)) (items_of_readings limit chosen s rs)

  -- the gap is left out
  gap-left : (s : State) (g : GoodFrame) → without_gaps_at (s.records ∷ []) (gap_at master_gap_item s.master (master_member s.records g)) ≡ []
  gap-left s g =
      filter-none (λ x. not (is_gap_at (s.records ∷ []) x)) _
      (gap-each (λ x. not (is_gap_at (s.records ∷ []) x) ≡ false) master_gap_item s.master (master_member s.records g)
      (λ expected. ap (λ (b : Bool). not (b || false)) (eq-eqb s.records s.records refl)))

  -- and the same state
  good-state : (s : State) (g : GoodFrame) → HasShape limit chosen s → IsFit (Ok g)
      → state_after_readings limit chosen (without_master s) (Ok g ∷ []) ≡ state_after_readings limit chosen s (Ok g ∷ [])
  good-state s g v fit =
      let w : HasShape limit chosen (without_master s) = shape-of limit chosen s (without_master s) refl v in
      ⊎_elim
      (λ e. after-one limit chosen (without_master s) g w fit e ∙ sym (after-one limit chosen s g v fit e))
      (λ e. after-other limit chosen (without_master s) g w fit e ∙ sym (after-other limit chosen s g v fit e))
      (cases_Bool (chosen g.channel))

  meet : (s : State) (rs : List FrameReading) → HasShape limit chosen s → AllReadingsFit rs → Meet s rs
  meet s [] v fits =
      let w : HasShape limit chosen (without_master s) = shape-of limit chosen s (without_master s) refl v in
      record {
        the_items = record { back = []; all_is = refl; fewer_is = refl };
        the_states = inr (after-nil limit chosen (without_master s) w ∙ ap without_master (sym (after-nil limit chosen s v)), refl);
        without_first = λ later. refl;
      }
  meet s (Err fault ∷ rs) v fits =
      let next : State = record { records = s.records + 1; master = s.master; channels = s.channels } in
      let w : HasShape limit chosen (without_master s) = shape-of limit chosen s (without_master s) refl v in
      let rest : Meet (record { records = s.records + 1; master = s.master; channels = s.channels }) rs =
      meet (record { records = s.records + 1; master = s.master; channels = s.channels }) rs (shape-of limit chosen s _ refl v) fits.1 in
      let a : items_of_readings limit chosen s (Err fault ∷ rs) ≡ Bad s.records fault ∷ items_of_readings limit chosen next rs =
      items-cons limit chosen s (Err fault) (valid-from limit chosen s v) tt rs fits.1
      ∙ ap (λ (z : State). Bad s.records fault ∷ items_of_readings limit chosen z rs) (after-bad limit chosen s fault v) in
      let b : items_of_readings limit chosen (without_master s) (Err fault ∷ rs) ≡ Bad s.records fault ∷ items_of_readings limit chosen (without_master next) rs =
      items-cons limit chosen (without_master s) (Err fault) (valid-from limit chosen (without_master s) w) tt rs fits.1
      ∙ ap (λ (z : State). Bad s.records fault ∷ items_of_readings limit chosen z rs) (after-bad limit chosen (without_master s) fault w) in
      let x : state_after_readings limit chosen s (Err fault ∷ rs) ≡ state_after_readings limit chosen next rs =
      after-cons limit chosen s (Err fault) (valid-from limit chosen s v) tt rs ∙ ap (λ (z : State). state_after_readings limit chosen z rs) (after-bad limit chosen s fault v) in
      let y : state_after_readings limit chosen (without_master s) (Err fault ∷ rs) ≡ state_after_readings limit chosen (without_master next) rs =
      after-cons limit chosen (without_master s) (Err fault) (valid-from limit chosen (without_master s) w) tt rs
      ∙ ap (λ (z : State). state_after_readings limit chosen z rs) (after-bad limit chosen (without_master s) fault w) in
      let more = λ (xs : List Item). Bad s.records fault ∷ xs in
      record {
        the_items = record { back = rest.the_items.back; all_is = a ∙ ap more rest.the_items.all_is; fewer_is = b ∙ ap more rest.the_items.fewer_is };
        the_states =
            ⊎_elim (λ e. inl (y ∙ e ∙ sym x))
            (λ h. inr (y ∙ h.0 ∙ ap without_master (sym x), b ∙ ap more h.1 ∙ sym a)) rest.the_states;
        without_first = λ later. b ∙ ap more (rest.without_first later) ∙ sym (ap (without_gaps_at (first_good_record (s.records + 1) (rs ++ later))) a);
      }
  meet s (Ok g ∷ rs) v fits =
      let w : HasShape limit chosen (without_master s) = shape-of limit chosen s (without_master s) refl v in
      let same = good-state s g v fits.0 in
      let left : State = state_after_readings limit chosen s (Ok g ∷ []) in
      let behind : List Item = items_of_readings limit chosen left rs in
      let gap : List Item = gap_at master_gap_item s.master (master_member s.records g) in
      let a : items_of_readings limit chosen s (Ok g ∷ rs) ≡ gap ++ (own_items limit chosen s g ++ behind) =
      items-cons limit chosen s (Ok g) (valid-from limit chosen s v) fits.0 rs fits.1
      ∙ ap (λ (xs : List Item). xs ++ behind) (good-items limit chosen s g) ∙ append_assoc gap (own_items limit chosen s g) behind in
      let b : items_of_readings limit chosen (without_master s) (Ok g ∷ rs) ≡ own_items limit chosen s g ++ behind =
      items-cons limit chosen (without_master s) (Ok g) (valid-from limit chosen (without_master s) w) fits.0 rs fits.1
      ∙ ap (λ (z : State). items_of_readings limit chosen (without_master s) (Ok g ∷ []) ++ items_of_readings limit chosen z rs) same
      ∙ ap (λ (xs : List Item). xs ++ behind) (good-items limit chosen (without_master s) g) in
      let here : List ℕ = s.records ∷ [] in
      let untouched : without_gaps_at here (gap ++ (own_items limit chosen s g ++ behind)) ≡ own_items limit chosen s g ++ behind =
      without-append here gap (own_items limit chosen s g ++ behind)
      ∙ ap (λ (xs : List Item). xs ++ without_gaps_at here (own_items limit chosen s g ++ behind)) (gap-left s g)
      ∙ without-none here (own_items limit chosen s g ++ behind)
      (Each-append (λ x. is_gap_at here x ≡ false) (own_items limit chosen s g) behind
      (Each-weaken (λ x. is_master_gap x ≡ false) (λ x. is_gap_at here x ≡ false) (own_items limit chosen s g) (no-gap here) (own-none limit chosen s g))
      (Each-weaken (λ x. (s.records + 1 ≤ seen_of x) × (seen_of x < (s.records + 1) + length rs)) (λ x. is_gap_at here x ≡ false) behind
      (λ x h. not-there s.records x (λ e. let low = h.0 in omega arith)) (within left rs (s.records + 1) rs))) in
      record {
        the_items = record { back = own_items limit chosen s g ++ behind; all_is = a; fewer_is = b };
        the_states =
            inl
            (after-cons limit chosen (without_master s) (Ok g) (valid-from limit chosen (without_master s) w) fits.0 rs
            ∙ ap (λ (z : State). state_after_readings limit chosen z rs) same
            ∙ sym (after-cons limit chosen s (Ok g) (valid-from limit chosen s v) fits.0 rs));
        without_first = λ later. b ∙ sym untouched ∙ ap (without_gaps_at here) (sym a);
      }

-- the same of raw records
pub items-lack : (rules : Rules) (s : State) (records : List (List ℕ)) → IsValidState rules s
    → LacksFirstGap s (raw.readings rules.layout records) (raw.items rules s records) (raw.items rules (without_master s) records)
unfolding raw.items
items-lack rules s records v = (meet rules.max_packet (chooses rules) s (raw.readings rules.layout records) v.shape (readings-fit rules.layout records)).the_items

pub without-first : (rules : Rules) (s : State) (records later : List (List ℕ)) → IsValidState rules s
    → raw.items rules (without_master s) records ≡ without_gaps_at (first_good_record s.records (raw.readings rules.layout (records ++ later))) (raw.items rules s records)
unfolding raw.items
without-first rules s records later v =
    (meet rules.max_packet (chooses rules) s (raw.readings rules.layout records) v.shape (readings-fit rules.layout records)).without_first (raw.readings rules.layout later)
    ∙ ap (λ (rs : List FrameReading). without_gaps_at (first_good_record s.records rs) (raw.items rules s records)) (sym (readings-append rules.layout records later))

-- the items of records are seen at them
pub items-within : (rules : Rules) (s : State) (records : List (List ℕ))
    → AllSeen (λ n. (s.records ≤ n) × (n < s.records + length (raw.readings rules.layout records))) (raw.items rules s records)
unfolding raw.items
items-within rules s records =
    within rules.max_packet (chooses rules) s (raw.readings rules.layout records) s.records (raw.readings rules.layout records)

pub states-meet : (rules : Rules) (s : State) (records : List (List ℕ)) → IsValidState rules s
    → (raw.after rules (without_master s) records ≡ raw.after rules s records)
    ⊎ ((raw.after rules (without_master s) records ≡ without_master (raw.after rules s records)) × (raw.items rules (without_master s) records ≡ raw.items rules s records))
unfolding raw.items raw.after
states-meet rules s records v = (meet rules.max_packet (chooses rules) s (raw.readings rules.layout records) v.shape (readings-fit rules.layout records)).the_states

-- at each record there is one gap of the master channel at most, so for each number one is left out at most
pub few-left-out : (rules : Rules) (s : State) (records : List (List ℕ)) (numbers : List ℕ) → IsValidState rules s
    → length (raw.items rules s records) ≤ length (without_gaps_at numbers (raw.items rules s records)) + length numbers
few-left-out rules s records numbers v =
    few numbers (raw.items rules s records)
    (λ n.
    subst (λ (xs : List Item). length (seen_at n xs) ≤ 1)
    (sym (masters-told rules s records v ∙ masters-is s.master (master_frames s.records (raw.readings rules.layout records))))
    (one-at n s.records s.master (raw.readings rules.layout records)))
