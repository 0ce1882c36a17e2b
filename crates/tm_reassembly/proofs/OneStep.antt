-- One record: its items, and the state after it, said without looking ahead.
use Rattle.std.proofs.lemmas.Option.{none-some, slice_get-get_or}
use Rattle.std.proofs.Common.{◌≡◌, Ok, Err, ◌≢◌, ℕ, suc, zero, ◌+◌, ◌<◌, Bool, true, false, Option, Some, None, List, [], ◌∷◌, ◌++◌, map, length, set, refl, sym, ap, ◌∙◌, ⊎_elim, arith, eqb}
use Rattle.std.specs.List.{slice_get}
use Rattle.std.proofs.lemmas.List.{append-nil, length-set}
use Rattle.std.proofs.lemmas.Bool.{cases_Bool, cases_eq, eq-eqb, ne_eqb, cond-true, cond-false, both_ways}
use Rattle.tm_reassembly.specs.State.{State, Last, Tail}
use Rattle.tm_frame.specs.Frame.{GoodFrame, is_vca_kind}
use Rattle.tm_frame.specs.declared.fault.FrameFault.{FrameFault}
use Rattle.tm_reassembly.specs.Readings.{FrameReading}
use Rattle.tm_items.specs.Item as item
use Rattle.tm_reassembly.specs.Chain.{ChainMember, has_frame_gap, member, member_of, master_member, master_stem}
use Rattle.tm_reassembly.specs.code.Field.{chain_tail_at}
use Rattle.tm_frame.specs.Channels.{eight}
use Rattle.tm_reassembly.specs.Items.{seen_at, channel_after, state_after_readings, master_gap_item, gap_at, last_frame_count, items_of_readings, last_with}
use Rattle.tm_reassembly.specs.Valid.{HasShape}
use Rattle.tm_reassembly.proofs.Chained.{IsOpenTail}
use Rattle.tm_reassembly.proofs.Masters.{master_after, master-moved}
use Rattle.tm_reassembly.proofs.Joining.{before_of, tail_of, member_items, items_after, channel_items-is, items-here}
use Rattle.tm_reassembly.proofs.Records.{HasOpenTails, IsFit, at_eight, state_same, good-items, before-same, tail-same, before-moved, tail-moved, channel_after-is, tail_after-end}

-- two lists with the same at each place
ext_get : {A : Type 0} (xs ys : List A) → length xs ≡ length ys → ((c : ℕ) → c < length xs → slice_get xs c ≡ slice_get ys c) → xs ≡ ys
ext_get [] [] e h = refl
ext_get [] (y ∷ ys) e h = absurd (omega arith)
ext_get (x ∷ xs) [] e h = absurd (omega arith)
ext_get (x ∷ xs) (y ∷ ys) e h =
    let first : Some x ≡ Some y = h 0 (omega arith) in
    let rest : xs ≡ ys = ext_get xs ys (omega arith) (λ c k. h (suc c) (omega arith)) in
    cc

-- what was kept of a channel is what is made of it again
last_again : (x : Option (Option Last)) → x ≢ None → Some (last_with (tail_of x) (before_of x)) ≡ x
last_again None h = absurd (h refl)
last_again (Some None) h = refl
last_again (Some (Some last)) h = refl

there_is : (xs : List (Option Last)) (c : ℕ) → c < length xs → slice_get xs c ≢ None
there_is xs c h e = none-some _ (sym e ∙ slice_get-get_or xs c None h)

pub get_set-same : {A : Type 0} (xs : List A) (c : ℕ) (y : A) → c < length xs → slice_get (set xs c y) c ≡ Some y
get_set-same [] c y h = absurd (omega arith)
get_set-same (x ∷ xs) zero y h = refl
get_set-same (x ∷ xs) (suc c) y h = get_set-same xs c y (omega arith)

pub get_set-other : {A : Type 0} (xs : List A) (c d : ℕ) (y : A) → d ≢ c → slice_get (set xs c y) d ≡ slice_get xs d
get_set-other [] c d y h = refl
get_set-other (x ∷ xs) zero zero y h = absurd (h refl)
get_set-other (x ∷ xs) (suc c) (suc d) y h = get_set-other xs c d y (λ e. h (ap suc e))
get_set-other (x ∷ xs) c d y h = refl

from_view : (y : Option (Option Last)) (n : ℕ) (t : Option Tail) → before_of y ≡ Some n → tail_of y ≡ t
    → y ≡ Some (Some (record { count = n; tail = t }))
from_view y n t e f = sym (last_again y (λ z. none-some n (sym (ap before_of z) ∙ e))) ∙ rw (e, f) refl

same_view : (y x : Option (Option Last)) → y ≢ None → x ≢ None → before_of y ≡ before_of x → tail_of y ≡ tail_of x → y ≡ x
same_view y x h k e f = sym (last_again y h) ∙ rw (e, f) (last_again x k)

module _ (limit : ℕ) where
  -- a state that may be has open tails
  pub open-at : (chosen : ℕ → Bool) (s : State) → HasShape limit chosen s → (c : ℕ) → IsOpenTail limit (tail_of (slice_get s.channels c))
  open-at chosen s v c = by_entry (slice_get s.channels c) refl
    where
      by_tail : (last : Last) → slice_get s.channels c ≡ Some (Some last) → (t : Option Tail) → last.tail ≡ t → IsOpenTail limit t
      by_tail last e None f = tt
      by_tail last e (Some t) f = v.tails c last t e f

      by_entry : (x : Option (Option Last)) → slice_get s.channels c ≡ x → IsOpenTail limit (tail_of x)
      by_entry None e = tt
      by_entry (Some None) e = tt
      by_entry (Some (Some last)) e = by_tail last e last.tail refl

  pub valid-from : (chosen : ℕ → Bool) (s : State) → HasShape limit chosen s → HasOpenTails limit chosen s
  valid-from chosen s v = record { tails_open = λ c small is_chosen. open-at chosen s v c }

  -- no records leave a state as it is
  pub after-nil : (chosen : ℕ → Bool) (s : State) → HasShape limit chosen s → state_after_readings limit chosen s [] ≡ s
  after-nil chosen s v =
      let valid = valid-from chosen s v in
      let channels : map (channel_after limit chosen s []) eight ≡ s.channels =
      ext_get (map (channel_after limit chosen s []) eight) s.channels (sym v.eight_channels)
      (λ c small.
      at_eight (channel_after limit chosen s []) c small
      ∙ ⊎_elim
      (λ e.
      rw (channel_after-is limit chosen s [] c e, tail_after-end limit (before_of (slice_get s.channels c)) (tail_of (slice_get s.channels c)) (valid.tails_open c small e))
      (last_again (slice_get s.channels c) (there_is s.channels c (rw v.eight_channels small))))
      (λ e. rw e (sym (v.only_chosen c e small)))
      (cases_Bool (chosen c))) in
      state_same (omega arith) (master-nil s.master) channels
    where
      master-nil : (before : Option ℕ) → last_frame_count None (master_stem before ++ []) ≡ before
      master-nil None = refl
      master-nil (Some count) = refl

  -- the items of one good frame of a chosen channel
  pub items-one-valid : (chosen : ℕ → Bool) (s : State) (g : GoodFrame) → HasOpenTails limit chosen s → IsFit (Ok g) → chosen g.channel ≡ true
      → items_of_readings limit chosen s (Ok g ∷ [])
      ≡ gap_at master_gap_item s.master (master_member s.records g)
      ++ member_items limit g.channel (before_of (slice_get s.channels g.channel)) (tail_of (slice_get s.channels g.channel)) (member s.records g)
  items-one-valid chosen s g valid fit is_chosen =
      let m : ChainMember = member s.records g in
      let x : Option (Option Last) = slice_get s.channels g.channel in
      let one : member_of g.channel s.records (Ok g) ≡ member s.records g ∷ [] =
      cond-true (eqb g.channel g.channel) (member s.records g ∷ []) [] (eq-eqb g.channel g.channel refl) in
      good-items limit chosen s g
      ∙ ap (λ (xs : List item.Item). gap_at master_gap_item s.master (master_member s.records g) ++ xs)
      (cond-true (chosen g.channel) _ _ is_chosen
      ∙ ap (seen_at s.records) (channel_items-is limit g.channel x (member_of g.channel s.records (Ok g) ++ []))
      ∙ ap (λ (ms : List ChainMember). seen_at s.records (items_after limit g.channel (before_of x) (tail_of x) (ms ++ []))) one
      ∙ items-here limit g.channel (before_of x) (tail_of x) m [] (valid.tails_open g.channel fit.0 is_chosen) fit.1 tt)

  -- a channel stays as it is where a record has no frame for it, and so does one that isn't chosen
  channel-same : (chosen : ℕ → Bool) (s : State) (r : FrameReading) → HasShape limit chosen s → IsFit r → (c : ℕ) → c < 8 → (chosen c ≡ true → member_of c s.records r ≡ [])
      → slice_get (map (channel_after limit chosen s (r ∷ [])) eight) c ≡ slice_get s.channels c
  channel-same chosen s r v fit c small none =
      let valid = valid-from chosen s v in
      let there : slice_get (map (channel_after limit chosen s (r ∷ [])) eight) c ≡ Some (channel_after limit chosen s (r ∷ []) c) =
      at_eight (channel_after limit chosen s (r ∷ [])) c small in
      ⊎_elim
      (λ e.
      same_view (slice_get (map (channel_after limit chosen s (r ∷ [])) eight) c) (slice_get s.channels c)
      (λ z. none-some _ (sym z ∙ there)) (there_is s.channels c (rw v.eight_channels small))
      (before-same limit chosen s r valid fit c small e (none e)) (tail-same limit chosen s r valid fit c small e (none e)))
      (λ e. there ∙ rw e (sym (v.only_chosen c e small)))
      (cases_Bool (chosen c))

  -- the state after it: the channel's count and tail, and all else as before
  abbrev pub last_moved : State → GoodFrame → Last
  last_moved s g = record {
    count = g.count;
    tail = chain_tail_at limit (has_frame_gap (before_of (slice_get s.channels g.channel)) (member s.records g)) (is_vca_kind g.kind)
        (tail_of (slice_get s.channels g.channel)) (member s.records g);
  }

  pub after-one : (chosen : ℕ → Bool) (s : State) (g : GoodFrame) → HasShape limit chosen s → IsFit (Ok g) → chosen g.channel ≡ true
      → state_after_readings limit chosen s (Ok g ∷ [])
      ≡ record { records = s.records + 1; master = Some g.master_count; channels = set s.channels g.channel (Some (last_moved s g)) }
  after-one chosen s g v fit is_chosen =
      state_same (omega arith) (master-moved s (Ok g))
      (ext_get (map (channel_after limit chosen s (Ok g ∷ [])) eight) (set s.channels g.channel (Some (last_moved s g)))
      (sym v.eight_channels ∙ sym (length-set s.channels g.channel (Some (last_moved s g))))
      (λ c small. ⊎_elim (at_it c small) (other c small) (cases_eq c g.channel)))
    where
      valid : HasOpenTails limit chosen s
      valid = valid-from chosen s v

      at_it : (c : ℕ) → c < 8 → c ≡ g.channel
          → slice_get (map (channel_after limit chosen s (Ok g ∷ [])) eight) c ≡ slice_get (set s.channels g.channel (Some (last_moved s g))) c
      at_it c small e =
          rw e (let one : member_of g.channel s.records (Ok g) ≡ member s.records g ∷ [] =
          cond-true (eqb g.channel g.channel) (member s.records g ∷ []) [] (eq-eqb g.channel g.channel refl) in
          from_view (slice_get (map (channel_after limit chosen s (Ok g ∷ [])) eight) g.channel) g.count (last_moved s g).tail
          (before-moved limit chosen s (Ok g) valid fit g.channel fit.0 is_chosen (member s.records g) one fit.1)
          (tail-moved limit chosen s (Ok g) valid fit g.channel fit.0 is_chosen (member s.records g) one fit.1)
          ∙ sym (get_set-same s.channels g.channel (Some (last_moved s g)) (rw v.eight_channels fit.0)))

      other : (c : ℕ) → c < 8 → (c ≡ g.channel → ⊥)
          → slice_get (map (channel_after limit chosen s (Ok g ∷ [])) eight) c ≡ slice_get (set s.channels g.channel (Some (last_moved s g))) c
      other c small ne =
          channel-same chosen s (Ok g) v fit c small (λ e. cond-false (eqb g.channel c) _ _ (ne_eqb g.channel c (λ z. ne (sym z))))
          ∙ sym (get_set-other s.channels g.channel c (Some (last_moved s g)) ne)

  -- a record that has no frame of a chosen channel leaves all channels as they are
  channels-same : (chosen : ℕ → Bool) (s : State) (r : FrameReading) → HasShape limit chosen s → IsFit r
      → ((c : ℕ) → c < 8 → chosen c ≡ true → member_of c s.records r ≡ [])
      → state_after_readings limit chosen s (r ∷ []) ≡ record { records = s.records + 1; master = master_after s.master r; channels = s.channels }
  channels-same chosen s r v fit none =
      state_same (omega arith) (master-moved s r)
      (ext_get (map (channel_after limit chosen s (r ∷ [])) eight) s.channels (sym v.eight_channels) (λ c small. channel-same chosen s r v fit c small (none c small)))

  -- a bad record
  pub after-bad : (chosen : ℕ → Bool) (s : State) (fault : FrameFault) → HasShape limit chosen s
      → state_after_readings limit chosen s (Err fault ∷ []) ≡ record { records = s.records + 1; master = s.master; channels = s.channels }
  after-bad chosen s fault v = channels-same chosen s (Err fault) v tt (λ c small e. refl)

  -- a good frame of a channel that isn't chosen
  pub items-other : (chosen : ℕ → Bool) (s : State) (g : GoodFrame) → chosen g.channel ≡ false → items_of_readings limit chosen s (Ok g ∷ []) ≡ gap_at master_gap_item s.master (master_member s.records g)
  items-other chosen s g e =
      good-items limit chosen s g ∙ rw e (append-nil (gap_at master_gap_item s.master (master_member s.records g)))

  pub after-other : (chosen : ℕ → Bool) (s : State) (g : GoodFrame) → HasShape limit chosen s → IsFit (Ok g) → chosen g.channel ≡ false
      → state_after_readings limit chosen s (Ok g ∷ []) ≡ record { records = s.records + 1; master = Some g.master_count; channels = s.channels }
  after-other chosen s g v fit not_chosen =
      channels-same chosen s (Ok g) v fit
      (λ c small e.
      cond-false (eqb g.channel c) (member s.records g ∷ []) []
      (ne_eqb g.channel c (λ z. both_ways (chosen c) (ap chosen (sym z) ∙ not_chosen) e)))
