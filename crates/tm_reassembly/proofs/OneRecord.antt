-- One raw record: its items, and the state after it, by what is kept of its channel.
use Rattle.tm_reassembly.proofs.Records.{state_same}
use Rattle.std.proofs.lemmas.Option.{slice_get-get_or, same_Some}
use Rattle.std.proofs.Common.{◌≡◌, ℕ, ◌+◌, ◌<◌, ◌≤◌, Ok, Err, true, false, Option, Some, None, List, [], ◌∷◌, ◌++◌, length, set, refl, sym, ap, subst, ◌∙◌, inl, ⊎_elim, arith, Bool, append_assoc}
use Rattle.std.specs.Prelude.{slice_index_or, slice_set}
use Rattle.std.specs.List.{slice_get}
use Rattle.std.proofs.lemmas.Bool.{cases_Bool}
use Rattle.std.proofs.lemmas.List.{append-nil}
use Rattle.tm_frame.specs.Rules.{Rules, chooses}
use Rattle.tm_reassembly.specs.Items.{master_gap_item, gap_at}
use Rattle.tm_frame.specs.declared.fault.FrameFault.{FrameFault}
use Rattle.tm_frame.specs.Fault.{frame_reading_of}
use Rattle.tm_frame.specs.Frame.{GoodFrame}
use Rattle.tm_reassembly.specs.State.{State, Last, Tail, octets_in}
use Rattle.tm_reassembly.specs.Readings.{FrameReading}
use Rattle.tm_items.specs.Item.{Item, Bad}
use Rattle.tm_reassembly.specs.Chain.{member, has_frame_gap, master_member}
use Rattle.tm_reassembly.specs.code.Field.{chain_tail_at}
use Rattle.tm_reassembly.specs.Items as read
use Rattle.tm_reassembly.specs.code.Slots.{Slot, HaveLimit, lasts, unused, frame_count_in, tail_in, counted, frame_items, last_after, state_in_slots}
use Rattle.tm_reassembly.proofs.Slots.{last_at, lasts_set, lasts_length, limit_at, limit_set}
use Rattle.tm_reassembly.specs.Recording.{items, after}
use Rattle.tm_items.specs.Sinks.{RefusesOne}
use Rattle.tm_reassembly.specs.Valid.{IsValidState}
use Rattle.tm_reassembly.specs.code.Fits.{IsFit, IsOpenTail}
use Rattle.tm_reassembly.proofs.States.{tail-short}
use Rattle.tm_reassembly.proofs.Fits.{reading-fit}
use Rattle.tm_reassembly.proofs.Joining.{before_of, tail_of, member_items}
use Rattle.tm_reassembly.proofs.OneStep.{items-one-valid, valid-from, after-one, after-bad, items-other, after-other, open-at}

-- whether a channel is chosen, by rules that are equal to these
pub chosen_as : {inside rules : Rules} (c : ℕ) {asked answer : Bool} → inside ≡ rules → asked ≡ chooses inside c → asked ≡ answer → chooses rules c ≡ answer
chosen_as c e f g = ap (λ (r : Rules). chooses r c) (sym e) ∙ sym f ∙ g

before_some : (x : Option Last) → before_of (Some x) ≡ frame_count_in x
before_some None = refl
before_some (Some last) = refl

tail_some : (x : Option Last) → tail_of (Some x) ≡ tail_in x
tail_some None = refl
tail_some (Some last) = refl

module _ (rules : Rules) (s : State) (v : IsValidState rules s) where
  -- what is kept of a channel
  there : (c : ℕ) (d : Option Last) → c < 8 → slice_get s.channels c ≡ Some (slice_index_or s.channels c d)
  there c d small = slice_get-get_or s.channels c d (rw v.shape.eight_channels small)

  pub open_entry : (c : ℕ) (d : Option Last) → c < 8 → IsOpenTail rules.max_packet (tail_in (slice_index_or s.channels c d))
  open_entry c d small =
      subst (IsOpenTail rules.max_packet) (ap tail_of (there c d small) ∙ tail_some (slice_index_or s.channels c d)) (open-at rules.max_packet (chooses rules) s v.shape c)

  -- a tail is shorter than the limit, and there is none of a channel that isn't chosen
  pub held_short : (c : ℕ) (d : Option Last) → c < 8 → length (octets_in (tail_in (slice_index_or s.channels c d))) < rules.max_packet
  held_short c d small = short (tail_in (slice_index_or s.channels c d)) (open_entry c d small)
    where
      short : (t : Option Tail) → IsOpenTail rules.max_packet t → length (octets_in t) < rules.max_packet
      short None h = let least = v.limit.least in omega arith
      short (Some t) h = tail-short rules.max_packet t.octets v.limit.least h

  pub held_other : (c : ℕ) (d : Option Last) → c < 8 → chooses rules c ≡ false → octets_in (tail_in (slice_index_or s.channels c d)) ≡ []
  held_other c d small other =
      ap (λ (x : Option Last). octets_in (tail_in x)) (same_Some _ _ (sym (there c d small) ∙ v.shape.only_chosen c other small))

  module _ (octets : List ℕ) where
    as_read : {r : FrameReading} → frame_reading_of rules.layout octets ≡ r → items rules s (octets ∷ []) ≡ read.items_of_readings rules.max_packet (chooses rules) s (r ∷ [])
    unfolding items
    as_read e = ap (λ (r : FrameReading). read.items_of_readings rules.max_packet (chooses rules) s (r ∷ [])) e

    as_left : {r : FrameReading} → frame_reading_of rules.layout octets ≡ r → after rules s (octets ∷ []) ≡ read.state_after_readings rules.max_packet (chooses rules) s (r ∷ [])
    unfolding after
    as_left e = ap (λ (r : FrameReading). read.state_after_readings rules.max_packet (chooses rules) s (r ∷ [])) e

    -- a bad record
    pub items_bad_record : (fault : FrameFault) → frame_reading_of rules.layout octets ≡ Err fault → Bad s.records fault ∷ [] ≡ items rules s (octets ∷ [])
    items_bad_record fault e = sym (as_read e)

    pub refused_bad_record : {S F : Type 0} (takes : S → Item → S → Type 0) (refuses : S → Item → F → S → Type 0) (old new : S) (refusal : F) (fault : FrameFault)
        → frame_reading_of rules.layout octets ≡ Err fault → refuses old (Bad s.records fault) refusal new
        → RefusesOne takes refuses old (items rules s (octets ∷ [])) refusal new
    refused_bad_record takes refuses old new refusal fault e h =
        subst (λ (xs : List Item). RefusesOne takes refuses old xs refusal new) (items_bad_record fault e) (inl h)

    pub after_bad_record : (fault : FrameFault) → frame_reading_of rules.layout octets ≡ Err fault
        → ◌≡◌ {A = State} (record { records = s.records + 1; master = s.master; channels = s.channels }) (after rules s (octets ∷ []))
    after_bad_record fault e = sym (as_left e ∙ after-bad rules.max_packet (chooses rules) s fault v.shape)

    module _ (g : GoodFrame) (e : frame_reading_of rules.layout octets ≡ Ok g) where
      fit : IsFit (Ok g)
      fit = subst IsFit e (reading-fit rules.layout octets)

      -- a good frame of another channel
      pub items_other_record : chooses rules g.channel ≡ false → gap_at master_gap_item s.master (master_member s.records g) ≡ items rules s (octets ∷ [])
      items_other_record not_chosen = sym (as_read e ∙ items-other rules.max_packet (chooses rules) s g not_chosen)

      pub after_other_record : chooses rules g.channel ≡ false
          → ◌≡◌ {A = State} (record { records = s.records + 1; master = Some g.master_count; channels = s.channels }) (after rules s (octets ∷ []))
      after_other_record not_chosen = sym (as_left e ∙ after-other rules.max_packet (chooses rules) s g v.shape fit not_chosen)

      -- a good frame of a chosen one
      pub items_one_record : (c : ℕ) (d : Option Last) → c ≡ g.channel → chooses rules c ≡ true
          → gap_at master_gap_item s.master (master_member s.records g) ++ frame_items rules.max_packet c (slice_index_or s.channels c d) (member s.records g)
          ≡ items rules s (octets ∷ [])
      items_one_record c d same is_chosen =
          sym
          (as_read e
          ∙ items-one-valid rules.max_packet (chooses rules) s g (valid-from rules.max_packet (chooses rules) s v.shape) fit (ap (chooses rules) (sym same) ∙ is_chosen)
          ∙ ap (λ (xs : List Item). gap_at master_gap_item s.master (master_member s.records g) ++ xs)
          (ap (λ (x : Option (Option Last)). member_items rules.max_packet g.channel (before_of x) (tail_of x) (member s.records g)) (there g.channel d fit.0)
          ∙ by_entry (slice_index_or s.channels g.channel d)
          ∙ ap (λ (k : ℕ). frame_items rules.max_packet k (slice_index_or s.channels k d) (member s.records g)) (sym same)))
        where
          by_entry : (x : Option Last) → member_items rules.max_packet g.channel (before_of (Some x)) (tail_of (Some x)) (member s.records g) ≡ frame_items rules.max_packet g.channel x (member s.records g)
          by_entry x = rw (before_some x, tail_some x, append_assoc)

      pub after_one_record : (c : ℕ) (d : Option Last) → c ≡ g.channel → chooses rules c ≡ true
          → ◌≡◌ {A = State} (record { records = s.records + 1; master = Some g.master_count; channels = slice_set s.channels c (last_after rules.max_packet (slice_index_or s.channels c d) (member s.records g)) })
          (after rules s (octets ∷ []))
      after_one_record c d same is_chosen =
          sym
          (as_left e
          ∙ after-one rules.max_packet (chooses rules) s g v.shape fit (ap (chooses rules) (sym same) ∙ is_chosen)
          ∙ state_same refl refl
          (ap (λ (x : Option (Option Last)). set s.channels g.channel (moved x)) (there g.channel d fit.0)
          ∙ ap (λ (x : Option Last). set s.channels g.channel x) (by_entry (slice_index_or s.channels g.channel d))
          ∙ ap (λ (k : ℕ). slice_set s.channels k (last_after rules.max_packet (slice_index_or s.channels k d) (member s.records g))) (sym same)))
        where
          moved : Option (Option Last) → Option Last
          moved x = Some (record { count = g.count; tail = chain_tail_at rules.max_packet (has_frame_gap (before_of x) (member s.records g)) (member s.records g).is_vca (tail_of x) (member s.records g) })

          by_entry : (x : Option Last) → moved (Some x) ≡ last_after rules.max_packet x (member s.records g)
          by_entry x = rw (before_some x, tail_some x) refl

-- the gap of a frame if only its master channel count matters
counted_master : (before : Option ℕ) (seen count : ℕ) (g : GoodFrame) → count ≡ g.master_count
    → gap_at master_gap_item before (counted seen count) ≡ gap_at master_gap_item before (master_member seen g)
counted_master None seen count g e = refl
counted_master (Some before) seen count g e = ap (λ (n : ℕ). gap_at master_gap_item (Some before) (counted seen n)) e

-- what is kept of the channels, in their slots
module _ (rules : Rules) (seen : ℕ) (master : Option ℕ) (slots : List Slot) (v : IsValidState rules (state_in_slots seen master slots)) (limits : HaveLimit rules.max_packet slots) where
  eight_slots : length slots ≡ 8
  eight_slots = sym (lasts_length slots) ∙ v.shape.eight_channels

  pub open_slot : (c : ℕ) (d : Slot) → c < 8 → IsOpenTail (slice_index_or slots c d).limit (tail_in (slice_index_or slots c d).last)
  open_slot c d small =
      let at : c < length slots = omega (arith, eight_slots) in
      rw ((limit_at rules.max_packet slots c d limits at).0, ← last_at slots c d) (open_entry rules (state_in_slots seen master slots) v c d.last small)

  pub limit_slot : (c : ℕ) (d x : Slot) → c < 8 → x.limit ≡ (slice_index_or slots c d).limit → (slice_index_or slots c d).capacity ≤ x.capacity
      → HaveLimit rules.max_packet (slice_set slots c x)
  limit_slot c d x small e f =
      let there = limit_at rules.max_packet slots c d limits (omega (arith, eight_slots)) in
      limit_set rules.max_packet slots c x limits (e ∙ there.0, omega (arith, there.1, f))

  module _ (octets : List ℕ) (g : GoodFrame) (e : frame_reading_of rules.layout octets ≡ Ok g) (count : ℕ) (counts : count ≡ g.master_count) where
    abbrev one_record : List Item
    one_record = items rules (state_in_slots seen master slots) (octets ∷ [])

    abbrev gap : List Item
    gap = gap_at master_gap_item master (counted seen count)

    -- a frame of a channel that isn't chosen
    pub items_unchosen : chooses rules g.channel ≡ false → gap ≡ one_record
    items_unchosen h = counted_master master seen count g counts ∙ items_other_record rules (state_in_slots seen master slots) v octets g e h

    pub after_unchosen : chooses rules g.channel ≡ false → state_in_slots (seen + 1) (Some count) slots ≡ after rules (state_in_slots seen master slots) (octets ∷ [])
    after_unchosen h = rw counts (after_other_record rules (state_in_slots seen master slots) v octets g e h)

    -- for one that is
    module _ (c : ℕ) (d : Slot) (same : c ≡ g.channel) (is_chosen : chooses rules c ≡ true) where
      inside : c < length slots
      inside = let fit : IsFit (Ok g) = subst IsFit e (reading-fit rules.layout octets) in let small = fit.0 in omega (arith, eight_slots)

      pub items_slot : gap ++ frame_items (slice_index_or slots c d).limit c (slice_index_or slots c d).last (member seen g) ≡ one_record
      items_slot =
          rw (counted_master master seen count g counts, (limit_at rules.max_packet slots c d limits inside).0, ← last_at slots c d)
          (items_one_record rules (state_in_slots seen master slots) v octets g e c d.last same is_chosen)

      pub after_slot : (x : Slot) → x.last ≡ last_after (slice_index_or slots c d).limit (slice_index_or slots c d).last (member seen g)
          → state_in_slots (seen + 1) (Some count) (slice_set slots c x) ≡ after rules (state_in_slots seen master slots) (octets ∷ [])
      after_slot x h =
          let k : x.last ≡ last_after rules.max_packet (slice_index_or (lasts slots) c d.last) (member seen g) =
          h ∙ rw ((limit_at rules.max_packet slots c d limits inside).0, ← last_at slots c d) refl in
          state_same refl (ap (λ (n : ℕ). Some n) counts) (lasts_set slots c x ∙ ap (λ (y : Option Last). slice_set (lasts slots) c y) k)
          ∙ after_one_record rules (state_in_slots seen master slots) v octets g e c d.last same is_chosen

    -- the items of a good frame begin with its master gap
    pub items_good : (rest : List Item) × (gap ++ rest ≡ one_record)
    items_good =
        ⊎_elim
        (λ h. (
          frame_items (slice_index_or slots g.channel (unused 0)).limit g.channel (slice_index_or slots g.channel (unused 0)).last (member seen g),
          items_slot g.channel (unused 0) refl h,
        ))
        (λ h. ([], append-nil gap ∙ items_unchosen h))
        (cases_Bool (chooses rules g.channel))
