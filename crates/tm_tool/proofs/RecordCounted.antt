-- What the items of one record say of its frame, and what is counted of it.
use Rattle.std.proofs.Common.{◌≡◌, ◌<◌, ◌||◌, ℕ, Bool, true, false, None, List, [], ◌∷◌, ◌++◌, length, refl, sym, ap, ◌∙◌, append-nil, Ok, Err, IsOk, if◌then◌else◌, ◌==◌, flat_map, ◌+◌, arith, zero-add, sum_by}
use Rattle.std.proofs.Math.Bool.{or-false}
use Rattle.tm_frame.specs.declared.fault.FrameFault.{FrameFault}
use Rattle.tm_frame.specs.Fault.{frame_reading_of}
use Rattle.tm_frame.specs.Frame.{GoodFrame}
use Rattle.tm_frame.specs.Rules.{chooses, Rules}
use Rattle.tm_items.specs.Item.{Item, seen_of}
use Rattle.tm_reassembly.specs.Chain.{ChainMember, chain, master_chain}
use Rattle.tm_reassembly.specs.Items.{chain_parts, channel_items, gap_item, gaps, master_gap_item, master_items, part_item, record_items, seen_at, vca_at, closing, empty, items_of_readings, merged}
use Rattle.tm_reassembly.specs.Parts.{Fate, Given, Held, Lost, Part}
use Rattle.tm_reassembly.specs.Readings.{FrameReading}
use Rattle.tm_reassembly.specs.Recording.{items, after, readings}
use Rattle.tm_reassembly.specs.State.{State}
use Rattle.tm_bits.proofs.Each.{Each, Each-append, Each-cond, Each-every, Each-filter, Each-flat_map}
use Rattle.tm_reassembly.proofs.Joining.{gaps-each, vcas-each}
use Rattle.tm_summary.specs.Adding.{with_frame}
use Rattle.tm_summary.specs.Kinds.{is_bad}
use Rattle.tm_summary.specs.SummaryNumbers.{SummaryNumbers, Tally, numbers_of, in_all}
use Rattle.tm_summary.specs.Tallies.{AllFit, and_items, notes_among, with_all}
use Rattle.tm_summary.proofs.Taken.{any_bad}
use Rattle.tm_summary.proofs.Tallied.{all_counted}
use Rattle.tm_summary.proofs.WithOne.{frame_counted}
use Rattle.tm_checkpoint.specs.Works.{Work, new_job}
use Rattle.tm_tool.specs.RecordingPieces.{items_of}
use Rattle.tm_tool.specs.RunTotals.{frames_in, good_frames}
use Rattle.tm_tool.specs.Summaries.{closed_items}
use Rattle.tm_tool.specs.code.Summing.{and_records}
use Rattle.std.proofs.lemmas.List.Sums.{sum_by-append, sum_by-cons}
use Rattle.tm_frame.specs.declared.layout.LayoutParts.{LayoutParts}
use Rattle.tm_frame.specs.Layout.{record_length_of}
use Rattle.tm_output.specs.Records.{records, rest_of}
use Rattle.tm_summary.specs.Sums.{IsBelowGreatest}
use Rattle.tm_tool.specs.SummaryNumbers.{summary_numbers}
use Rattle.tm_tool.proofs.NoteLemmas.{closing-each}

-- ---- none of the items of a good frame is a bad frame

abbrev pub NotBad : Item → Type 0
NotBad x = is_bad x ≡ false

abbrev pub NoneBad : List Item → Type 0
NoneBad xs = Each NotBad xs

not_any : (xs : List Item) → NoneBad xs → any_bad xs ≡ false
not_any [] h = refl
not_any (x ∷ xs) h = rw h.0 (not_any xs h.1)

-- of members and parts nothing is asked
every : {X : Type 0} (xs : List X) → Each (λ x. Unit {0}) xs
every xs = Each-every (λ x. Unit {0}) xs (λ x. tt)

none_part : (channel : ℕ) (p : Part) (fate : Fate) → NoneBad (part_item channel p fate)
none_part channel p (Given seen) = (refl, tt)
none_part channel p (Lost reason seen) = (refl, tt)
none_part channel p Held = tt

none_channel : (limit channel : ℕ) (ms : List ChainMember) → NoneBad (channel_items limit channel ms)
none_channel limit channel ms =
    let lost : List Item = gaps (gap_item channel) None ms in
    let vcas : List Item = flat_map (vca_at channel) ms in
    Each-append NotBad (lost ++ vcas) (flat_map (λ (p : Part). part_item channel p p.fate) (chain_parts limit ms))
    (Each-append NotBad lost vcas (gaps-each (λ m. Unit {0}) NotBad (gap_item channel) (λ m e h. refl) None ms (every ms))
    (vcas-each (λ m. Unit {0}) NotBad channel (λ m h. refl) ms (every ms)))
    (Each-flat_map (λ p. Unit {0}) NotBad (λ (p : Part). part_item channel p p.fate) (chain_parts limit ms) (λ p h. none_part channel p p.fate)
    (every (chain_parts limit ms)))

-- it isn't a good frame
abbrev pub is_fault : FrameReading → Bool
is_fault (Ok f) = false
is_fault (Err fault) = true

pub good_none : (limit : ℕ) (chosen : ℕ → Bool) (s : State) (readings : List FrameReading) (number : ℕ) (f : GoodFrame)
    → NoneBad (record_items limit chosen s readings number (Ok f))
good_none limit chosen s readings number f =
    let masters : List ChainMember = master_chain s readings in
    let own : List Item = channel_items limit f.channel (chain s f.channel readings) in
    Each-append NotBad (seen_at number (master_items masters)) (if chosen f.channel then seen_at number own else [])
    (Each-filter NotBad (λ x. seen_of x == number) (master_items masters)
    (gaps-each (λ m. Unit {0}) NotBad master_gap_item (λ m e h. refl) None masters (every masters)))
    (Each-cond NotBad (chosen f.channel) (seen_at number own)
    (λ e. Each-filter NotBad (λ x. seen_of x == number) own (none_channel limit f.channel (chain s f.channel readings))))

bad_reading : (limit : ℕ) (chosen : ℕ → Bool) (s : State) (readings : List FrameReading) (number : ℕ) (r : FrameReading)
    → any_bad (record_items limit chosen s readings number r ++ []) ≡ is_fault r
bad_reading limit chosen s readings number (Err fault) = refl
bad_reading limit chosen s readings number (Ok f) =
    ap any_bad (append-nil (record_items limit chosen s readings number (Ok f)))
    ∙ not_any (record_items limit chosen s readings number (Ok f)) (good_none limit chosen s readings number f)

-- a bad frame is among the items of a record just where the record is none but one
pub bad_is_fault : (w : Work) (octets : List ℕ) → any_bad (items_of w (octets ∷ [])) ≡ is_fault (frame_reading_of w.rules.layout octets)
unfolding items
bad_is_fault w octets =
    bad_reading w.rules.max_packet (chooses w.rules) w.state (frame_reading_of w.rules.layout octets ∷ []) w.state.records (frame_reading_of w.rules.layout octets)

-- what a sink that began without a bad frame says of the record
pub seen_bad : (w : Work) (octets : List ℕ) (bad known : Bool) → bad ≡ any_bad (items_of w (octets ∷ [])) || false → bad ≡ known
    → is_fault (frame_reading_of w.rules.layout octets) ≡ known
seen_bad w octets bad known is h = sym (bad_is_fault w octets) ∙ sym (or-false (any_bad (items_of w (octets ∷ [])))) ∙ sym is ∙ h

pub no_fault : (r : FrameReading) → is_fault r ≡ false → IsOk r
no_fault (Ok f) h = refl
no_fault (Err fault) h = cc

pub a_fault : (r : FrameReading) → is_fault r ≡ true → (fault : FrameFault) × (r ≡ Err fault)
a_fault (Ok f) h = cc
a_fault (Err fault) h = (fault, refl)

-- ---- what is counted

module _ (w : Work) (octets : List ℕ) (before now : SummaryNumbers) (fit : AllFit (items_of w (octets ∷ []))) where
  all_given : (t : Tally) → before ≡ numbers_of t → with_all w.entries before (items_of w (octets ∷ [])) ≡ numbers_of (and_items t w.entries (items_of w (octets ∷ [])))
  all_given t are = ap (λ (n : SummaryNumbers). with_all w.entries n (items_of w (octets ∷ []))) are ∙ all_counted t w.entries (items_of w (octets ∷ [])) fit

  pub counted_bad : (fault : FrameFault) → frame_reading_of w.rules.layout octets ≡ Err fault → now ≡ with_all w.entries before (items_of w (octets ∷ []))
      → (t : Tally) → before ≡ numbers_of t → now ≡ numbers_of (and_records w t (octets ∷ []))
  counted_bad fault reads counted t are =
      let none : good_frames w.rules.layout (octets ∷ []) ≡ [] = ap (λ (r : FrameReading). frames_in r ++ []) reads in
      counted ∙ all_given t are
      ∙ ap (λ (fs : List GoodFrame). numbers_of (record { frames = fs; items = t.items ++ items_of w (octets ∷ []); notes = t.notes ++ notes_among w.entries (items_of w (octets ∷ [])) }))
      (sym (ap (λ (fs : List GoodFrame). t.frames ++ fs) none ∙ append-nil t.frames))

  pub counted_good : (f : GoodFrame) → frame_reading_of w.rules.layout octets ≡ Ok f → f.channel < 8
      → now ≡ with_frame (with_all w.entries before (items_of w (octets ∷ []))) f.channel f.kind (length f.field)
      → (t : Tally) → before ≡ numbers_of t → now ≡ numbers_of (and_records w t (octets ∷ []))
  counted_good f reads below counted t are =
      let one : good_frames w.rules.layout (octets ∷ []) ≡ f ∷ [] = ap (λ (r : FrameReading). frames_in r ++ []) reads in
      counted
      ∙ ap (λ (n : SummaryNumbers). with_frame n f.channel f.kind (length f.field)) (all_given t are)
      ∙ sym (frame_counted (and_items t w.entries (items_of w (octets ∷ []))) f below)
      ∙ ap (λ (fs : List GoodFrame). numbers_of (record { frames = t.frames ++ fs; items = t.items ++ items_of w (octets ∷ []); notes = t.notes ++ notes_among w.entries (items_of w (octets ∷ [])) })) (sym one)

-- ---- the good frames and the bad ones are the records

abbrev bads : List Item → ℕ
bads xs = sum_by (λ x. if is_bad x then 1 else 0) xs

abbrev goods : List GoodFrame → ℕ
goods fs = sum_by (λ f. 1) fs

no_bads : (xs : List Item) → NoneBad xs → bads xs ≡ 0
no_bads [] none = refl
no_bads (x ∷ xs) none =
    sum_by-cons (λ (y : Item). if is_bad y then 1 else 0) x xs ∙ rw none.0 (zero-add (bads xs) ∙ no_bads xs none.1)

-- ---- records

module _ (limit : ℕ) (chosen : ℕ → Bool) (s : State) (all : List FrameReading) where
  -- a record is a good frame or a bad one
  one_told : (number : ℕ) (r : FrameReading) → goods (frames_in r) + bads (record_items limit chosen s all number r) ≡ 1
  one_told number (Err fault) = refl
  one_told number (Ok f) =
      omega (arith, no_bads (record_items limit chosen s all number (Ok f)) (good_none limit chosen s all number f))

  records_told : (layout : LayoutParts) (number : ℕ) (rs : List (List ℕ)) → goods (good_frames layout rs) + bads (merged limit chosen s all number (readings layout rs)) ≡ length rs
  records_told layout number [] = refl
  records_told layout number (r ∷ rs) =
      let reading : FrameReading = frame_reading_of layout r in
      rw (
        sum_by-append (λ (f : GoodFrame). 1) (frames_in reading) (good_frames layout rs),
        sum_by-append (λ (x : Item). if is_bad x then 1 else 0) (record_items limit chosen s all number reading) (merged limit chosen s all (number + 1) (readings layout rs)),
      ) (omega (arith, one_told number reading, records_told layout (number + 1) rs))

-- ---- the closed end

closing_none : (s : State) (rest : ℕ) → NoneBad (closing s rest)
closing_none s rest = closing-each NotBad (λ seen octets. refl) (λ seen channel first place octets reason. refl) s rest

-- ---- all of them

module _ (rules : Rules) where
  all_told : (rs : List (List ℕ)) (rest : ℕ) → goods (good_frames rules.layout rs) + bads (closed_items (new_job rules).work rs rest) ≡ length rs
  unfolding items
  all_told rs rest =
      let xs : List Item = items_of_readings rules.max_packet (chooses rules) empty (readings rules.layout rs) in
      let ys : List Item = closing (after rules empty rs) rest in
      let told = records_told rules.max_packet (chooses rules) empty (readings rules.layout rs) rules.layout 0 rs in
      rw (sum_by-append (λ (x : Item). if is_bad x then 1 else 0) xs ys) (omega (arith, told, no_bads ys (closing_none (after rules empty rs) rest)))

  abbrev AreRecords : ℕ → SummaryNumbers → Type 0
  AreRecords count n = IsBelowGreatest count → n.good + n.bad ≡ count

  pub records_counted : (recording : List ℕ) → AreRecords (length (records (record_length_of rules.layout) recording)) (summary_numbers rules recording)
  unfolding summary_numbers in_all
  records_counted recording count =
      omega (arith, all_told (records (record_length_of rules.layout) recording) (length (rest_of (record_length_of rules.layout) recording)), count)
