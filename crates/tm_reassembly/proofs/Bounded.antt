-- How much the items of one record are at most, by a measure of items: their events, or the octets of their packets.
use Rattle.std.proofs.Common.{◌≡◌, ℕ, suc, zero, pred, ◌+◌, ◌-◌, ◌*◌, ◌<◌, ◌≤◌, Ok, Err, Bool, true, false, Option, Some, None, List, [], ◌∷◌, ◌++◌, length, take, refl, ap, subst, ◌∙◌, ⊎_elim, arith, length-append, leb}
use Rattle.std.specs.List.{slice_get, sum_by}
use Rattle.std.proofs.lemmas.Bool.{cases_Bool, cond_both, cond-false, leb-true, eqb-true}
use Rattle.std.proofs.lemmas.List.{length-take-le}
use Rattle.std.proofs.lemmas.List.Concat.{flat_map-append}
use Rattle.std.proofs.lemmas.List.Sums.{sum_by-append, sum_by-cons}
use Rattle.tm_frame.specs.Frame.{GoodFrame}
use Rattle.tm_frame.specs.declared.frame.Kind.{Kind}
use Rattle.tm_frame.specs.declared.frame.Kind.TheVariants as got
use Rattle.tm_frame.specs.Fault.{frame_reading_of}
use Rattle.tm_frame.specs.Rules.{Rules, chooses}
use Rattle.tm_items.proofs.Reaching.{packet_length_least}
use Rattle.tm_items.specs.Among.{is_packet_item}
use Rattle.tm_items.specs.Item.{Item, Packet, Bad, Vca}
use Rattle.tm_items.specs.OnePacket.{packet_length}
use Rattle.tm_items.specs.declared.items.Reason.{Reason}
use Rattle.tm_items.specs.declared.items.Reason.TheVariants as why
use Rattle.tm_reassembly.specs.Bounds.{event_count, event_counts, packet_size, packet_sizes}
use Rattle.tm_reassembly.specs.Chain.{ChainMember, has_frame_gap, member, master_member, counted_field}
use Rattle.tm_reassembly.specs.Items.{master_gap_item, gap_item, gap_at, vca_at, part_item, items_of_readings}
use Rattle.tm_reassembly.specs.Parts.{Part, agrees, agrees_at, begins_packet, lead_part, lead_octets, lost_lead, reason_at}
use Rattle.tm_reassembly.specs.Readings.{FrameReading}
use Rattle.tm_reassembly.specs.Recording as raw
use Rattle.tm_reassembly.specs.State.{State, Tail}
use Rattle.tm_reassembly.specs.Valid.{IsValidState}
use Rattle.tm_reassembly.specs.code.Field.{end_place_of, field_parts, parts_in, part_items, frame_parts, begun_parts, broken_off_parts, ended_parts, step_parts, chain_parts_at}
use Rattle.tm_reassembly.specs.code.Fits.{IsFit}
use Rattle.tm_reassembly.proofs.Fits.{reading-fit, FieldWithin, field-within}
use Rattle.tm_reassembly.proofs.Joining.{before_of, tail_of, member_items}
use Rattle.tm_reassembly.proofs.Long.{agrees-place}
use Rattle.tm_reassembly.proofs.OneStep.{valid-from, items-one-valid, items-other}
use Rattle.tm_reassembly.proofs.Records.{HasOpenTails}
use Rattle.tm_reassembly.proofs.States.{short-held}

-- the sum of a measure over the items of parts
abbrev parts_sum : (Item → ℕ) → ℕ → List Part → ℕ
parts_sum f channel ps = sum_by f (part_items channel ps)

parts-append : (f : Item → ℕ) (channel : ℕ) (a b : List Part) → parts_sum f channel (a ++ b) ≡ parts_sum f channel a + parts_sum f channel b
parts-append f channel a b =
    ap (sum_by f) (flat_map-append (λ p. part_item channel p p.fate) a b) ∙ sum_by-append f (part_items channel a) (part_items channel b)

-- An item that isn't a packet is at most `other` by the measure.
module _ (f : Item → ℕ) (other : ℕ) (others : (x : Item) → is_packet_item x ≡ false → f x ≤ other) where
  sum-one : (x : Item) → is_packet_item x ≡ false → sum_by f (x ∷ []) ≤ other
  sum-one x h = let one = others x h in omega arith

  sum-gap : (gap : ℕ → ChainMember → Item) (before : Option ℕ) (m : ChainMember) → ((expected : ℕ) → is_packet_item (gap expected m) ≡ false) → sum_by f (gap_at gap before m) ≤ other
  sum-gap gap None m h = omega arith
  sum-gap gap (Some before) m h =
      cond_both (has_frame_gap (Some before) m) _ [] (λ (xs : List Item). sum_by f xs ≤ other) (λ e. sum-one (gap _ m) (h _)) (λ e. omega arith)

  sum-without : (gap : ℕ → ChainMember → Item) (before : Option ℕ) (m : ChainMember) → has_frame_gap before m ≡ false → sum_by f (gap_at gap before m) ≡ 0
  sum-without gap None m h = refl
  sum-without gap (Some before) m h = ap (sum_by f) (cond-false (has_frame_gap (Some before) m) _ [] h)

  sum-ended : (channel : ℕ) (tail : Option Tail) (reason : Reason) (number : ℕ) → parts_sum f channel (ended_parts tail reason number) ≤ other
  sum-ended channel None reason number = omega arith
  sum-ended channel (Some t) reason number = sum-one _ refl

  sum-lead : (channel : ℕ) (m : ChainMember) (reason : Reason) (octets : List ℕ) → parts_sum f channel (lead_part m reason octets) ≤ other
  sum-lead channel m reason [] = omega arith
  sum-lead channel m reason (x ∷ xs) = sum-one _ refl

  -- What a frame gives from its place on is at most `whole`, and with the packet of a tail before it at most `most`. No more than three
  -- other items stand before it: a gap, the tail that it breaks off, and what is before its place.
  module _ (limit channel whole most : ℕ) (m : ChainMember) (frame : parts_sum f channel (frame_parts limit m) ≤ whole) (enough : 3 * other + whole ≤ most) where
    sum-begun : (reason : Reason) → parts_sum f channel (begun_parts limit reason m) ≤ other + whole
    sum-begun reason =
        let lost = sum-lead channel m reason (lead_octets m.place m.field) in
        omega (arith, parts-append f channel (lost_lead m reason) (frame_parts limit m))

    sum-broken : (tail : Option Tail) (reason : Reason) → parts_sum f channel (broken_off_parts limit tail reason m) ≤ other + other + whole
    sum-broken tail reason =
        let lost = sum-ended channel tail reason m.number in
        let begun = sum-begun reason in
        omega (arith, parts-append f channel (ended_parts tail reason m.number) (begun_parts limit reason m))

    -- where the frame completes the packet of a tail, that and what follows it are at most `most`
    abbrev Completes : Option Tail → Type 0
    Completes tail =
        (t : Tail) → tail ≡ Some t → agrees limit (packet_length (t.octets ++ m.field)) (length t.octets) m ≡ true
        → packet_length (t.octets ++ m.field) ≤ length (t.octets ++ m.field)
        → f (Packet m.number channel t.first t.place (take (packet_length (t.octets ++ m.field)) (t.octets ++ m.field))) + parts_sum f channel (frame_parts limit m) ≤ most

    sum-step : (tail : Option Tail) → Completes tail → parts_sum f channel (step_parts limit tail m) ≤ most
    sum-step None h = let begun = sum-begun why.NoStart in omega arith
    sum-step (Some t) h =
        let reach : ℕ = packet_length (t.octets ++ m.field) in
        cond_both (agrees limit reach (length t.octets) m) _ _ (λ (ps : List Part). parts_sum f channel ps ≤ most)
        (λ p. cond_both (leb reach (length (t.octets ++ m.field))) _ _ (λ (ps : List Part). parts_sum f channel ps ≤ most)
        (λ q.
        let all = h t refl p (leb-true reach (length (t.octets ++ m.field)) q) in
        omega (arith, sum_by-cons f (Packet m.number channel t.first t.place (take reach (t.octets ++ m.field))) (part_items channel (frame_parts limit m))))
        (λ q. omega arith))
        (λ p. let broken = sum-broken (Some t) (reason_at reach (length t.octets) m) in omega arith)

    sum-vca : sum_by f (vca_at channel m) ≤ other
    sum-vca = cond_both m.is_vca _ [] (λ (xs : List Item). sum_by f xs ≤ other) (λ e. sum-one (Vca m.number channel) refl) (λ e. omega arith)

    sum-data : m.is_vca ≡ false → sum_by f (vca_at channel m) ≡ 0
    sum-data h = ap (sum_by f) (cond-false m.is_vca _ [] h)

    sum-at : (before : Option ℕ) (tail : Option Tail) → Completes tail → (gap vca : Bool) → has_frame_gap before m ≡ gap → m.is_vca ≡ vca
        → (sum_by f (gap_at (gap_item channel) before m) + sum_by f (vca_at channel m)) + parts_sum f channel (chain_parts_at limit gap vca tail m) ≤ most
    sum-at before tail h true true e k =
        let gap = sum-gap (gap_item channel) before m (λ expected. refl) in
        let vca = sum-vca in
        let ended = sum-ended channel tail why.Gap m.number in
        omega arith
    sum-at before tail h true false e k =
        let gap = sum-gap (gap_item channel) before m (λ expected. refl) in
        let vca = sum-data k in
        let ended = sum-ended channel tail why.Gap m.number in
        let begun = sum-begun why.NoStart in
        omega (arith, parts-append f channel (ended_parts tail why.Gap m.number) (step_parts limit None m))
    sum-at before tail h false true e k =
        let gap = sum-without (gap_item channel) before m e in
        let vca = sum-vca in
        let ended = sum-ended channel tail why.Vca m.number in
        omega arith
    sum-at before tail h false false e k =
        let gap = sum-without (gap_item channel) before m e in
        let vca = sum-data k in
        let step = sum-step tail h in
        omega arith

    sum-member : (before : Option ℕ) (tail : Option Tail) → Completes tail → sum_by f (member_items limit channel before tail m) ≤ most
    sum-member before tail h =
        let gap : List Item = gap_at (gap_item channel) before m in
        let vca : List Item = vca_at channel m in
        let parts : List Item = part_items channel (chain_parts_at limit (has_frame_gap before m) m.is_vca tail m) in
        let all = sum-at before tail h (has_frame_gap before m) m.is_vca refl refl in
        omega (arith, sum_by-append f (gap ++ vca) parts, sum_by-append f gap vca)

  -- the items of a record, by those of a good frame of a chosen channel
  module _ (limit : ℕ) (chosen : ℕ → Bool) (s : State) (most all : ℕ) (enough : other + most ≤ all) where
    abbrev of_member : GoodFrame → List Item
    of_member g = member_items limit g.channel (before_of (slice_get s.channels g.channel)) (tail_of (slice_get s.channels g.channel)) (member s.records g)

    abbrev of_reading : FrameReading → List Item
    of_reading r = items_of_readings limit chosen s (r ∷ [])

    sum-reading : (r : FrameReading) → HasOpenTails limit chosen s → IsFit r → ((g : GoodFrame) → r ≡ Ok g → sum_by f (of_member g) ≤ most) → sum_by f (of_reading r) ≤ all
    sum-reading (Err fault) v fit h = let one = sum-one (Bad s.records fault) refl in omega arith
    sum-reading (Ok g) v fit h =
        let gap : List Item = gap_at master_gap_item s.master (master_member s.records g) in
        let first = sum-gap master_gap_item s.master (master_member s.records g) (λ expected. refl) in
        let rest = h g refl in
        ⊎_elim
        (λ e. rw (items-one-valid limit chosen s g v fit e) (omega (arith, sum_by-append f gap (of_member g))))
        (λ e. rw (items-other limit chosen s g e) (omega arith))
        (cases_Bool (chosen g.channel))

-- the events of a field: four for each seven octets, the fewest of a packet, and one for an unread part
field-events : (limit channel number stop skip : ℕ) (octets : List ℕ) (sevens : ℕ) → length octets < 7 * sevens + 7 + skip
    → parts_sum event_count channel (field_parts limit number stop skip octets) ≤ 4 * sevens + 1
field-events limit channel number stop skip [] sevens h = omega arith
field-events limit channel number stop (suc skip) (x ∷ xs) sevens h = field-events limit channel number stop skip xs sevens (omega arith)
field-events limit channel number stop zero (x ∷ xs) sevens h =
    let n : ℕ = packet_length (x ∷ xs) in
    cond_both (begins_packet limit (x ∷ xs)) _ _ (λ (ps : List Part). parts_sum event_count channel ps ≤ 4 * sevens + 1)
    (λ p. cond_both (leb n (length (x ∷ xs))) _ _ (λ (ps : List Part). parts_sum event_count channel ps ≤ 4 * sevens + 1)
    (λ q.
    let fits : n ≤ length (x ∷ xs) = leb-true n (length (x ∷ xs)) q in
    let least = packet_length_least (x ∷ xs) in
    let rest = field-events limit channel number stop (pred n) xs (sevens - 1) (omega arith) in
    omega (arith, sum_by-cons event_count (Packet number channel number (stop - length (x ∷ xs)) (take n (x ∷ xs))) (part_items channel (field_parts limit number stop (pred n) xs))))
    (λ q. omega arith))
    (λ p. omega arith)

-- the octets of its packets: no more than there are after those that are skipped
field-sizes : (limit channel number stop skip : ℕ) (octets : List ℕ)
    → parts_sum packet_size channel (field_parts limit number stop skip octets) ≤ length octets - skip
field-sizes limit channel number stop skip [] = omega arith
field-sizes limit channel number stop (suc skip) (x ∷ xs) = let rest = field-sizes limit channel number stop skip xs in omega arith
field-sizes limit channel number stop zero (x ∷ xs) =
    let n : ℕ = packet_length (x ∷ xs) in
    cond_both (begins_packet limit (x ∷ xs)) _ _ (λ (ps : List Part). parts_sum packet_size channel ps ≤ length (x ∷ xs) - 0)
    (λ p. cond_both (leb n (length (x ∷ xs))) _ _ (λ (ps : List Part). parts_sum packet_size channel ps ≤ length (x ∷ xs) - 0)
    (λ q.
    let fits : n ≤ length (x ∷ xs) = leb-true n (length (x ∷ xs)) q in
    let few = length-take-le n (x ∷ xs) fits in
    let least = packet_length_least (x ∷ xs) in
    let rest = field-sizes limit channel number stop (pred n) xs in
    omega (arith, sum_by-cons packet_size (Packet number channel number (stop - length (x ∷ xs)) (take n (x ∷ xs))) (part_items channel (field_parts limit number stop (pred n) xs))))
    (λ q. omega arith))
    (λ p. omega arith)

frame-events : (limit channel : ℕ) (m : ChainMember) → length m.field ≤ 2042 → parts_sum event_count channel (frame_parts limit m) ≤ 1165
frame-events limit channel m h = by m.place
  where
    by : (place : Option ℕ) → parts_sum event_count channel (parts_in limit m.number (end_place_of m) place m.field) ≤ 1165
    by None = omega arith
    by (Some place) = field-events limit channel m.number (end_place_of m) place m.field 291 (omega arith)

frame-sizes : (limit channel : ℕ) (m : ChainMember) → parts_sum packet_size channel (frame_parts limit m) ≤ length m.field
frame-sizes limit channel m = by m.place
  where
    by : (place : Option ℕ) → parts_sum packet_size channel (parts_in limit m.number (end_place_of m) place m.field) ≤ length m.field
    by None = omega arith
    by (Some place) = let most = field-sizes limit channel m.number (end_place_of m) place m.field in omega arith

-- with the packet of a tail, which ends where the frame's first packet starts
completed-sizes : (limit channel : ℕ) (octets : List ℕ) (m : ChainMember) (reach : ℕ) → agrees_at reach (length octets) (length m.field) m.place ≡ true
    → reach ≤ length (octets ++ m.field)
    → length (take reach (octets ++ m.field)) + parts_sum packet_size channel (frame_parts limit m) ≤ length octets + length m.field
completed-sizes limit channel octets m reach agree fits = by m.place agree
  where
    by : (place : Option ℕ) → agrees_at reach (length octets) (length m.field) place ≡ true
        → length (take reach (octets ++ m.field)) + parts_sum packet_size channel (parts_in limit m.number (end_place_of m) place m.field) ≤ length octets + length m.field
    by None e = omega (arith, length-take-le reach (octets ++ m.field) fits, length-append octets m.field)
    by (Some place) e =
        let stop : reach ≡ length octets + place = eqb-true reach (length octets + place) e in
        let rest = field-sizes limit channel m.number (end_place_of m) place m.field in
        omega (arith, length-take-le reach (octets ++ m.field) fits, length-append octets m.field)

others-counted : (x : Item) → is_packet_item x ≡ false → event_count x ≤ 1
others-counted (Packet seen channel first place octets) h = absurd (cc)
others-counted x h = omega arith

others-sized : (x : Item) → is_packet_item x ≡ false → packet_size x ≤ 0
others-sized (Packet seen channel first place octets) h = absurd (cc)
others-sized x h = omega arith

counted-short : (g : GoodFrame) (number : ℕ) → length g.field ≤ 2042 → length (member number g).field ≤ 2042
counted-short g number h = by g.kind
  where
    by : (kind : Kind) → length (counted_field kind g.field) ≤ 2042
    by got.Idle = omega arith
    by kind = h

module _ (rules : Rules) (s : State) (octets : List ℕ) (v : IsValidState rules s) (range : rules.layout.frame_length ≤ 2048) where
  -- a good frame's data field has at most 2042 octets
  short : (g : GoodFrame) → frame_reading_of rules.layout octets ≡ Ok g → length (member s.records g).field ≤ 2042
  short g e = counted-short g s.records (subst (FieldWithin 2042) e (field-within rules.layout octets range))

  pub record-events : event_counts (raw.items rules s (octets ∷ [])) ≤ 1170
  unfolding raw.items
  record-events =
      sum-reading event_count 1 others-counted rules.max_packet (chooses rules) s 1169 1170 (omega arith) (frame_reading_of rules.layout octets)
      (valid-from rules.max_packet (chooses rules) s v.shape) (reading-fit rules.layout octets)
      (λ g e.
      let m : ChainMember = member s.records g in
      let frame : parts_sum event_count g.channel (frame_parts rules.max_packet m) ≤ 1165 = frame-events rules.max_packet g.channel m (short g e) in
      sum-member event_count 1 others-counted rules.max_packet g.channel 1165 1169 m frame (omega arith)
      (before_of (slice_get s.channels g.channel)) (tail_of (slice_get s.channels g.channel)) (λ t f p q. omega arith))

  pub record-sizes : packet_sizes (raw.items rules s (octets ∷ [])) ≤ rules.max_packet + 2041
  unfolding raw.items
  record-sizes =
      sum-reading packet_size 0 others-sized rules.max_packet (chooses rules) s (rules.max_packet + 2041) (rules.max_packet + 2041) (omega arith) (frame_reading_of rules.layout octets)
      (valid-from rules.max_packet (chooses rules) s v.shape) (reading-fit rules.layout octets)
      (λ g e.
      let m : ChainMember = member s.records g in
      let few = short g e in
      let least = v.limit.least in
      let frame : parts_sum packet_size g.channel (frame_parts rules.max_packet m) ≤ 2042 = let all = frame-sizes rules.max_packet g.channel m in omega arith in
      sum-member packet_size 0 others-sized rules.max_packet g.channel 2042 (rules.max_packet + 2041) m frame (omega arith)
      (before_of (slice_get s.channels g.channel)) (tail_of (slice_get s.channels g.channel))
      (λ t f p q.
      let all = completed-sizes rules.max_packet g.channel t.octets m (packet_length (t.octets ++ m.field)) (agrees-place rules.max_packet (packet_length (t.octets ++ m.field)) (length t.octets) m p) q in
      let tail = short-held rules s v g.channel t f in
      omega arith))
