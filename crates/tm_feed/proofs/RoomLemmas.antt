-- How much room the items of one record take.
use Rattle.std.proofs.Common.{mul-add, mul-le-mul_left, ◌≡◌, ℕ, Bool, true, false, ◌+◌, ◌<◌, ◌≤◌, Option, Some, None, List, [], ◌∷◌, length, refl, sym, append-nil, length-append, arith, inl, inr, subst}
use Rattle.std.specs.Prelude.{◌*◌, ◌==◌, ◌++◌, nat_lt, if◌then◌else◌, Result, Ok, Err, IfSome}
use Rattle.std.proofs.lemmas.List.Sums.{sum_by-cons}
use Rattle.std.specs.List.{flat_map, sum_by}
use Rattle.std.proofs.lemmas.Bool.{eqb-true}
use Rattle.std.proofs.lemmas.List.{length-map}
use Rattle.tm_packet.specs.declared.header.Flags.{Flags}
use Rattle.tm_packet.specs.declared.header.Flags.TheVariants as flag
use Rattle.tm_packet.specs.declared.notes.Note.{Note}
use Rattle.tm_packet.specs.declared.tracker.PairEntry.{PairEntry}
use Rattle.tm_packet.specs.Header.{Fields, packet_header_of}
use Rattle.tm_packet.specs.Merge as sequence
use Rattle.tm_packet.specs.Merge.{Entries, Sent}
use Rattle.tm_packet.specs.Sequence.{Group, PairMember, decided, end_notes, first_in, gap_notes, goes_on, group_in, has_packet_gap, rest_notes, stray}
use Rattle.tm_packet.specs.code.Single.{member_after, single_notes}
use Rattle.tm_packet.proofs.Merging.{notes-one}
use Rattle.tm_items.specs.Item.{Item, Packet}
use Rattle.tm_reassembly.specs.Bounds.{event_count, event_counts, packet_size, packet_sizes}
use Rattle.tm_frame.specs.Layout.{IsInRange}
use Rattle.tm_items.specs.Sinks.{RefusesOne}
use Rattle.tm_reassembly.specs.declared.fault.StepFault.{StepFault}
use Rattle.tm_reassembly.specs.declared.fault.StepFault.TheVariants.{Sink, Failed, TooMany}
use Rattle.tm_reassembly.specs.Steps.{Progress, StepRefused, most_records, step_items}
use Rattle.tm_reassembly.proofs.Bounded.{record-events, record-sizes}
use Rattle.tm_checkpoint.specs.Works.{IsGoing}
use Rattle.tm_output.specs.Pieces.{noted, notes_of, sent}
use Rattle.tm_feed.specs.Events.{note_event}
use Rattle.tm_fields.proofs.RowLengths.{row_size}
use Rattle.tm_fields.specs.Binary.{row_length, row_octets}
use Rattle.tm_fields.specs.Numbers.{bits_in}
use Rattle.tm_fields.specs.Rows.{bits_needed}
use Rattle.tm_fields.specs.declared.faults.RowFault.{RowFault}
use Rattle.tm_fields.specs.declared.faults.RowFault.TheVariants.{ShortPacket, NoMemory}
use Rattle.tm_fields.specs.declared.field.Field.{Field}
use Rattle.tm_fields.specs.declared.lead.Lead.{Lead}
use Rattle.tm_output.specs.FieldRows.{lead_of}
use Rattle.tm_feed.specs.Choosing.{FitRows}
use Rattle.tm_feed.specs.Feeding.{events_of, fields_for, gives, item_events, item_octets, made_events, made_octets, noted_events, packed_octets, packet_events, own_octets, packet_row, row_events, row_given, row_made}
use Rattle.tm_feed.specs.Jobs.{all_events_most, events_most, octets_most, packets_most}
use Rattle.tm_feed.specs.States.{Chosen}
use Rattle.tm_feed.specs.code.Sinking.{Lacks, RefusesEvents, SinkState, TakesAsEvents}
use Rattle.tm_feed.specs.code.Taking.{HasRoom}
use Rattle.tm_feed.proofs.TakeLemmas.{one_lacks}

-- ---- the notes of one header are at most three

if_few : {A : Type 0} (b : Bool) (xs ys : List A) (n : ℕ) → length xs ≤ n → length ys ≤ n → length (if b then xs else ys) ≤ n
if_few true xs ys n h k = h
if_few false xs ys n h k = k

stray_few : (flags : Flags) (count : ℕ) → length (stray flags count) ≤ 1
stray_few flag.Continuation count = omega arith
stray_few flag.First count = omega arith
stray_few flag.Last count = omega arith
stray_few flag.Unsegmented count = omega arith

end_few : (g : Group) (flags : Flags) (count : ℕ) → length (end_notes g flags count) ≤ 1
end_few g flag.Continuation count = omega arith
end_few g flag.First count = omega arith
end_few g flag.Last count = omega arith
end_few g flag.Unsegmented count = omega arith

gap_few : (expected : Option ℕ) (found : ℕ) → length (gap_notes expected found) ≤ 1
gap_few None found = omega arith
gap_few (Some expected) found = if_few (found == expected) _ _ 1 (omega arith) (omega arith)

rest_few : (first : Option ℕ) (m : PairMember) → length (rest_notes first m) ≤ 1
rest_few None m = stray_few m.flags m.count
rest_few (Some first) m = omega arith

decided_few : (before : Option Group) (m : PairMember) → length (decided before m) ≤ 2
decided_few None m = omega (arith, stray_few m.flags m.count)
decided_few (Some g) m =
    if_few (has_packet_gap m) _ _ 2 (omega (arith, stray_few m.flags m.count)) (omega (arith, end_few g m.flags m.count))

single_few : (entry : Option PairEntry) (h : Fields) → length (single_notes entry h) ≤ 3
single_few entry h =
    let m : PairMember = member_after entry h in
    let before : Option Group = group_in entry [] in
    if_few (goes_on m) _ _ 3 (omega (arith, rest_few (first_in entry) m))
    (omega (arith, length-append (gap_notes m.expected m.count) (decided before m), gap_few m.expected m.count, decided_few before m))

one_list : {A : Type 0} (xss : List (List A)) (xs : List A) → xss ≡ xs ∷ [] → flat_map (λ l. l) xss ≡ xs
one_list xss xs is = rw is (append-nil xs)

pub notes_few : (e : Entries) (p : Sent) → length (notes_of e p) ≤ 3
unfolding notes_of
notes_few e p = elim (sequence.is_idle p.header) as (λ b. sequence.is_idle p.header ≡ b → length (flat_map (λ (l : List Note). l) (sequence.notes e (p ∷ []))) ≤ 3) [
  | true ↦ (λ idle. rw idle (omega arith))
  | false ↦ (λ h. rw (one_list _ _ (notes-one e p h)) (single_few (sequence.entry_at e (sequence.key_of p)) p.header))
] refl

-- ---- packets

-- how many rows of a length an item has at most, in octets: a packet has one
abbrev pub row_size_of : ℕ → Item → ℕ
row_size_of longest (Packet seen channel first place octets) = longest
row_size_of longest _ = 0

abbrev pub packet_count : Item → ℕ
packet_count x = row_size_of 1 x

abbrev pub packet_counts : List Item → ℕ
packet_counts xs = sum_by packet_count xs

four_each : (x : Item) → 4 * packet_count x ≤ event_count x
four_each (Packet seen channel first place octets) = omega arith
four_each _ = omega arith

pub packets_few : (xs : List Item) → 4 * packet_counts xs ≤ event_counts xs
packets_few [] = omega arith
packets_few (x ∷ xs) =
    omega (arith, four_each x, packets_few xs, sum_by-cons event_count x xs, sum_by-cons packet_count x xs)

one_size : (longest : ℕ) (x : Item) → row_size_of longest x ≡ longest * packet_count x
one_size longest (Packet seen channel first place octets) = omega arith
one_size longest _ = omega arith

-- rows of a length, one for each packet
pub sizes_of_rows : (longest : ℕ) (xs : List Item) → sum_by (row_size_of longest) xs ≡ longest * packet_counts xs
sizes_of_rows longest [] = omega arith
sizes_of_rows longest (x ∷ xs) =
    rw (sum_by-cons (row_size_of longest) x xs, sum_by-cons packet_count x xs, one_size longest x, sizes_of_rows longest xs)
    (sym (mul-add longest (packet_count x) (packet_counts xs)))

-- ---- what comes of a row

made_few : (at first place : ℕ) (lead : Lead) (packet : List ℕ) (made : Option (Result (List ℕ) RowFault))
    → length (made_events at first place lead packet made) ≤ 1
made_few at first place lead packet None = omega arith
made_few at first place lead packet (Some (Ok row)) = omega arith
made_few at first place lead packet (Some (Err (ShortPacket needed found))) = omega arith
made_few at first place lead packet (Some (Err NoMemory)) = omega arith

made_short : (fields : Option (List Field)) (longest : ℕ) (lead : Lead) (packet : List ℕ) → IfSome fields (λ them. row_length them ≤ longest)
    → length (made_octets (row_made fields lead packet)) ≤ longest
made_short None longest lead packet fits = omega arith
made_short (Some fields) longest lead packet fits =
    elim (nat_lt (bits_in packet) (bits_needed fields)) as (λ b. length (made_octets (Some (if b then Err (ShortPacket (bits_needed fields) (bits_in packet)) else Ok (row_octets fields lead packet)))) ≤ longest) [
      | true ↦ omega arith
      | false ↦ omega (arith, row_size fields lead packet, fits)
    ]

made_none : (fields : Option (List Field)) (lead : Lead) (packet : List ℕ) → IfSome fields (λ them. row_length them ≤ 0)
    → row_made fields lead packet ≡ None
made_none None lead packet fits = refl
made_none (Some fields) lead packet fits = absurd (omega (arith, fits))

-- ---- the events and octets of an item, at most

module _ (chosen : Chosen) where
  own_few : (at : ℕ) (x : Item) (e : Entries) → length (packet_events chosen at x) + length (noted_events e x) ≤ event_count x
  own_few at (Packet seen channel first place octets) e =
      let application : ℕ = (packet_header_of octets).application in
      let own = packet_events chosen at (Packet seen channel first place octets) in
      let notes = notes_of e (sent channel octets) in
      let one : length own ≤ 1 = if_few (gives chosen.only application) _ _ 1 (omega arith) (omega arith) in
      omega (arith, one, notes_few e (sent channel octets), length-map notes (note_event seen channel application))
  own_few at _ e = omega arith

  item_length : (at : ℕ) (e : Entries) (x : Item) → length (item_events chosen at e x)
      ≡ length (packet_events chosen at x) + length (noted_events e x) + length (row_events chosen (at + length (own_octets chosen x)) x)
  item_length at e x =
      let far : ℕ = at + length (own_octets chosen x) in
      omega (
        arith,
        length-append (packet_events chosen at x) (noted_events e x ++ row_events chosen far x),
        length-append (noted_events e x) (row_events chosen far x),
      )

  rows_few : (at : ℕ) (x : Item) → length (row_events chosen at x) ≤ packet_count x
  rows_few at (Packet seen channel first place octets) =
      made_few at first place (lead_of seen channel octets) octets (packet_row chosen seen channel octets)
  rows_few at _ = omega arith

  pub all_few : (at : ℕ) (e : Entries) (xs : List Item) → length (events_of chosen at e xs) ≤ event_counts xs + packet_counts xs
  all_few at e [] = omega arith
  all_few at e (x ∷ xs) =
      let n : ℕ = at + length (item_octets chosen x) in
      omega (
        arith,
        sum_by-cons event_count x xs,
        sum_by-cons packet_count x xs,
        length-append (item_events chosen at e x) (events_of chosen n (noted e x) xs),
        item_length at e x,
        own_few at x e,
        rows_few (at + length (own_octets chosen x)) x,
        all_few n (noted e x) xs,
      )

  own_octets_few : (x : Item) → length (own_octets chosen x) ≤ packet_size x
  own_octets_few (Packet seen channel first place octets) =
      if_few (gives chosen.only (packet_header_of octets).application) _ _ (length octets) (omega arith) (omega arith)
  own_octets_few _ = omega arith

  -- without packets there are no octets
  pub none_packed : (xs : List Item) → packet_counts xs ≡ 0 → length (packed_octets chosen xs) ≤ 0
  none_packed [] none = omega arith
  none_packed (Packet seen channel first place octets ∷ xs) none =
      absurd (omega (arith, none, sum_by-cons packet_count (Packet seen channel first place octets) xs))
  none_packed (x ∷ xs) none = omega (arith, none_packed xs (omega (arith, none, sum_by-cons packet_count x xs)))

  module _ (fits : FitRows chosen) where
    row_few : (x : Item) → length (row_given chosen x) ≤ row_size_of chosen.longest x
    row_few (Packet seen channel first place octets) =
        let application : ℕ = (packet_header_of octets).application in
        made_short (fields_for chosen application) chosen.longest (lead_of seen channel octets) octets (fits application)
    row_few _ = omega arith

    octets_few : (xs : List Item) → length (packed_octets chosen xs) ≤ packet_sizes xs + sum_by (row_size_of chosen.longest) xs
    octets_few [] = omega arith
    octets_few (x ∷ xs) =
        omega (
          arith,
          sum_by-cons packet_size x xs,
          sum_by-cons (row_size_of chosen.longest) x xs,
          length-append (item_octets chosen x) (packed_octets chosen xs),
          length-append (own_octets chosen x) (row_given chosen x),
          own_octets_few x,
          row_few x,
          octets_few xs,
        )

    -- rows of no octets are none
    no_rows : chosen.longest ≡ 0 → (at : ℕ) (x : Item) → length (row_events chosen at x) ≤ 0
    no_rows none at (Packet seen channel first place octets) =
        let application : ℕ = (packet_header_of octets).application in
        rw (made_none (fields_for chosen application) (lead_of seen channel octets) octets (rw none at (fits application))) (omega arith)
    no_rows none at _ = omega arith

    few_without : chosen.longest ≡ 0 → (at : ℕ) (e : Entries) (xs : List Item) → length (events_of chosen at e xs) ≤ event_counts xs
    few_without none at e [] = omega arith
    few_without none at e (x ∷ xs) =
        let n : ℕ = at + length (item_octets chosen x) in
        omega (
          arith,
          sum_by-cons event_count x xs,
          length-append (item_events chosen at e x) (events_of chosen n (noted e x) xs),
          item_length at e x,
          own_few at x e,
          no_rows none (at + length (own_octets chosen x)) x,
          few_without none n (noted e x) xs,
        )

    -- where the items are those of one record
    pub record_few : (at : ℕ) (e : Entries) (xs : List Item) → event_counts xs ≤ events_most
        → length (events_of chosen at e xs) ≤ all_events_most chosen.longest
    record_few at e xs most = elim (chosen.longest == 0) as (λ b. chosen.longest == 0 ≡ b → length (events_of chosen at e xs) ≤ (if b then events_most else events_most + packets_most)) [
      | true ↦ (λ none. omega (arith, most, few_without (eqb-true chosen.longest 0 none) at e xs))
      | false ↦ (λ some. omega (arith, most, all_few at e xs, packets_few xs))
    ] refl

    pub record_octets_few : (xs : List Item) (limit : ℕ) → event_counts xs ≤ events_most → packet_sizes xs ≤ limit + 2041
        → length (packed_octets chosen xs) ≤ octets_most limit chosen.longest
    record_octets_few xs limit most sizes =
        let few : packet_counts xs ≤ packets_most = omega (arith, most, packets_few xs) in
        let rows : chosen.longest * packet_counts xs ≤ chosen.longest * packets_most = mul-le-mul_left chosen.longest few in
        omega (arith, sizes, octets_few xs, sizes_of_rows chosen.longest xs, rows)

-- ---- a record for which there is room is not refused

module _ (p : Progress) (going : IsGoing p) (ranged : IsInRange p.rules.layout) (s : SinkState) (room : HasRoom p.rules.max_packet s) (octets : List ℕ) where
  abbrev its : List Item
  its = step_items p octets

  most : event_counts its ≤ events_most
  most = record-events p.rules p.state octets going.1 ranged.longest

  nothing_lacks : Lacks s (events_of s.fixture.chosen (length s.octets) s.entries its) (packed_octets s.fixture.chosen its) → ⊥
  nothing_lacks (inl h) = omega (arith, h, room.events, record_few s.fixture.chosen room.rows (length s.octets) s.entries its most)
  nothing_lacks (inr h) =
      omega (arith, h, room.octets, record_octets_few s.fixture.chosen room.rows its p.rules.max_packet most (record-sizes p.rules p.state octets going.1 ranged.longest))

  pub never_refused : {S F : Type 0} (known : S → SinkState) (q : Progress) (old new : S) (fault : StepFault F) → p.state.records < most_records
      → s ≡ known old → StepRefused known TakesAsEvents RefusesEvents p q old new its fault → ⊥
  never_refused known q old new (Sink f) few own refused =
      nothing_lacks (one_lacks s (known new) its f (subst (λ (k : SinkState). RefusesOne TakesAsEvents RefusesEvents k its f (known new)) (sym own) refused.3))
  never_refused known q old new Failed few own refused = cc (going.0, refused.0)
  never_refused known q old new TooMany few own refused = omega (arith, few, refused.1)
