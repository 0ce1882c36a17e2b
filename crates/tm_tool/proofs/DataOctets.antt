-- The packets and dropped parts of a channel come to the octets of its joined data fields.
use Rattle.std.proofs.Common.{◌≡◌, ◌<◌, ◌+◌, ℕ, zero, suc, Bool, true, false, Option, None, Some, List, [], ◌∷◌, ◌++◌, length, refl, sym, ap, subst, ◌∙◌, arith, length-append, zero-add, ne_eqb, eq-eqb, Ok, Err, filter, sum_by, slice_get, nat_lt, if◌then◌else◌, ◌==◌}
use Rattle.std.proofs.lemmas.List.{length-map}
use Rattle.std.proofs.lemmas.List.Elements.{filter-append}
use Rattle.std.proofs.lemmas.List.Sums.{sum_by-append, sum_by-cons}
use Rattle.tm_frame.specs.declared.frame.Kind.{Kind}
use Rattle.tm_frame.specs.declared.frame.Kind.TheVariants as kind
use Rattle.tm_frame.specs.declared.layout.LayoutParts.{LayoutParts}
use Rattle.tm_frame.specs.Fault.{frame_reading_of}
use Rattle.tm_frame.specs.Frame.{GoodFrame}
use Rattle.tm_frame.specs.Layout.{record_length_of}
use Rattle.tm_frame.specs.Rules.{Rules, chooses}
use Rattle.tm_items.specs.Item.{Item, Gap, Vca, Dropped, Packet, Short}
use Rattle.tm_items.specs.Among.{is_of}
use Rattle.tm_reassembly.specs.Items.{close_channels, close_last, close_tail, closing, empty}
use Rattle.tm_reassembly.specs.Readings.{FrameReading}
use Rattle.tm_reassembly.specs.Recording.{after, items, readings}
use Rattle.tm_reassembly.specs.State.{Last, State, Tail}
use Rattle.tm_reassembly.specs.Tiles.{Covers, IsHeld, Spot, Tile, channel_spots, field_spots, held_tail, kind_spots, parts_of, record_spots, tail_of}
use Rattle.tm_reassembly.proofs.Raw.{raw-tiled}
use Rattle.tm_output.specs.Records.{records, rest_of}
use Rattle.tm_summary.specs.declared.channel.ChannelCounts.{ChannelCounts}
use Rattle.tm_summary.specs.Kinds.{drop_octets, is_joined_kind, packet_item_length}
use Rattle.tm_summary.specs.SummaryNumbers.{frames_of, in_all, items_on, joined_frames}
use Rattle.tm_summary.specs.Sums.{IsBelowGreatest, counts_on}
use Rattle.tm_summary.proofs.Summed.{counts_are}
use Rattle.tm_checkpoint.specs.Works.{new_job}
use Rattle.tm_tool.specs.SummaryNumbers.{summary_numbers}
use Rattle.tm_tool.specs.RunTotals.{frames_in, good_frames}
use Rattle.tm_tool.specs.Summaries.{closed_items, tally_of}

-- ---- the octets that items tell of

abbrev told_octets : Item → ℕ
told_octets x = packet_item_length x + drop_octets x

sums_both : {A : Type 0} (f g : A → ℕ) (xs : List A) → sum_by (λ x. f x + g x) xs ≡ sum_by f xs + sum_by g xs
sums_both f g [] = refl
sums_both f g (x ∷ xs) =
    rw (sum_by-cons (λ y. f y + g y) x xs, sum_by-cons f x xs, sum_by-cons g x xs) (omega (arith, sums_both f g xs))

module _ (channel : ℕ) where
  abbrev on_channel : List Item → ℕ
  on_channel xs = sum_by told_octets (filter (is_of channel) xs)

  told_append : (xs ys : List Item) → on_channel (xs ++ ys) ≡ on_channel xs + on_channel ys
  told_append xs ys = ap (sum_by told_octets) (filter-append (is_of channel) xs ys) ∙ sum_by-append told_octets (filter (is_of channel) xs) (filter (is_of channel) ys)

  -- an item in front, whether it is the channel's or another's
  told_one : (x : Item) (xs ys : List Item) (b : Bool) → sum_by told_octets xs ≡ sum_by told_octets ys
      → sum_by told_octets (if b then x ∷ xs else xs) ≡ sum_by told_octets (if b then x ∷ ys else ys)
  told_one x xs ys true same = rw (sum_by-cons told_octets x xs, sum_by-cons told_octets x ys, same) refl
  told_one x xs ys false same = same

  none_told : (x : Item) (xs : List Item) (b : Bool) → told_octets x ≡ 0 → sum_by told_octets (if b then x ∷ xs else xs) ≡ sum_by told_octets xs
  none_told x xs true none = rw (sum_by-cons told_octets x xs) (omega (arith, none))
  none_told x xs false none = refl

  -- packets and dropped parts alone tell of octets
  parts_told : (xs : List Item) → on_channel xs ≡ sum_by told_octets (parts_of channel xs)
  parts_told [] = refl
  parts_told (Gap seen own expected found missing ∷ xs) = none_told (Gap seen own expected found missing) (filter (is_of channel) xs) (own == channel) refl ∙ parts_told xs
  parts_told (Vca seen own ∷ xs) = none_told (Vca seen own) (filter (is_of channel) xs) (own == channel) refl ∙ parts_told xs
  parts_told (Dropped seen own first place octets reason ∷ xs) =
      told_one (Dropped seen own first place octets reason) (filter (is_of channel) xs) (parts_of channel xs) (own == channel) (parts_told xs)
  parts_told (Packet seen own first place octets ∷ xs) =
      told_one (Packet seen own first place octets) (filter (is_of channel) xs) (parts_of channel xs) (own == channel) (parts_told xs)
  parts_told (_ ∷ xs) = parts_told xs

-- ---- tiles

covered : (spots : List Spot) (x : Item) (rest : List Spot) → Covers spots x rest → length spots ≡ told_octets x + length rest
covered spots (Packet seen channel first place octets) rest h =
    let all : length spots ≡ length h.0 + length rest = ap length h.1 ∙ length-append h.0 rest in
    let own : length h.0 ≡ length octets = sym (length-map h.0 (λ (x : Spot). x.octet)) ∙ ap length h.2 in
    omega (arith, all, own)
covered spots (Dropped seen channel first place octets reason) rest h =
    let all : length spots ≡ length h.0 + length rest = ap length h.1 ∙ length-append h.0 rest in
    omega (arith, all, h.2)
covered spots _ rest h = absurd h

tiles_told : (spots : List Spot) (xs : List Item) (rest : List Spot) → Tile spots xs rest → length spots ≡ sum_by told_octets xs + length rest
tiles_told spots [] rest h = ap length h ∙ sym (zero-add (length rest))
tiles_told spots (x ∷ xs) rest h =
    rw (sum_by-cons told_octets x xs) (omega (arith, covered spots x h.0 h.1, tiles_told h.0 xs rest h.2))

abbrev tail_octets : Option Tail → ℕ
tail_octets None = 0
tail_octets (Some t) = length t.octets

held_told : (tail : Option Tail) (rest : List Spot) → IsHeld tail rest → length rest ≡ tail_octets tail
held_told None rest h = ap length h
held_told (Some t) rest h = sym (length-map rest (λ (x : Spot). x.octet)) ∙ ap length h.0

-- ---- the closed end

module _ (channel number : ℕ) where
  close_tail_told : (own : ℕ) (tail : Option Tail) (b : Bool) → (own == channel) ≡ b
      → on_channel channel (close_tail number own tail) ≡ (if b then tail_octets tail else 0)
  close_tail_told own None true is = refl
  close_tail_told own None false is = refl
  close_tail_told own (Some t) true is = rw is (omega arith)
  close_tail_told own (Some t) false is = rw is refl

  -- what is held of one channel
  close_told : (own : ℕ) (last : Option Last) (b : Bool) → (own == channel) ≡ b
      → on_channel channel (close_last number own last) ≡ (if b then tail_octets (tail_of (Some last)) else 0)
  close_told own None b is = close_tail_told own None b is
  close_told own (Some last) b is = close_tail_told own last.tail b is

  -- for the channels from a number on
  past_told : (own : ℕ) (lasts : List (Option Last)) → channel < own → on_channel channel (close_channels number own lasts) ≡ 0
  past_told own [] h = refl
  past_told own (x ∷ xs) h =
      told_append channel (close_last number own x) (close_channels number (own + 1) xs)
      ∙ omega (arith, close_told own x false (ne_eqb own channel (λ e. omega (arith, e, h))), past_told (own + 1) xs (omega (arith, h)))

  channels_told : (k own : ℕ) (lasts : List (Option Last)) → channel ≡ own + k → on_channel channel (close_channels number own lasts) ≡ tail_octets (tail_of (slice_get lasts k))
  channels_told k own [] e = refl
  channels_told zero own (x ∷ xs) e =
      told_append channel (close_last number own x) (close_channels number (own + 1) xs)
      ∙ omega (arith, close_told own x true (eq-eqb own channel (omega (arith, e))), past_told (own + 1) xs (omega (arith, e)))
  channels_told (suc k) own (x ∷ xs) e =
      told_append channel (close_last number own x) (close_channels number (own + 1) xs)
      ∙ omega (arith, close_told own x false (ne_eqb own channel (λ same. omega (arith, e, same))), channels_told k (own + 1) xs (omega (arith, e)))

module _ (channel : ℕ) where
  short_told : (b : Bool) (seen octets : ℕ) → on_channel channel (if b then Short seen octets ∷ [] else []) ≡ 0
  short_told true seen octets = refl
  short_told false seen octets = refl

  closing_told : (s : State) (rest : ℕ) → on_channel channel (closing s rest) ≡ tail_octets (held_tail s channel)
  closing_told s rest =
      told_append channel (if nat_lt 0 rest then Short s.records rest ∷ [] else []) (close_channels s.records 0 s.channels)
      ∙ omega (arith, short_told (nat_lt 0 rest) s.records rest, channels_told channel s.records channel 0 s.channels (sym (zero-add channel)))

  -- ---- joined data fields

  abbrev joined_octets : List GoodFrame → ℕ
  joined_octets fs = sum_by (λ f. length f.field) (joined_frames (frames_of channel fs))

  joined_append : (fs gs : List GoodFrame) → joined_octets (fs ++ gs) ≡ joined_octets fs + joined_octets gs
  joined_append fs gs =
      ap (λ (hs : List GoodFrame). sum_by (λ (f : GoodFrame). length f.field) (joined_frames hs)) (filter-append (λ (f : GoodFrame). f.channel == channel) fs gs)
      ∙ ap (sum_by (λ (f : GoodFrame). length f.field)) (filter-append (λ (f : GoodFrame). is_joined_kind f.kind) (frames_of channel fs) (frames_of channel gs))
      ∙ sum_by-append (λ (f : GoodFrame). length f.field) (joined_frames (frames_of channel fs)) (joined_frames (frames_of channel gs))

  field_told : (number place : ℕ) (field : List ℕ) → length (field_spots number place field) ≡ length field
  field_told number place [] = refl
  field_told number place (x ∷ xs) = rw (field_told number (place + 1) xs) refl

  kind_told : (number : ℕ) (k : Kind) (field : List ℕ) → length (kind_spots number k field) ≡ (if is_joined_kind k then length field else 0)
  kind_told number (kind.Packets place) field = field_told number 0 field
  kind_told number kind.NoStart field = field_told number 0 field
  kind_told number _ field = refl

  frame_told : (number : ℕ) (f : GoodFrame) (b c : Bool) → (f.channel == channel) ≡ b → is_joined_kind f.kind ≡ c
      → length (record_spots channel number (Ok f)) ≡ joined_octets (f ∷ [])
  frame_told number f false c of holds = rw of refl
  frame_told number f true true of holds = rw (of, holds) (kind_told number f.kind f.field ∙ rw holds (omega arith))
  frame_told number f true false of holds = rw (of, holds) (kind_told number f.kind f.field ∙ rw holds refl)

  reading_told : (number : ℕ) (r : FrameReading) → length (record_spots channel number r) ≡ joined_octets (frames_in r)
  reading_told number (Err fault) = refl
  reading_told number (Ok f) = frame_told number f (f.channel == channel) (is_joined_kind f.kind) refl refl

  fields_told : (layout : LayoutParts) (number : ℕ) (rs : List (List ℕ)) → length (channel_spots channel number (readings layout rs)) ≡ joined_octets (good_frames layout rs)
  fields_told layout number [] = refl
  fields_told layout number (r ∷ rs) =
      let one : FrameReading = frame_reading_of layout r in
      rw (length-append (record_spots channel number one) (channel_spots channel (number + 1) (readings layout rs)))
      (rw (reading_told number one, fields_told layout (number + 1) rs) (sym (joined_append (frames_in one) (good_frames layout rs))))

  -- ---- all of them

  module _ (rules : Rules) (below : channel < 8) (chosen : chooses rules channel ≡ true) where
    all_told : (rs : List (List ℕ)) (rest : ℕ) → on_channel channel (closed_items (new_job rules).work rs rest) ≡ joined_octets (good_frames rules.layout rs)
    all_told rs rest =
        let (left, tile, held) = raw-tiled rules channel rs below chosen in
        let xs : List Item = items rules empty rs in
        let s : State = after rules empty rs in
        let laid = tiles_told (channel_spots channel 0 (readings rules.layout rs)) (parts_of channel xs) left tile in
        told_append channel xs (closing s rest)
        ∙ omega (arith, laid, held_told (held_tail s channel) left held, parts_told channel xs, closing_told s rest, fields_told rules.layout 0 rs)

    abbrev AddsUp : ChannelCounts → Type 0
    AddsUp c = IsBelowGreatest c.data_octets → c.octets + c.lost ≡ c.data_octets

    pub data_told : (recording : List ℕ) → AddsUp (counts_on channel (summary_numbers rules recording))
    unfolding summary_numbers in_all
    data_told recording =
        let rs : List (List ℕ) = records (record_length_of rules.layout) recording in
        let rest : ℕ = length (rest_of (record_length_of rules.layout) recording) in
        let xs : List Item = items_on channel (closed_items (new_job rules).work rs rest) in
        let all : sum_by packet_item_length xs + sum_by drop_octets xs ≡ joined_octets (good_frames rules.layout rs) =
        sym (sums_both packet_item_length drop_octets xs) ∙ all_told rs rest in
        subst AddsUp (sym (counts_are (tally_of (new_job rules).work rs rest) channel below)) (λ count. omega (arith, all, count))
