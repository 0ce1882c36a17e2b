-- All numbers, of lists with one more in them.
use Rattle.std.proofs.Common.{◌≡◌, ℕ, ◌+◌, ◌-◌, ◌<◌, Bool, true, false, List, [], ◌∷◌, ◌++◌, length, map, replicate, refl, ap, ◌∙◌, arith, ne_eqb, eq-eqb}
use Rattle.std.specs.Prelude.{◌==◌, if◌then◌else◌}
use Rattle.std.proofs.lemmas.List.{map_push}
use Rattle.tm_frame.specs.Frame.{GoodFrame}
use Rattle.tm_frame.specs.declared.fault.FrameFault.{FrameFault}
use Rattle.tm_frame.specs.declared.fault.FrameFault.TheVariants as fault
use Rattle.tm_frame.specs.FaultWords.{fault_number}
use Rattle.tm_packet.specs.Header.{packet_header_of}
use Rattle.tm_packet.proofs.AfterValid.{header-range}
use Rattle.tm_packet.specs.declared.notes.Note.{Note}
use Rattle.tm_items.specs.Item.{Item, Bad, MasterGap, Gap, Vca, Dropped, Packet, Short}
use Rattle.tm_items.specs.Sinks.{ItemFits}
use Rattle.tm_summary.specs.declared.application.ApplicationCounts.{ApplicationCounts}
use Rattle.tm_summary.specs.declared.channel.ChannelCounts.{ChannelCounts}
use Rattle.tm_summary.specs.Adding.{drop_more, frame_more, gap_more, more_at, no_application, no_channel, note_more, packet_more, whole_more, with_frame, with_item, with_note}
use Rattle.tm_summary.specs.code.Places.{no_applications}
use Rattle.tm_summary.specs.Kinds.{Noted, has_fault, has_key}
use Rattle.tm_packet.specs.Merge.{pair_key}
use Rattle.tm_items.specs.Among.{is_of}
use Rattle.tm_summary.specs.SummaryNumbers.{Tally, and_frame, and_item, and_note, application_of, capped, channel_counts, frames_of, how_many, items_on, nothing, notes_at_key, numbers_of, packets_of, for_numbers, in_all}
use Rattle.tm_summary.proofs.OneMore.{application_packet, channel_drop, channel_frame, channel_gap, channel_packet, channel_vca, counted_more, filter_no, filter_yes, in_all_more, in_all_same, notes_more, table_filtered, with_one}
use Rattle.tm_summary.proofs.Tables.{table-more, table-same, table_all, table_none}

-- the numbers of nothing
pub nothing_counted : (channel : ChannelCounts) (applications : List ApplicationCounts) → channel ≡ no_channel → applications ≡ no_applications
    → record {
      good = 0;
      bad = 0;
      rest = 0;
      faults = replicate 8 0;
      master_gaps = 0;
      master_missing = 0;
      channels = replicate 8 channel;
      applications = applications;
    } ≡ numbers_of nothing
unfolding in_all
nothing_counted channel applications a b = rw (a, b, table_all {A = ℕ} 8 0, table_all 8 no_channel, table_none) refl

number_fits : (f : FrameFault) → (0 < fault_number f) × (fault_number f < 9)
number_fits fault.Crc = omega arith
number_fits _ = omega arith

module _ (t : Tally) where
  pub frame_counted : (f : GoodFrame) → f.channel < 8 → numbers_of (and_frame t f) ≡ with_frame (numbers_of t) f.channel f.kind (length f.field)
  unfolding with_frame
  frame_counted f below =
      rw (
        counted_more t.frames f,
        table_filtered 8 (λ (c : ℕ) (g : GoodFrame). g.channel == c) (λ (c : ℕ) (fs : List GoodFrame). channel_counts fs (items_on c t.items))
            t.frames f f.channel no_channel (λ c. frame_more c f.kind (length f.field)) (λ c. refl) below
            (λ fs. channel_frame fs (items_on f.channel t.items) f),
      ) refl

  -- ---- an item

  -- one of a channel that gives this more there
  more_channels : (x : Item) (channel : ℕ) (more : ChannelCounts → ChannelCounts) → ((c : ℕ) → is_of c x ≡ (channel == c)) → channel < 8
      → ((items : List Item) → channel_counts (frames_of channel t.frames) (items ++ x ∷ []) ≡ more (channel_counts (frames_of channel t.frames) items))
      → for_numbers 8 (λ c. channel_counts (frames_of c t.frames) (items_on c (t.items ++ x ∷ [])))
      ≡ more_at (for_numbers 8 (λ c. channel_counts (frames_of c t.frames) (items_on c t.items))) channel no_channel more
  more_channels x channel more =
      table_filtered 8 is_of (λ (c : ℕ) (xs : List Item). channel_counts (frames_of c t.frames) xs) t.items x channel no_channel more

  bad_counted : (seen : ℕ) (f : FrameFault) → numbers_of (and_item t (Bad seen f)) ≡ with_item (numbers_of t) (Bad seen f)
  unfolding with_item
  bad_counted seen f =
      let fits : (0 < fault_number f) × (fault_number f < 9) = number_fits f in
      rw (table-more 8 (fault_number f - 1)
      (λ n. how_many (has_fault (n + 1)) (t.items ++ Bad seen f ∷ [])) (λ n. how_many (has_fault (n + 1)) t.items) 0 (λ k. capped (k + 1))
      (λ n other. in_all_same (λ y. if has_fault (n + 1) y then 1 else 0) t.items (Bad seen f) (rw (ne_eqb (fault_number f) (n + 1) (λ e. other (omega (arith, e)))) refl))
      (omega (arith, fits))
      (in_all_more (λ y. if has_fault (fault_number f - 1 + 1) y then 1 else 0) t.items (Bad seen f)
      ∙ rw (eq-eqb (fault_number f) (fault_number f - 1 + 1) (omega (arith, fits))) refl))
      (simp with_one)

  vca_in_channel : (seen channel c : ℕ) (b : Bool) → (channel == c) ≡ b
      → channel_counts (frames_of c t.frames) (items_on c (t.items ++ Vca seen channel ∷ [])) ≡ channel_counts (frames_of c t.frames) (items_on c t.items)
  vca_in_channel seen channel c true is =
      ap (channel_counts (frames_of c t.frames)) (filter_yes (is_of c) t.items (Vca seen channel) is)
      ∙ channel_vca (frames_of c t.frames) (items_on c t.items) seen channel
  vca_in_channel seen channel c false is = ap (channel_counts (frames_of c t.frames)) (filter_no (is_of c) t.items (Vca seen channel) is)

  packet_counted : (seen channel first place : ℕ) (octets : List ℕ) → channel < 8
      → numbers_of (and_item t (Packet seen channel first place octets)) ≡ with_item (numbers_of t) (Packet seen channel first place octets)
  unfolding with_item
  packet_counted seen channel first place octets below =
      let key : ℕ = pair_key channel (packet_header_of octets).application in
      let inside : key < 16384 = omega (arith, below, (header-range octets).application) in
      rw (
        more_channels (Packet seen channel first place octets) channel (λ c. packet_more c (length octets)) (λ c. refl) below
            (λ items. channel_packet (frames_of channel t.frames) items seen channel first place octets),
        table_filtered 16384 has_key (λ (k : ℕ) (xs : List Item). application_of xs (notes_at_key k t.notes)) t.items
            (Packet seen channel first place octets) key no_application (λ a. whole_more a seen (length octets)) (λ k. refl) inside
            (λ xs. application_packet xs (notes_at_key key t.notes) seen channel first place octets),
      ) (simp with_one)

  -- of a VCA frame's item nothing is counted: its frame is
  pub item_counted : (x : Item) → ItemFits x → numbers_of (and_item t x) ≡ with_item (numbers_of t) x
  unfolding with_item
  item_counted (Bad seen fault) fits = bad_counted seen fault
  item_counted (MasterGap seen expected found missing) fits = simp with_one
  item_counted (Gap seen channel expected found missing) fits =
      rw (more_channels (Gap seen channel expected found missing) channel (λ c. gap_more c missing) (λ c. refl) fits
      (λ items. channel_gap (frames_of channel t.frames) items seen channel expected found missing)) (simp with_one)
  item_counted (Vca seen channel) fits =
      rw (table-same 8 (λ c. channel_counts (frames_of c t.frames) (items_on c (t.items ++ Vca seen channel ∷ [])))
      (λ c. channel_counts (frames_of c t.frames) (items_on c t.items))
      (λ c. vca_in_channel seen channel c (channel == c) refl)) (simp with_one)
  item_counted (Dropped seen channel first place octets reason) fits =
      rw (more_channels (Dropped seen channel first place octets reason) channel (λ c. drop_more c octets reason) (λ c. refl) fits
      (λ items. channel_drop (frames_of channel t.frames) items seen channel first place octets reason)) (simp with_one)
  item_counted (Packet seen channel first place octets) fits = packet_counted seen channel first place octets fits.0
  item_counted (Short seen octets) fits = simp with_one

  pub note_counted : (n : Noted) → n.key < 16384 → numbers_of (and_note t n) ≡ with_note (numbers_of t) n.key n.note
  unfolding with_note
  note_counted n below =
      let notes : List Noted → List Note = map (λ (m : Noted). m.note) in
      rw (table_filtered 16384 (λ (key : ℕ) (m : Noted). m.key == key)
      (λ (key : ℕ) (ns : List Noted). application_of (packets_of key t.items) (notes ns)) t.notes n n.key no_application (λ a. note_more a n.note) (λ key. refl) below
      (λ ns.
      ap (application_of (packets_of n.key t.items)) (map_push (λ (m : Noted). m.note) ns n)
      ∙ notes_more (packets_of n.key t.items) (notes ns) n.note)) refl
