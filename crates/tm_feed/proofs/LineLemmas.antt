-- What events say is what the program says.
use Rattle.std.proofs.Common.{◌≡◌, ℕ, eqb, Bool, true, false, ◌+◌, Option, Some, None, List, [], ◌∷◌, ◌++◌, length, map, refl, sym, ap, ◌∙◌, append_assoc, append-nil, arith}
use Rattle.std.specs.Prelude.{not, if◌then◌else◌, slice_get, Result, Ok, Err}
use Rattle.std.specs.List.{flat_map}
use Rattle.std.proofs.lemmas.Bool.{le-ltb}
use Rattle.std.proofs.lemmas.Grind.{flat_map-append}
use Rattle.std.proofs.lemmas.List.{get_or-replicate}
use Rattle.tm_packet.proofs.AfterValid.{header-range}
use Rattle.tm_packet.specs.declared.header.Flags.{Flags}
use Rattle.tm_packet.specs.declared.header.Flags.TheVariants.{Continuation, First, Last, Unsegmented}
use Rattle.tm_packet.specs.declared.notes.Note.{Note}
use Rattle.tm_packet.specs.declared.notes.Note.TheVariants as note
use Rattle.tm_packet.specs.declared.notes.Why.{Why}
use Rattle.tm_packet.specs.declared.notes.Why.TheVariants as why
use Rattle.tm_packet.specs.Header.{AreInRange, Fields, flags_number, packet_header_of}
use Rattle.tm_packet.specs.Merge.{Entries}
use Rattle.tm_frame.specs.declared.fault.FrameFault.{FrameFault}
use Rattle.tm_frame.specs.declared.fault.FrameFault.TheVariants as fault
use Rattle.tm_frame.specs.Fault.{all_faults}
use Rattle.tm_frame.specs.FaultWords.{fault_number}
use Rattle.tm_items.specs.declared.items.Reason.{Reason}
use Rattle.tm_items.specs.declared.items.Reason.TheVariants as reason
use Rattle.tm_items.specs.Reasons.{all_reasons}
use Rattle.tm_items.specs.Item.{Item, Bad, MasterGap, Gap, Vca, Dropped, Packet, Short}
use Rattle.tm_lines.specs.Lines.{note_line, note_lines, packet_line}
use Rattle.tm_output.specs.Pieces.{Texts, item_line, listed, no_remark, noted, notes_of, pieces_of, report_of, sent, text_of}
use Rattle.tm_output.specs.declared.command.Command.TheVariants.{Extract, Packets}
use Rattle.tm_feed.specs.EventLines.{all_flags, all_whys, event_line, nth_of, packet_lines, report_lines}
use Rattle.tm_feed.specs.Events.{bit, item_event, note_event, reason_number, why_number}
use Rattle.tm_feed.specs.Feeding.{events_of, gives, item_events, item_octets, made_events, noted_events, packet_events, own_octets, packet_row, row_events}
use Rattle.tm_feed.specs.Jobs.{all_given, without_rows}
use Rattle.tm_feed.specs.States.{Chosen}
use Rattle.tm_fields.specs.declared.faults.RowFault.{RowFault}
use Rattle.tm_fields.specs.declared.faults.RowFault.TheVariants.{ShortPacket, NoMemory}
use Rattle.tm_fields.specs.declared.lead.Lead.{Lead}
use Rattle.tm_output.specs.FieldRows.{lead_of}

-- ---- a number, and what has it

flags_back : (f : Flags) → slice_get all_flags (flags_number f) ≡ Some f
flags_back Continuation = refl
flags_back First = refl
flags_back Last = refl
flags_back Unsegmented = refl

fault_back : (f : FrameFault) → nth_of all_faults (fault_number f) ≡ Some f
fault_back fault.Crc = refl
fault_back fault.Version = refl
fault_back fault.Spacecraft = refl
fault_back fault.SecondaryFlag = refl
fault_back fault.OcfFlag = refl
fault_back fault.SecondaryVersion = refl
fault_back fault.Layout = refl
fault_back fault.Pointer = refl

reason_back : (r : Reason) → nth_of all_reasons (reason_number r) ≡ Some r
reason_back reason.Pointer = refl
reason_back reason.Gap = refl
reason_back reason.Vca = refl
reason_back reason.Close = refl
reason_back reason.NoStart = refl
reason_back reason.Version = refl
reason_back reason.Length = refl

why_back : (w : Why) → nth_of all_whys (why_number w) ≡ Some w
why_back why.Gap = refl
why_back why.First = refl
why_back why.Unsegmented = refl
why_back why.Close = refl

-- ---- one event

pub note_said : (seen channel application : ℕ) (n : Note) → event_line (note_event seen channel application n) ≡ Some (note_line seen channel application n)
note_said seen channel application (note.Gap expected found missing) = refl
note_said seen channel application (note.Broken first last w) = rw (why_back w) refl
note_said seen channel application (note.Whole first last) = refl
note_said seen channel application (note.Stray count f) = rw (flags_back f) refl

bit_back : (b : Bool) → not (eqb (bit b) 0) ≡ b
bit_back true = refl
bit_back false = refl

pub packet_said : (seen channel first place : ℕ) (octets : List ℕ) (at : ℕ)
    → event_line (item_event at (Packet seen channel first place octets)) ≡ Some (packet_line seen channel first place (packet_header_of octets) (length octets))
unfolding packet_line
packet_said seen channel first place octets at =
    let h : Fields = packet_header_of octets in
    let r : AreInRange h = header-range octets in
    rw (
      flags_back h.flags,
      le-ltb 2047 h.application (omega (arith, r.application)),
      le-ltb 16383 h.count (omega (arith, r.count)),
      bit_back h.telecommand,
      bit_back h.secondary,
    ) refl

-- ---- the events of an item

noted_silent : (seen channel application : ℕ) (notes : List Note) → packet_lines (map (note_event seen channel application) notes) ≡ []
noted_silent seen channel application [] = refl
noted_silent seen channel application (note.Gap expected found missing ∷ ns) = noted_silent seen channel application ns
noted_silent seen channel application (note.Broken first last w ∷ ns) = noted_silent seen channel application ns
noted_silent seen channel application (note.Whole first last ∷ ns) = noted_silent seen channel application ns
noted_silent seen channel application (note.Stray count f ∷ ns) = noted_silent seen channel application ns

noted_said : (seen channel application : ℕ) (notes : List Note)
    → report_lines (map (note_event seen channel application) notes) ≡ note_lines seen channel application notes
noted_said seen channel application [] = refl
noted_said seen channel application (note.Gap expected found missing ∷ ns) =
    ap (λ (l : List ℕ). note_line seen channel application (note.Gap expected found missing) ++ l) (noted_said seen channel application ns)
noted_said seen channel application (note.Broken first last w ∷ ns) =
    rw (why_back w) (ap (λ (l : List ℕ). note_line seen channel application (note.Broken first last w) ++ l) (noted_said seen channel application ns))
noted_said seen channel application (note.Whole first last ∷ ns) =
    ap (λ (l : List ℕ). note_line seen channel application (note.Whole first last) ++ l) (noted_said seen channel application ns)
noted_said seen channel application (note.Stray count f ∷ ns) =
    rw (flags_back f) (ap (λ (l : List ℕ). note_line seen channel application (note.Stray count f) ++ l) (noted_said seen channel application ns))

-- the report
module _ (chosen : Chosen) where
  own_silent : (at : ℕ) (seen channel first place : ℕ) (octets : List ℕ)
      → report_lines (packet_events chosen at (Packet seen channel first place octets)) ≡ []
  own_silent at seen channel first place octets =
      elim (gives chosen.only (packet_header_of octets).application) as (λ b. report_lines (if b then item_event at (Packet seen channel first place octets) ∷ [] else []) ≡ []) [
        | true ↦ refl
        | false ↦ refl
      ]

  own_reported : (at : ℕ) (entries : Entries) (x : Item)
      → report_lines (packet_events chosen at x) ++ report_lines (noted_events entries x) ≡ report_of entries x
  unfolding report_of item_line
  own_reported at entries (Packet seen channel first place octets) =
      rw (own_silent at seen channel first place octets) (noted_said seen channel _ _)
  own_reported at entries (Bad seen f) = rw (fault_back f) (append-nil _ ∙ append-nil _)
  own_reported at entries (MasterGap seen expected found missing) = append-nil _ ∙ append-nil _
  own_reported at entries (Gap seen channel expected found missing) = append-nil _ ∙ append-nil _
  own_reported at entries (Vca seen channel) = append-nil _ ∙ append-nil _
  own_reported at entries (Dropped seen channel first place octets r) = rw (reason_back r) (append-nil _ ∙ append-nil _)
  own_reported at entries (Short seen octets) = append-nil _ ∙ append-nil _

  module _ {A : Type 0} (text : Texts A) (remarked : (at : ℕ) (x : Item) → report_lines (row_events chosen at x) ≡ text.remark x) where
    item_reported : (at : ℕ) (entries : Entries) (x : Item) → report_lines (item_events chosen at entries x) ≡ report_of entries x ++ text.remark x
    item_reported at entries x =
        let far : ℕ = at + length (own_octets chosen x) in
        flat_map-append _ (packet_events chosen at x) (noted_events entries x ++ row_events chosen far x)
        ∙ ap (λ (l : List ℕ). report_lines (packet_events chosen at x) ++ l) (flat_map-append _ (noted_events entries x) (row_events chosen far x))
        ∙ sym (append_assoc (report_lines (packet_events chosen at x)) (report_lines (noted_events entries x)) (report_lines (row_events chosen far x)))
        ∙ rw (own_reported at entries x, remarked far x) refl

    pub all_said : (at : ℕ) (entries : Entries) (xs : List Item)
        → report_lines (events_of chosen at entries xs) ≡ flat_map (λ piece. piece.report) (pieces_of text entries xs)
    all_said at entries [] = refl
    all_said at entries (x ∷ xs) =
        flat_map-append _ (item_events chosen at entries x) (events_of chosen (at + length (item_octets chosen x)) (noted entries x) xs)
        ∙ rw (item_reported at entries x, all_said (at + length (item_octets chosen x)) (noted entries x) xs) refl

-- without rows
no_row_told : (only : List Bool) (at : ℕ) (x : Item) → report_lines (row_events (without_rows only) at x) ≡ no_remark x
no_row_told only at (Packet seen channel first place octets) = refl
no_row_told only at _ = refl

pub all_reported : (only : List Bool) (at : ℕ) (entries : Entries) (xs : List Item)
    → report_lines (events_of (without_rows only) at entries xs) ≡ flat_map (λ piece. piece.report) (pieces_of (text_of Extract) entries xs)
all_reported only at entries xs = all_said (without_rows only) (text_of Extract) (no_row_told only) at entries xs

-- the list of packets
its_given : (octets : List ℕ) → gives all_given (packet_header_of octets).application ≡ true
unfolding all_given
its_given octets = get_or-replicate 2048 (packet_header_of octets).application true false (omega (arith, (header-range octets).application))

made_silent : (at first place : ℕ) (lead : Lead) (packet : List ℕ) (made : Option (Result (List ℕ) RowFault))
    → packet_lines (made_events at first place lead packet made) ≡ []
made_silent at first place lead packet None = refl
made_silent at first place lead packet (Some (Ok row)) = refl
made_silent at first place lead packet (Some (Err (ShortPacket needed found))) = refl
made_silent at first place lead packet (Some (Err NoMemory)) = refl

module _ (chosen : Chosen) (all : chosen.only ≡ all_given) where
  rows_silent : (at : ℕ) (x : Item) → packet_lines (row_events chosen at x) ≡ []
  rows_silent at (Packet seen channel first place octets) =
      made_silent at first place (lead_of seen channel octets) octets (packet_row chosen seen channel octets)
  rows_silent at _ = refl

  own_listed : (at : ℕ) (entries : Entries) (x : Item)
      → packet_lines (packet_events chosen at x) ++ packet_lines (noted_events entries x) ≡ listed x
  unfolding listed
  own_listed at entries (Packet seen channel first place octets) =
      rw (all, its_given octets, packet_said seen channel first place octets at, noted_silent seen channel (packet_header_of octets).application (notes_of entries (sent channel octets)))
      (append-nil _ ∙ append-nil _)
  own_listed at entries (Bad seen f) = refl
  own_listed at entries (MasterGap seen expected found missing) = refl
  own_listed at entries (Gap seen channel expected found missing) = refl
  own_listed at entries (Vca seen channel) = refl
  own_listed at entries (Dropped seen channel first place octets r) = refl
  own_listed at entries (Short seen octets) = refl

  item_listed : (at : ℕ) (entries : Entries) (x : Item) → packet_lines (item_events chosen at entries x) ≡ listed x
  item_listed at entries x =
      let far : ℕ = at + length (own_octets chosen x) in
      flat_map-append _ (packet_events chosen at x) (noted_events entries x ++ row_events chosen far x)
      ∙ ap (λ (l : List ℕ). packet_lines (packet_events chosen at x) ++ l) (flat_map-append _ (noted_events entries x) (row_events chosen far x))
      ∙ sym (append_assoc (packet_lines (packet_events chosen at x)) (packet_lines (noted_events entries x)) (packet_lines (row_events chosen far x)))
      ∙ rw (own_listed at entries x, rows_silent far x) (append-nil (listed x))

  pub all_listed : (at : ℕ) (entries : Entries) (xs : List Item)
      → packet_lines (events_of chosen at entries xs) ≡ flat_map (λ piece. piece.out) (pieces_of (text_of Packets) entries xs)
  all_listed at entries [] = refl
  all_listed at entries (x ∷ xs) =
      flat_map-append _ (item_events chosen at entries x) (events_of chosen (at + length (item_octets chosen x)) (noted entries x) xs)
      ∙ rw (item_listed at entries x, all_listed (at + length (item_octets chosen x)) (noted entries x) xs) refl

pub ruleset lines_said = (note_said, all_reported, all_listed)
