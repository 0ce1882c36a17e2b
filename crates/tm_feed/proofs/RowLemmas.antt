-- A job with one definition gives what the program gives of it.
use Rattle.std.proofs.Common.{◌≡◌, ℕ, eqb, Bool, true, false, Option, Some, None, List, [], ◌∷◌, ◌++◌, refl, ap, ◌∙◌, append-nil}
use Rattle.std.specs.Prelude.{nat_lt, if◌then◌else◌, Ok, Err}
use Rattle.std.specs.List.{flat_map}
use Rattle.tm_fields.specs.Binary.{row_octets}
use Rattle.tm_fields.specs.Numbers.{bits_in}
use Rattle.tm_fields.specs.Rows.{bits_needed, row_from, row_of}
use Rattle.tm_fields.specs.declared.faults.RowFault.TheVariants.{ShortPacket}
use Rattle.tm_fields.specs.declared.field.Field.{Field}
use Rattle.tm_fields.specs.declared.lead.Lead.{Lead}
use Rattle.tm_fields.specs.declared.rows.RowForm.TheVariants.{Text, Binary}
use Rattle.tm_packet.specs.Header.{packet_header_of}
use Rattle.tm_packet.specs.Merge.{Entries}
use Rattle.tm_items.specs.Item.{Item, Packet}
use Rattle.tm_output.specs.FieldRows.{lead_of, row_or_none, short_in, tabled, too_short}
use Rattle.tm_output.specs.Pieces.{noted, pieces_of, rows_text}
use Rattle.tm_feed.specs.Choosing.{HasOneDefinition}
use Rattle.tm_feed.specs.EventLines.{report_lines}
use Rattle.tm_feed.specs.Feeding.{events_of, gives, made_events, made_octets, own_octets, packed_octets, row_events, row_given, row_made}
use Rattle.tm_feed.specs.States.{Chosen}
use Rattle.tm_feed.proofs.LineLemmas.{all_said}

module _ (fields : List Field) (seen channel first place : ℕ) (octets : List ℕ) where
  abbrev lead : Lead
  lead = lead_of seen channel octets

  -- a packet that is too short has the line of the command
  short_told : (at : ℕ) → report_lines (made_events at first place lead octets (row_made (Some fields) lead octets))
      ≡ short_in seen channel first place (row_from Text fields lead octets)
  short_told at =
      elim (nat_lt (bits_in octets) (bits_needed fields)) as (λ b. report_lines (made_events at first place lead octets (Some (if b then Err (ShortPacket (bits_needed fields) (bits_in octets)) else Ok (row_octets fields lead octets))))
      ≡ short_in seen channel first place (if b then Err (ShortPacket (bits_needed fields) (bits_in octets)) else Ok (row_of fields lead octets))) [
        | true ↦ append-nil _
        | false ↦ refl
      ]

  row_told : made_octets (row_made (Some fields) lead octets) ≡ row_or_none (row_from Binary fields lead octets)
  row_told =
      elim (nat_lt (bits_in octets) (bits_needed fields)) as (λ b. made_octets (Some (if b then Err (ShortPacket (bits_needed fields) (bits_in octets)) else Ok (row_octets fields lead octets)))
      ≡ row_or_none (if b then Err (ShortPacket (bits_needed fields) (bits_in octets)) else Ok (row_octets fields lead octets))) [
        | true ↦ refl
        | false ↦ refl
      ]

module _ (chosen : Chosen) (application : ℕ) (fields : List Field) (one : HasOneDefinition application fields chosen) where
  row_remarked : (at : ℕ) (x : Item) → report_lines (row_events chosen at x) ≡ too_short fields application x
  unfolding too_short
  row_remarked at (Packet seen channel first place octets) =
      let its : ℕ = (packet_header_of octets).application in
      let made : Option (List Field) → List ℕ = λ found. report_lines (made_events at first place (lead_of seen channel octets) octets (row_made found (lead_of seen channel octets) octets)) in
      ap made (one its)
      ∙ (elim (eqb its application) as (λ b. made (if b then Some fields else None) ≡ (if b then short_in seen channel first place (row_from Text fields (lead_of seen channel octets) octets) else [])) [
        | true ↦ short_told fields seen channel first place octets at
        | false ↦ refl
      ])
  row_remarked at _ = refl

  pub rows_said : (at : ℕ) (entries : Entries) (xs : List Item)
      → report_lines (events_of chosen at entries xs) ≡ flat_map (λ piece. piece.report) (pieces_of (rows_text Binary fields application) entries xs)
  rows_said at entries xs = all_said chosen (rows_text Binary fields application) row_remarked at entries xs

  module _ (none : (other : ℕ) → gives chosen.only other ≡ false) where
    row_packed : (x : Item) → own_octets chosen x ++ row_given chosen x ≡ tabled Binary fields application x
    unfolding tabled
    row_packed (Packet seen channel first place octets) =
        let its : ℕ = (packet_header_of octets).application in
        let made : Option (List Field) → List ℕ = λ found. made_octets (row_made found (lead_of seen channel octets) octets) in
        ap (λ (b : Bool). (if b then octets else []) ++ row_given chosen (Packet seen channel first place octets)) (none its)
        ∙ ap made (one its)
        ∙ (elim (eqb its application) as (λ b. made (if b then Some fields else None) ≡ (if b then row_or_none (row_from Binary fields (lead_of seen channel octets) octets) else [])) [
          | true ↦ row_told fields seen channel first place octets
          | false ↦ refl
        ])
    row_packed _ = refl

    pub rows_packed : (entries : Entries) (xs : List Item)
        → packed_octets chosen xs ≡ flat_map (λ piece. piece.out) (pieces_of (rows_text Binary fields application) entries xs)
    rows_packed entries [] = refl
    rows_packed entries (x ∷ xs) = rw (row_packed x, rows_packed (noted entries x) xs) refl

pub ruleset rows_given_by = (rows_said, rows_packed)
