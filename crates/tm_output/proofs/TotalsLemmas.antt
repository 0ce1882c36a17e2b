-- What is counted of items, one by one and of many.
use Rattle.std.proofs.Common.{◌≡◌, ℕ, Bool, false, List, [], ◌∷◌, ◌++◌, refl, arith}
use Rattle.tm_packet.specs.declared.notes.Note.{Note}
use Rattle.tm_packet.specs.Header.{packet_header_of}
use Rattle.tm_packet.specs.declared.tracker.Unclosed.{Unclosed}
use Rattle.tm_packet.specs.Merge.{Entries}
use Rattle.tm_items.specs.Item.{Item, Packet}
use Rattle.tm_lines.specs.Lines.{note_lines}
use Rattle.tm_output.specs.Pieces.{HasLine, Texts, noted, noted_all, notes_of, report_of, sent}
use Rattle.tm_output.specs.Totals.{is_some_text, notes_tell_loss, totals_with_item, totals_with_items, with_line, with_loss, totals_with_packet, with_unclosed}
use Rattle.tm_output.specs.code.Quiet.{IsQuiet}
use Rattle.tm_output.specs.declared.totals.Totals.{Totals}
use Rattle.tm_output.proofs.PacketLemmas.{none_both, some_notes}

-- where there is no line there is no note
no_notes : (seen channel application : ℕ) (notes : List Note) → note_lines seen channel application notes ≡ [] → notes ≡ []
no_notes seen channel application [] e = refl
no_notes seen channel application (n ∷ ns) e = absurd (some_notes seen channel application (n ∷ ns) (omega arith) e)

module _ {A : Type 0} (text : Texts A) where
  -- a packet that the report says nothing of
  pub quiet_counted : (entries : Entries) (t : Totals) (seen channel first place : ℕ) (octets : List ℕ) (given : Bool)
      → IsQuiet text entries (Packet seen channel first place octets) → given ≡ text.given (Packet seen channel first place octets)
      → totals_with_packet t given false false ≡ totals_with_item text entries t (Packet seen channel first place octets)
  unfolding totals_with_item report_of
  quiet_counted entries t seen channel first place octets given quiet is =
      let none = none_both _ _ quiet in
      rw (no_notes seen channel (packet_header_of octets).application (notes_of entries (sent channel octets)) none.0, none.1, is) refl

  -- an item that has a line
  pub line_counted : (entries : Entries) (t : Totals) (x : Item) → HasLine x → with_line t x ≡ totals_with_item text entries t x
  unfolding totals_with_item
  line_counted entries t (Packet seen channel first place octets) has = absurd has
  line_counted entries t _ has = refl

  -- one more
  pub items_counted : (entries : Entries) (t : Totals) (xs : List Item) (x : Item)
      → totals_with_items text entries t (xs ++ x ∷ []) ≡ totals_with_item text (noted_all entries xs) (totals_with_items text entries t xs) x
  items_counted entries t [] x = refl
  items_counted entries t (y ∷ ys) x = items_counted (noted entries y) (totals_with_item text entries t y) ys x

  -- a packet that it may say something of
  pub reported_counted : (entries : Entries) (t : Totals) (seen channel first place : ℕ) (octets : List ℕ) (given short lost : Bool)
      → given ≡ text.given (Packet seen channel first place octets) → short ≡ is_some_text (text.remark (Packet seen channel first place octets))
      → lost ≡ notes_tell_loss (notes_of entries (sent channel octets))
      → totals_with_packet t given short lost ≡ totals_with_item text entries t (Packet seen channel first place octets)
  unfolding totals_with_item
  reported_counted entries t seen channel first place octets given short lost given_is short_is lost_is = rw (given_is, short_is, lost_is) refl

-- one more group that is open
pub unclosed_counted : (t : Totals) (us : List Unclosed) (u : Unclosed) → with_unclosed t (us ++ u ∷ []) ≡ with_loss (with_unclosed t us)
unclosed_counted t [] u = refl
unclosed_counted t (v ∷ vs) u = unclosed_counted (with_loss t) vs u
