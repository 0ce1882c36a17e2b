-- What a run gave and lost, in numbers: with one item more, and with many.
use Rattle.std.specs.Prelude.{ℕ, ◌+◌, ◌-◌, ◌%◌, ◌^◌, ◌||◌, min, Bool, true, false, List, [], ◌∷◌, replicate, if◌then◌else◌}
use Rattle.std.specs.List.{list_any}
use Rattle.tm_packet.specs.declared.notes.Note.{Note}
use Rattle.tm_packet.specs.declared.notes.Note.TheVariants as note
use Rattle.tm_packet.specs.declared.tracker.Unclosed.{Unclosed}
use Rattle.tm_packet.specs.Merge.{Entries}
use Rattle.tm_items.specs.Item.{Item, Bad, MasterGap, Gap, Vca, Dropped, Packet, Short}
use Rattle.tm_output.specs.Pieces.{Texts, noted, notes_of, sent}
use Rattle.tm_output.specs.declared.totals.Totals.{Totals}

-- a number that would be over 2^64 - 1 stays there
abbrev pub capped : ℕ → ℕ
capped n = min n (2 ^ 64 - 1)

-- nothing yet
abbrev pub no_totals : Totals
no_totals = record { good = 0; bad = 0; missing = 0; dropped = 0; packets = 0; short = 0; has_losses = false; absent = replicate 8 false }

-- there is something of a text
abbrev pub is_some_text : List ℕ → Bool
is_some_text [] = false
is_some_text (x ∷ xs) = true

-- a note tells a loss: any but that of a whole group
abbrev pub note_tells_loss : Note → Bool
note_tells_loss (note.Whole first last) = false
note_tells_loss _ = true

abbrev pub notes_tell_loss : List Note → Bool
notes_tell_loss notes = list_any note_tells_loss notes

-- with a record more, which may be a good frame of a chosen channel
abbrev pub with_record : Totals → Bool → Totals
with_record t chosen = record t { good = if chosen then capped (t.good + 1) else t.good }

-- with a line more that tells a loss
abbrev pub with_loss : Totals → Totals
with_loss t = record t { has_losses = true }

-- With a packet more: whether it is given, whether the report says that it is too short, and whether its notes tell a loss. The number
-- of packets is that modulo 2^64.
abbrev pub totals_with_packet : Totals → (given short lost : Bool) → Totals
totals_with_packet t given short lost = record t {
  packets = if given then (t.packets + 1) % 2 ^ 64 else t.packets;
  short = if short then capped (t.short + 1) else t.short;
  has_losses = t.has_losses || (lost || short);
}

-- with an item more that has a line
unfoldable pub with_line : Totals → Item → Totals
with_line t (Bad seen fault) = with_loss (record t { bad = capped (t.bad + 1) })
with_line t (MasterGap seen expected found missing) = with_loss (record t { missing = capped (t.missing + missing) })
with_line t (Gap seen channel expected found missing) = with_loss t
with_line t (Vca seen channel) = t
with_line t (Dropped seen channel first place octets reason) = with_loss (record t { dropped = capped (t.dropped + octets) })
with_line t (Packet seen channel first place octets) = t
with_line t (Short seen octets) = t

module _ {A : Type 0} (text : Texts A) where
  -- with an item more
  unfoldable pub totals_with_item : Entries → Totals → Item → Totals
  totals_with_item entries t (Packet seen channel first place octets) =
      totals_with_packet t (text.given (Packet seen channel first place octets)) (is_some_text (text.remark (Packet seen channel first place octets)))
      (notes_tell_loss (notes_of entries (sent channel octets)))
  totals_with_item entries t x = with_line t x

  -- with these items more
  abbrev pub totals_with_items : Entries → Totals → List Item → Totals
  totals_with_items entries t [] = t
  totals_with_items entries t (x ∷ xs) = totals_with_items (noted entries x) (totals_with_item entries t x) xs

-- with the lines of these groups more that are open at a closed end
abbrev pub with_unclosed : Totals → List Unclosed → Totals
with_unclosed t [] = t
with_unclosed t (u ∷ us) = with_unclosed (with_loss t) us
