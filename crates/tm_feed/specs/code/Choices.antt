-- What a choice makes of a packet's row.
use Rattle.std.specs.Prelude.{◌≡◌, ℕ, Option, Some, None, List, length, Ok, Err}
use Rattle.tm_fields.specs.Numbers.{bits_in}
use Rattle.tm_fields.specs.declared.faults.RowFault.TheVariants.{ShortPacket}
use Rattle.tm_fields.specs.declared.field.Field.{Field}
use Rattle.tm_fields.specs.declared.lead.Lead.{Lead}
use Rattle.tm_feed.specs.Feeding.{row_made}
use Rattle.tm_feed.specs.States.{Chosen}
use Rattle.tm_feed.specs.declared.choice.Made.{Made}
use Rattle.tm_feed.specs.declared.choice.Made.TheVariants as made

-- what is chosen, and the row that was made last
pub record ChoiceState : Type 0 where
  pub chosen : Chosen
  pub row : List ℕ

-- what came of a packet's row, by the fields of its application
abbrev pub IsRowMade : Option (List Field) → Lead → List ℕ → Made → List ℕ → Type 0
IsRowMade fields lead packet made.Nothing row = fields ≡ None
IsRowMade fields lead packet (made.Row octets) row = (row_made fields lead packet ≡ Some (Ok row)) × (length row ≡ octets)
IsRowMade fields lead packet (made.Short needed) row = row_made fields lead packet ≡ Some (Err (ShortPacket needed (bits_in packet)))
