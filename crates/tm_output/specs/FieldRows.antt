-- Rows of fields: what a definition gives of the packets of one application.
use Rattle.std.specs.Prelude.{ℕ, ◌==◌, ◌&&◌, Bool, false, not, nat_lt, List, [], Result, Ok, Err, if◌then◌else◌}
use Rattle.tm_fields.specs.declared.faults.RowFault.{RowFault}
use Rattle.tm_fields.specs.declared.faults.RowFault.TheVariants.{ShortPacket, NoMemory}
use Rattle.tm_fields.specs.declared.field.Field.{Field}
use Rattle.tm_fields.specs.declared.lead.Lead.{Lead}
use Rattle.tm_fields.specs.declared.rows.RowForm.{RowForm}
use Rattle.tm_fields.specs.declared.rows.RowForm.TheVariants.{Text}
use Rattle.tm_fields.specs.Numbers.{bits_in}
use Rattle.tm_fields.specs.Rows.{bits_needed, row_from}
use Rattle.tm_packet.specs.Header.{packet_header_of}
use Rattle.tm_items.specs.Item.{Item, Packet}
use Rattle.tm_lines.specs.Lines.{short_packet_line}
use Rattle.tm_output.specs.Outputs.{FixedDrain}

-- what the row of a packet begins with
abbrev pub lead_of : ℕ → ℕ → List ℕ → Lead
lead_of seen channel octets =
    record { seen = seen; channel = channel; application = (packet_header_of octets).application; count = (packet_header_of octets).count }

-- the row, if the packet has one
abbrev pub row_or_none : Result (List ℕ) RowFault → List ℕ
row_or_none (Ok row) = row
row_or_none (Err fault) = []

-- the line of a packet that is too short
abbrev pub short_in : (seen channel first place : ℕ) → Result (List ℕ) RowFault → List ℕ
short_in seen channel first place (Ok row) = []
short_in seen channel first place (Err (ShortPacket needed found)) = short_packet_line seen channel first place needed found
short_in seen channel first place (Err NoMemory) = []

-- the row of a packet of the application, in a form
unfoldable pub tabled : RowForm → List Field → ℕ → Item → List ℕ
tabled form fields application (Packet seen channel first place octets) =
    if (packet_header_of octets).application == application then row_or_none (row_from form fields (lead_of seen channel octets) octets) else []
tabled form fields application _ = []

-- it is a packet of another application
unfoldable pub is_of_other : ℕ → Item → Bool
is_of_other application (Packet seen channel first place octets) = not ((packet_header_of octets).application == application)
is_of_other application _ = false

-- it has a row: it is of the application, and has all bits that the fields need
unfoldable pub has_row : List Field → ℕ → Item → Bool
has_row fields application (Packet seen channel first place octets) =
    ((packet_header_of octets).application == application) && not (nat_lt (bits_in octets) (bits_needed fields))
has_row fields application _ = false

-- the line of one that has fewer bits than the fields need
unfoldable pub too_short : List Field → ℕ → Item → List ℕ
too_short fields application (Packet seen channel first place octets) =
    if (packet_header_of octets).application == application then short_in seen channel first place (row_from Text fields (lead_of seen channel octets) octets) else []
too_short fields application _ = []

-- what stays the same of an outlet of rows: what does of its drain, the fields, and the application
pub record RowsBy : Type 0 where
  pub out : FixedDrain
  pub fields : List Field
  pub application : ℕ
