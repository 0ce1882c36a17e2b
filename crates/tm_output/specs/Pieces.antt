-- The pieces of items: for each item what belongs to `out`, and its lines for the report.
use Rattle.std.specs.Prelude.{⊤, ℕ, Bool, ◌/◌, ◌%◌, List, [], ◌∷◌, ◌++◌, length, map}
use Rattle.std.specs.List.{flat_map}
use Rattle.std.specs.Int.{to_le_bytes, w16, w32}
use Rattle.tm_fields.specs.declared.field.Field.{Field}
use Rattle.tm_fields.specs.declared.rows.RowForm.{RowForm}
use Rattle.tm_fields.specs.declared.rows.RowForm.TheVariants.{Text, Binary}
use Rattle.tm_packet.specs.declared.notes.Note.{Note}
use Rattle.tm_packet.specs.declared.tracker.Unclosed.{Unclosed}
use Rattle.tm_packet.specs.Header.{packet_header_of}
use Rattle.tm_packet.specs.Merge as sequence
use Rattle.tm_packet.specs.Merge.{Entries, Sent}
use Rattle.tm_items.specs.Item.{Item, Bad, MasterGap, Gap, Vca, Dropped, Packet, Short}
use Rattle.tm_output.specs.declared.command.Command.{Command}
use Rattle.tm_output.specs.declared.command.Command.TheVariants.{Extract, Packets, Fields, BinaryPackets, BinaryFields}
use Rattle.tm_items.specs.Among.{is_packet_item}
use Rattle.tm_output.specs.FieldRows.{has_row, tabled, too_short}
use Rattle.tm_lines.specs.Lines.{bad_line, drop_line, gap_line, master_gap_line, note_line, note_lines, packet_line, short_line, vca_line}
use Rattle.tm_output.specs.Outputs.{Piece, Buffering, lines_buffering, octets_buffering}

-- the packet of a channel as its sequence counts see it
abbrev pub sent : ℕ → List ℕ → Sent
sent channel octets = record { channel = channel; header = packet_header_of octets }

-- the entries after an item: a packet's header is noted, and nothing else
unfoldable pub noted : Entries → Item → Entries
noted entries (Bad seen fault) = entries
noted entries (MasterGap seen expected found missing) = entries
noted entries (Gap seen channel expected found missing) = entries
noted entries (Vca seen channel) = entries
noted entries (Dropped seen channel first place octets reason) = entries
noted entries (Packet seen channel first place octets) = sequence.entries_after entries (sent channel octets ∷ [])
noted entries (Short seen octets) = entries

-- the notes of a packet
unfoldable pub notes_of : Entries → Sent → List Note
notes_of entries p = flat_map (λ ns. ns) (sequence.notes entries (p ∷ []))

-- the line of an item; a packet has none
unfoldable pub item_line : Item → List ℕ
item_line (Bad seen fault) = bad_line seen fault
item_line (MasterGap seen expected found missing) = master_gap_line seen expected found missing
item_line (Gap seen channel expected found missing) = gap_line seen channel expected found missing
item_line (Vca seen channel) = vca_line seen channel
item_line (Dropped seen channel first place octets reason) = drop_line seen channel first place octets reason
item_line (Packet seen channel first place octets) = []
item_line (Short seen octets) = short_line seen octets

-- an item that has a line
abbrev pub HasLine : Item → Type 0
HasLine (Packet seen channel first place octets) = ⊥
HasLine _ = ⊤

-- what an item gives the report: its line, and a packet the lines of its notes
unfoldable pub report_of : Entries → Item → List ℕ
report_of entries (Packet seen channel first place octets) =
    note_lines seen channel (packet_header_of octets).application (notes_of entries (sent channel octets))
report_of entries x = item_line x

-- what is given of an item: to `out`, and to the report after the item's line or notes; and whether it counts as a packet that is given
pub record Texts (A : Type 0) : Type 0 where
  pub out : Item → List A
  pub remark : Item → List ℕ
  pub given : Item → Bool

-- the octets of a packet
unfoldable pub packet_octets : Item → List ℕ
packet_octets (Packet seen channel first place octets) = octets
packet_octets _ = []

-- the line of a packet
unfoldable pub listed : Item → List ℕ
listed (Packet seen channel first place octets) = packet_line seen channel first place (packet_header_of octets) (length octets)
listed _ = []

-- The 16 octets before a packet in the binary form. They have the record that completes it, the one in which it begins and its place
-- there, its channel, a zero, and how many octets it has. Numbers have the least significant octet first.
abbrev pub packet_lead : (seen channel first place size : ℕ) → List ℕ
packet_lead seen channel first place size =
    to_le_bytes w32 seen ++ to_le_bytes w32 first ++ to_le_bytes w16 place ++ channel ∷ 0 ∷ to_le_bytes w32 size

-- the octets of a packet after them
unfoldable pub binary_packet : Item → List ℕ
binary_packet (Packet seen channel first place octets) = packet_lead seen channel first place (length octets) ++ octets
binary_packet _ = []

-- nothing more for the report
abbrev pub no_remark : Item → List ℕ
no_remark _ = []

-- a text of each packet, and nothing more for the report
abbrev pub packet_texts : (Item → List ℕ) → Texts ℕ
packet_texts text = record { out = text; remark = no_remark; given = is_packet_item }

-- the row of a packet in a form, and the line for one that is too short
abbrev pub rows_text : RowForm → List Field → ℕ → Texts ℕ
rows_text form fields application = record { out = tabled form fields application; remark = too_short fields application; given = has_row fields application }

-- what a command gives of an item
abbrev pub text_of : Command → Texts ℕ
text_of Extract = packet_texts packet_octets
text_of Packets = packet_texts listed
text_of (Fields definition application) = rows_text Text definition.now application
text_of BinaryPackets = packet_texts binary_packet
text_of (BinaryFields definition application) = rows_text Binary definition.now application

-- how what a command gives is written
abbrev pub buffering_of : Command → Buffering
buffering_of Extract = octets_buffering
buffering_of Packets = octets_buffering
buffering_of (Fields definition application) = lines_buffering
buffering_of BinaryPackets = octets_buffering
buffering_of (BinaryFields definition application) = lines_buffering

-- ---- of items, by what is given of each

module _ {A : Type 0} (text : Texts A) where
  abbrev pub piece_of : Entries → Item → Piece A
  piece_of entries x = record { out = text.out x; report = report_of entries x ++ text.remark x }

  abbrev pub pieces_of : Entries → List Item → List (Piece A)
  pieces_of entries [] = []
  pieces_of entries (x ∷ xs) = piece_of entries x ∷ pieces_of (noted entries x) xs

abbrev pub noted_all : Entries → List Item → Entries
noted_all entries [] = entries
noted_all entries (x ∷ xs) = noted_all (noted entries x) xs

-- a group that is open at a closed end, after so many records
unfoldable pub unclosed_piece : {A : Type 0} → ℕ → Unclosed → Piece A
unclosed_piece seen u = record { out = []; report = note_line seen (u.key / 2048) (u.key % 2048) u.note }

-- those of all keys, by rising key
abbrev pub unclosed_pieces : {A : Type 0} → ℕ → List Unclosed → List (Piece A)
unclosed_pieces seen us = map (unclosed_piece seen) us
