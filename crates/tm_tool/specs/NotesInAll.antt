-- The notes that a report has, from the whole list of the headers of its packets.
use Rattle.std.specs.Prelude.{◌≡◌, ℕ, List, [], ◌∷◌, ◌++◌, length, drop, slice_index_or}
use Rattle.std.specs.List.{flat_map}
use Rattle.tm_packet.specs.declared.notes.Note.{Note}
use Rattle.tm_packet.specs.Header.{packet_header_of}
use Rattle.tm_packet.specs.Merge.{Sent}
use Rattle.tm_packet.specs.Merge as sequence
use Rattle.tm_items.specs.Item.{Item, Packet}
use Rattle.tm_lines.specs.Lines.{note_lines}
use Rattle.tm_output.specs.Outputs.{Piece}
use Rattle.tm_output.specs.Pieces.{Texts, item_line, sent}
use Rattle.tm_checkpoint.specs.Works.{IsWork, Work}
use Rattle.tm_tool.specs.RecordingPieces.{items_of, record_pieces}

-- the packet in an item, if it is one
unfoldable pub sent_in : Item → List Sent
sent_in (Packet seen channel first place octets) = sent channel octets ∷ []
sent_in _ = []

-- the packets among items, in their order
abbrev pub sent_among : List Item → List Sent
sent_among xs = flat_map sent_in xs

-- what an item gives the report, if a packet has these notes
unfoldable pub report_with : List Note → Item → List ℕ
report_with notes (Packet seen channel first place octets) = note_lines seen channel (packet_header_of octets).application notes
report_with notes x = item_line x

module _ {A : Type 0} (text : Texts A) where
  -- the pieces of items, where the first packet has the first of these lists of notes, the next the next, and so on
  abbrev pub pieces_with : List (List Note) → List Item → List (Piece A)
  pieces_with notes [] = []
  pieces_with notes (x ∷ xs) =
      record { out = text.out x; report = report_with (slice_index_or notes 0 []) x ++ text.remark x }
      ∷ pieces_with (drop (length (sent_in x)) notes) xs

  -- the report of records has the notes of the whole list of their headers
  abbrev pub NotesAsInAll : Type 0
  NotesAsInAll = (w : Work) (rs : List (List ℕ)) → IsWork w →
      record_pieces text w rs ≡ pieces_with (sequence.notes w.entries (sent_among (items_of w rs))) (items_of w rs)
