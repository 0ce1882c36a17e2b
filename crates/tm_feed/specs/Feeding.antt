-- What records give to a caller's two rooms: events, and the octets of packets and rows.
use Rattle.std.specs.Prelude.{ℕ, ◌+◌, Bool, false, Option, Some, None, List, [], ◌∷◌, ◌++◌, length, map, slice_index_or, if◌then◌else◌, Result, Ok, Err}
use Rattle.std.specs.Option.{option_map}
use Rattle.tm_packet.specs.Header.{packet_header_of}
use Rattle.tm_packet.specs.Merge.{Entries}
use Rattle.tm_fields.specs.Rows.{row_from}
use Rattle.tm_fields.specs.declared.faults.RowFault.{RowFault}
use Rattle.tm_fields.specs.declared.faults.RowFault.TheVariants.{ShortPacket, NoMemory}
use Rattle.tm_fields.specs.declared.field.Field.{Field}
use Rattle.tm_fields.specs.declared.lead.Lead.{Lead}
use Rattle.tm_fields.specs.declared.rows.RowForm.TheVariants.{Binary}
use Rattle.tm_items.specs.Item.{Item, Packet}
use Rattle.tm_output.specs.FieldRows.{lead_of}
use Rattle.tm_output.specs.Pieces.{noted, notes_of, sent}
use Rattle.tm_feed.specs.declared.event.Event.{Event}
use Rattle.tm_feed.specs.Events.{item_event, note_event, row_event, short_packet_event}
use Rattle.tm_feed.specs.States.{Chosen}

-- the application is one whose packets are given
abbrev pub gives : List Bool → ℕ → Bool
gives only application = slice_index_or only application false

-- the event of a packet, if those of its application are given; any other item has its event
abbrev pub packet_events : Chosen → ℕ → Item → List Event
packet_events chosen at (Packet seen channel first place octets) =
    if gives chosen.only (packet_header_of octets).application then item_event at (Packet seen channel first place octets) ∷ [] else []
packet_events chosen at x = item_event 0 x ∷ []

-- the octets of a packet that is given
abbrev pub own_octets : Chosen → Item → List ℕ
own_octets chosen (Packet seen channel first place octets) = if gives chosen.only (packet_header_of octets).application then octets else []
own_octets chosen x = []

-- the events of the notes of an item: those of a packet's sequence count
abbrev pub noted_events : Entries → Item → List Event
noted_events entries (Packet seen channel first place octets) =
    map (note_event seen channel (packet_header_of octets).application) (notes_of entries (sent channel octets))
noted_events entries x = []

-- ---- rows

-- the fields of the rows of an application, if it has a definition
abbrev pub fields_for : Chosen → ℕ → Option (List Field)
fields_for chosen application = slice_index_or chosen.rows application None

-- the row of a packet, as `tmx fields --binary` gives it, or how many bits the packet lacks; nothing without a definition
abbrev pub row_made : Option (List Field) → Lead → List ℕ → Option (Result (List ℕ) RowFault)
row_made fields lead packet = option_map (λ them. row_from Binary them lead packet) fields

-- the event of what came of a row: the row begins at this place of the room
abbrev pub made_events : (at first place : ℕ) → Lead → List ℕ → Option (Result (List ℕ) RowFault) → List Event
made_events at first place lead packet None = []
made_events at first place lead packet (Some (Ok row)) = row_event at lead (length row) ∷ []
made_events at first place lead packet (Some (Err (ShortPacket needed found))) = short_packet_event first place lead needed (length packet) ∷ []
made_events at first place lead packet (Some (Err NoMemory)) = []

-- its octets
abbrev pub made_octets : Option (Result (List ℕ) RowFault) → List ℕ
made_octets None = []
made_octets (Some (Ok row)) = row
made_octets (Some (Err fault)) = []

-- what came of the row of a packet
abbrev pub packet_row : Chosen → (seen channel : ℕ) → List ℕ → Option (Result (List ℕ) RowFault)
packet_row chosen seen channel octets = row_made (fields_for chosen (packet_header_of octets).application) (lead_of seen channel octets) octets

-- the event of the row of an item, or of a packet that is too short for one
abbrev pub row_events : Chosen → ℕ → Item → List Event
row_events chosen at (Packet seen channel first place octets) =
    made_events at first place (lead_of seen channel octets) octets (packet_row chosen seen channel octets)
row_events chosen at x = []

-- the octets of the row
abbrev pub row_given : Chosen → Item → List ℕ
row_given chosen (Packet seen channel first place octets) = made_octets (packet_row chosen seen channel octets)
row_given chosen x = []

-- ---- items

-- the octets of an item: those of a packet that is given, and then those of its row
abbrev pub item_octets : Chosen → Item → List ℕ
item_octets chosen x = own_octets chosen x ++ row_given chosen x

-- the events of an item, those of its notes, and then that of its row
abbrev pub item_events : Chosen → ℕ → Entries → Item → List Event
item_events chosen at entries x =
    packet_events chosen at x ++ (noted_events entries x ++ row_events chosen (at + length (own_octets chosen x)) x)

-- the events of items, from this place of the room of octets on
abbrev pub events_of : Chosen → ℕ → Entries → List Item → List Event
events_of chosen at entries [] = []
events_of chosen at entries (x ∷ xs) =
    item_events chosen at entries x ++ events_of chosen (at + length (item_octets chosen x)) (noted entries x) xs

-- their octets
abbrev pub packed_octets : Chosen → List Item → List ℕ
packed_octets chosen [] = []
packed_octets chosen (x ∷ xs) = item_octets chosen x ++ packed_octets chosen xs
