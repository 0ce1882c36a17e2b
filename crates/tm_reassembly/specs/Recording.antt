-- Raw records: the items that they give, and the state that they leave.
use Rattle.std.specs.Prelude.{ℕ, Bool, false, List, map, Ok, Err}
use Rattle.tm_frame.specs.declared.layout.LayoutParts.{LayoutParts}
use Rattle.tm_frame.specs.Fault.{frame_reading_of}
use Rattle.tm_reassembly.specs.Readings.{FrameReading}
use Rattle.tm_frame.specs.Rules.{Rules, chooses}
use Rattle.tm_items.specs.Item.{Item}
use Rattle.tm_reassembly.specs.State.{State}
use Rattle.tm_reassembly.specs.Items as read

-- each record, as it reads
abbrev pub readings : LayoutParts → List (List ℕ) → List FrameReading
readings layout records = map (frame_reading_of layout) records

-- the items of records that come after a state
unfoldable pub items : Rules → State → List (List ℕ) → List Item
items rules s records = read.items_of_readings rules.max_packet (chooses rules) s (readings rules.layout records)

-- the state after them
unfoldable pub after : Rules → State → List (List ℕ) → State
after rules s records = read.state_after_readings rules.max_packet (chooses rules) s (readings rules.layout records)

-- a record reads as a good frame of a chosen channel
abbrev pub is_chosen_reading : Rules → FrameReading → Bool
is_chosen_reading rules (Ok frame) = chooses rules frame.channel
is_chosen_reading rules (Err fault) = false

abbrev pub is_chosen_frame : Rules → List ℕ → Bool
is_chosen_frame rules octets = is_chosen_reading rules (frame_reading_of rules.layout octets)
