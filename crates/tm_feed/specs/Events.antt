-- The events of items and notes. Each is numbers of fixed size: its kind, and what the kind has; all others are 0.
use Rattle.std.specs.Prelude.{ℕ, ◌+◌, Bool, length, if◌then◌else◌}
use Rattle.tm_frame.specs.FaultWords.{fault_number}
use Rattle.tm_packet.specs.declared.notes.Note.{Note}
use Rattle.tm_packet.specs.declared.notes.Note.TheVariants as note
use Rattle.tm_packet.specs.declared.notes.Why.{Why}
use Rattle.tm_packet.specs.declared.notes.Why.TheVariants as why
use Rattle.tm_packet.specs.Header.{flags_number, packet_header_of}
use Rattle.tm_fields.specs.declared.lead.Lead.{Lead}
use Rattle.tm_items.specs.declared.items.Reason.{Reason}
use Rattle.tm_items.specs.Reasons.{reason_place}
use Rattle.tm_items.specs.Item.{Item, Bad, MasterGap, Gap, Vca, Dropped, Packet, Short}
use Rattle.tm_feed.specs.declared.event.Event.{Event}

-- an event of this kind at this record, whose other numbers are 0
abbrev pub blank : ℕ → ℕ → Event
blank kind seen = record {
  size = 48;
  seen = seen;
  from = 0;
  octets = 0;
  at = 0;
  place = 0;
  application = 0;
  count = 0;
  expected = 0;
  found = 0;
  missing = 0;
  kind = kind;
  channel = 0;
  flags = 0;
  telecommand = 0;
  secondary = 0;
  why = 0;
}

-- 1 for what holds
abbrev pub bit : Bool → ℕ
bit b = if b then 1 else 0

-- reasons are numbered from 1, in the order of the losses in a summary
abbrev pub reason_number : Reason → ℕ
reason_number reason = reason_place reason + 1

-- why a group is broken
abbrev pub why_number : Why → ℕ
why_number why.Gap = 1
why_number why.First = 2
why_number why.Unsegmented = 3
why_number why.Close = 4

-- the event of an item; the octets of a packet begin at this place of the room
abbrev pub item_event : ℕ → Item → Event
item_event at (Packet seen channel first place octets) =
    let h = packet_header_of octets in
    record (blank 1 seen) {
      from = first;
      octets = length octets;
      at = at;
      place = place;
      application = h.application;
      count = h.count;
      channel = channel;
      flags = flags_number h.flags;
      telecommand = bit h.telecommand;
      secondary = bit h.secondary;
    }
item_event at (Bad seen fault) = record (blank 2 seen) { why = fault_number fault }
item_event at (MasterGap seen expected found missing) = record (blank 3 seen) { expected = expected; found = found; missing = missing }
item_event at (Gap seen channel expected found missing) =
    record (blank 4 seen) { channel = channel; expected = expected; found = found; missing = missing }
item_event at (Vca seen channel) = record (blank 5 seen) { channel = channel }
item_event at (Dropped seen channel first place octets reason) =
    record (blank 6 seen) { from = first; octets = octets; place = place; channel = channel; why = reason_number reason }
item_event at (Short seen octets) = record (blank 7 seen) { octets = octets }

-- the event of a note on the sequence counts of a channel and application
abbrev pub note_event : (seen channel application : ℕ) → Note → Event
note_event seen channel application (note.Gap expected found missing) =
    record (blank 8 seen) { application = application; channel = channel; expected = expected; found = found; missing = missing }
note_event seen channel application (note.Broken first last reason) =
    record (blank 9 seen) { application = application; channel = channel; expected = first; found = last; why = why_number reason }
note_event seen channel application (note.Whole first last) =
    record (blank 10 seen) { application = application; channel = channel; expected = first; found = last }
note_event seen channel application (note.Stray count flags) =
    record (blank 11 seen) { application = application; channel = channel; count = count; flags = flags_number flags }

-- the event of a row of so many octets, which begin at this place of the room
abbrev pub row_event : ℕ → Lead → ℕ → Event
row_event at lead octets =
    record (blank 12 lead.seen) { octets = octets; at = at; application = lead.application; count = lead.count; channel = lead.channel }

-- the event of a packet that has fewer bits than its fields need
abbrev pub short_packet_event : (first place : ℕ) → Lead → (needed octets : ℕ) → Event
short_packet_event first place lead needed octets =
    record (blank 13 lead.seen) {
      from = first;
      octets = octets;
      at = needed;
      place = place;
      application = lead.application;
      count = lead.count;
      channel = lead.channel;
    }
