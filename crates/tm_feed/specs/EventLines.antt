-- The line of an event: the one that the program prints.
use Rattle.std.specs.Prelude.{ℕ, zero, suc, ◌*◌, ◌==◌, not, Option, Some, None, List, [], ◌∷◌, slice_get, if◌then◌else◌}
use Rattle.std.specs.List.{flat_map}
use Rattle.std.specs.Option.{option_map, option_and_then, unwrap_or}
use Rattle.tm_frame.specs.Fault.{all_faults}
use Rattle.tm_packet.specs.declared.header.Flags.{Flags}
use Rattle.tm_packet.specs.declared.header.Flags.TheVariants as flags
use Rattle.tm_packet.specs.declared.notes.Note.{Note}
use Rattle.tm_packet.specs.declared.notes.Note.TheVariants as note
use Rattle.tm_packet.specs.declared.notes.Why.{Why}
use Rattle.tm_packet.specs.declared.notes.Why.TheVariants as why
use Rattle.tm_packet.specs.Header.{Fields, made_of}
use Rattle.tm_items.specs.Reasons.{all_reasons}
use Rattle.tm_lines.specs.Lines.{bad_line, drop_line, gap_line, master_gap_line, note_line, packet_line, short_line, short_packet_line, vca_line}
use Rattle.tm_feed.specs.declared.event.Event.{Event}

-- what has this number in a list that is numbered from 1
abbrev pub nth_of : {A : Type 0} → List A → ℕ → Option A
nth_of xs zero = None
nth_of xs (suc n) = slice_get xs n

-- as their two bits number them
abbrev pub all_flags : List Flags
all_flags = flags.Continuation ∷ flags.First ∷ flags.Last ∷ flags.Unsegmented ∷ []

abbrev pub all_whys : List Why
all_whys = why.Gap ∷ why.First ∷ why.Unsegmented ∷ why.Close ∷ []

-- the header of a packet, but for its length, which is no part of the line
abbrev pub header_told : Event → Flags → Option Fields
header_told e its_flags =
    made_of (record {
      telecommand = not (e.telecommand == 0);
      secondary = not (e.secondary == 0);
      application = e.application;
      flags = its_flags;
      count = e.count;
      data_length = 0;
    })

abbrev pub packet_told : Event → Option (List ℕ)
packet_told e =
    option_map (λ header. packet_line e.seen e.channel e.from e.place header e.octets)
    (option_and_then (header_told e) (slice_get all_flags e.flags))

-- the note of an event of these kinds
abbrev pub note_told : Event → Option Note
note_told e =
    if e.kind == 8 then Some (note.Gap e.expected e.found e.missing)
    else if e.kind == 9 then option_map (note.Broken e.expected e.found) (nth_of all_whys e.why)
    else if e.kind == 10 then Some (note.Whole e.expected e.found)
    else if e.kind == 11 then option_map (note.Stray e.count) (slice_get all_flags e.flags)
    else None

-- the line; none of a row, nor where the kind, a number that the line has as a word, or a part of a packet's header is out of range
abbrev pub event_line : Event → Option (List ℕ)
event_line e =
    if e.kind == 1 then packet_told e
    else if e.kind == 2 then option_map (bad_line e.seen) (nth_of all_faults e.why)
    else if e.kind == 3 then Some (master_gap_line e.seen e.expected e.found e.missing)
    else if e.kind == 4 then Some (gap_line e.seen e.channel e.expected e.found e.missing)
    else if e.kind == 5 then Some (vca_line e.seen e.channel)
    else if e.kind == 6 then option_map (drop_line e.seen e.channel e.from e.place e.octets) (nth_of all_reasons e.why)
    else if e.kind == 7 then Some (short_line e.seen e.octets)
    else if e.kind == 13 then Some (short_packet_line e.seen e.channel e.from e.place e.at (8 * e.octets))
    else option_map (note_line e.seen e.channel e.application) (note_told e)

-- ---- of several events

-- the line, if there is one
abbrev pub line_or_none : Event → List ℕ
line_or_none e = unwrap_or (event_line e) []

-- the lines of the packets
abbrev pub packet_lines : List Event → List ℕ
packet_lines events = flat_map (λ e. if e.kind == 1 then line_or_none e else []) events

-- the lines of all else, which the report has
abbrev pub report_lines : List Event → List ℕ
report_lines events = flat_map (λ e. if e.kind == 1 then [] else line_or_none e) events
