-- The printed lines. Each ends with one line feed; numbers are decimal, without leading zeros.
use Rattle.std.specs.Prelude.{ℕ, Bool, List, [], ◌∷◌, ◌++◌, length, codes, if◌then◌else◌}
use Rattle.std.specs.Fmt.{decimal}
use Rattle.std.specs.List.{concat}
use Rattle.tm_frame.specs.declared.fault.FrameFault.{FrameFault}
use Rattle.tm_frame.specs.declared.frame.Kind.{Kind}
use Rattle.tm_frame.specs.declared.frame.Kind.TheVariants.{Packets, NoStart, Idle, Vca}
use Rattle.tm_frame.specs.FaultWords.{fault_word}
use Rattle.tm_frame.specs.Frame.{GoodFrame}
use Rattle.tm_packet.specs.declared.header.Flags.{Flags}
use Rattle.tm_packet.specs.declared.header.Flags.TheVariants.{Continuation, First, Last, Unsegmented}
use Rattle.tm_packet.specs.declared.notes.Note.{Note}
use Rattle.tm_packet.specs.declared.notes.Note.TheVariants as note
use Rattle.tm_packet.specs.declared.notes.Why.{Why}
use Rattle.tm_packet.specs.declared.notes.Why.TheVariants as why
use Rattle.tm_packet.specs.Header.{Fields}
use Rattle.tm_items.specs.declared.items.Reason.{Reason}
use Rattle.tm_items.specs.Reasons as reason

abbrev pub kind_word : Kind → List ℕ
kind_word (Packets place) = codes "packets"
kind_word NoStart = codes "nostart"
kind_word Idle = codes "idle"
kind_word Vca = codes "vca"

-- the place of the first packet, or a dash where there is none
abbrev pub place_text : Kind → List ℕ
place_text (Packets place) = decimal place
place_text NoStart = codes "-"
place_text Idle = codes "-"
place_text Vca = codes "-"

abbrev pub yes_or_no : Bool → List ℕ
yes_or_no b = if b then codes "yes" else codes "no"

abbrev pub bit_text : Bool → List ℕ
bit_text b = if b then codes "1" else codes "0"

-- the line of a good frame in record `seen`
unfoldable pub frame_line : ℕ → GoodFrame → List ℕ
frame_line seen f =
    concat (codes "frame record=" ∷ decimal seen
    ∷ codes " channel=" ∷ decimal f.channel
    ∷ codes " master=" ∷ decimal f.master_count
    ∷ codes " count=" ∷ decimal f.count
    ∷ codes " kind=" ∷ kind_word f.kind
    ∷ codes " place=" ∷ place_text f.kind
    ∷ codes " secondary=" ∷ decimal f.secondary_length
    ∷ codes " ocf=" ∷ yes_or_no f.has_ocf
    ∷ codes " order=" ∷ bit_text f.order_flag
    ∷ codes " segment=" ∷ decimal f.segment
    ∷ codes " octets=" ∷ decimal (length f.field)
    ∷ codes "\n" ∷ [])

-- the line of a bad frame
unfoldable pub bad_line : ℕ → FrameFault → List ℕ
bad_line seen fault = concat (codes "bad record=" ∷ decimal seen ∷ codes " fault=" ∷ fault_word fault ∷ codes "\n" ∷ [])

-- the line of octets that are left after `seen` records
unfoldable pub short_line : ℕ → ℕ → List ℕ
short_line seen octets = concat (codes "short record=" ∷ decimal seen ∷ codes " octets=" ∷ decimal octets ∷ codes "\n" ∷ [])

-- ---- packets

-- the packet type (CCSDS 133.0-B-2, 4.1.3.3.2)
abbrev pub type_word : Bool → List ℕ
type_word telecommand = if telecommand then codes "tc" else codes "tm"

-- the sequence flags (CCSDS 133.0-B-2, 4.1.3.4.2)
abbrev pub flags_word : Flags → List ℕ
flags_word Continuation = codes "continuation"
flags_word First = codes "first"
flags_word Last = codes "last"
flags_word Unsegmented = codes "unsegmented"

-- the line of a packet of this header and so many octets that begins in the record `first`, at this place of its data field
unfoldable pub packet_line : (seen channel first place : ℕ) → Fields → ℕ → List ℕ
packet_line seen channel first place h octets =
    concat (codes "packet record=" ∷ decimal seen
    ∷ codes " channel=" ∷ decimal channel
    ∷ codes " from=" ∷ decimal first
    ∷ codes " at=" ∷ decimal place
    ∷ codes " type=" ∷ type_word h.telecommand
    ∷ codes " secondary=" ∷ yes_or_no h.secondary
    ∷ codes " apid=" ∷ decimal h.application
    ∷ codes " flags=" ∷ flags_word h.flags
    ∷ codes " count=" ∷ decimal h.count
    ∷ codes " octets=" ∷ decimal octets
    ∷ codes "\n" ∷ [])

-- ---- the report

-- the line of a gap in the counts of a channel's frames
unfoldable pub gap_line : (seen channel expected found missing : ℕ) → List ℕ
gap_line seen channel expected found missing =
    concat (codes "gap record=" ∷ decimal seen
    ∷ codes " channel=" ∷ decimal channel
    ∷ codes " expected=" ∷ decimal expected
    ∷ codes " found=" ∷ decimal found
    ∷ codes " missing=" ∷ decimal missing
    ∷ codes "\n" ∷ [])

-- the line of a gap in the counts of the master channel
unfoldable pub master_gap_line : (seen expected found missing : ℕ) → List ℕ
master_gap_line seen expected found missing =
    concat (codes "mastergap record=" ∷ decimal seen
    ∷ codes " expected=" ∷ decimal expected
    ∷ codes " found=" ∷ decimal found
    ∷ codes " missing=" ∷ decimal missing
    ∷ codes "\n" ∷ [])

-- the line of a VCA frame
unfoldable pub vca_line : (seen channel : ℕ) → List ℕ
vca_line seen channel = concat (codes "vca record=" ∷ decimal seen ∷ codes " channel=" ∷ decimal channel ∷ codes "\n" ∷ [])

-- the line of a dropped part
unfoldable pub drop_line : (seen channel first place octets : ℕ) → Reason → List ℕ
drop_line seen channel first place octets why =
    concat (codes "drop record=" ∷ decimal seen
    ∷ codes " channel=" ∷ decimal channel
    ∷ codes " from=" ∷ decimal first
    ∷ codes " at=" ∷ decimal place
    ∷ codes " octets=" ∷ decimal octets
    ∷ codes " reason=" ∷ reason.reason_word why
    ∷ codes "\n" ∷ [])

-- the line of a packet of too few bits for its fields
unfoldable pub short_packet_line : (seen channel first place needed found : ℕ) → List ℕ
short_packet_line seen channel first place needed found =
    concat (codes "shortpacket record=" ∷ decimal seen
    ∷ codes " channel=" ∷ decimal channel
    ∷ codes " from=" ∷ decimal first
    ∷ codes " at=" ∷ decimal place
    ∷ codes " needed=" ∷ decimal needed
    ∷ codes " found=" ∷ decimal found
    ∷ codes "\n" ∷ [])

-- why a group is broken
abbrev pub why_word : Why → List ℕ
why_word why.Gap = codes "gap"
why_word why.First = codes "first"
why_word why.Unsegmented = codes "unsegmented"
why_word why.Close = codes "end"

-- the line of a note on the sequence counts of a channel and application
unfoldable pub note_line : (seen channel application : ℕ) → Note → List ℕ
note_line seen channel application (note.Gap expected found missing) =
    concat (codes "seqgap record=" ∷ decimal seen
    ∷ codes " channel=" ∷ decimal channel
    ∷ codes " apid=" ∷ decimal application
    ∷ codes " expected=" ∷ decimal expected
    ∷ codes " found=" ∷ decimal found
    ∷ codes " missing=" ∷ decimal missing
    ∷ codes "\n" ∷ [])
note_line seen channel application (note.Broken first last reason) =
    concat (codes "broken record=" ∷ decimal seen
    ∷ codes " channel=" ∷ decimal channel
    ∷ codes " apid=" ∷ decimal application
    ∷ codes " first=" ∷ decimal first
    ∷ codes " last=" ∷ decimal last
    ∷ codes " reason=" ∷ why_word reason
    ∷ codes "\n" ∷ [])
note_line seen channel application (note.Whole first last) =
    concat (codes "group record=" ∷ decimal seen
    ∷ codes " channel=" ∷ decimal channel
    ∷ codes " apid=" ∷ decimal application
    ∷ codes " first=" ∷ decimal first
    ∷ codes " last=" ∷ decimal last
    ∷ codes "\n" ∷ [])
note_line seen channel application (note.Stray count flags) =
    concat (codes "stray record=" ∷ decimal seen
    ∷ codes " channel=" ∷ decimal channel
    ∷ codes " apid=" ∷ decimal application
    ∷ codes " count=" ∷ decimal count
    ∷ codes " flag=" ∷ flags_word flags
    ∷ codes "\n" ∷ [])

-- the lines of notes, in their order
abbrev pub note_lines : (seen channel application : ℕ) → List Note → List ℕ
note_lines seen channel application [] = []
note_lines seen channel application (n ∷ ns) = note_line seen channel application n ++ note_lines seen channel application ns
