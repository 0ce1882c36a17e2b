-- The lines of a summary. Each ends with one line feed; numbers are decimal, without leading zeros.
use Rattle.std.specs.Prelude.{ℕ, ◌/◌, ◌%◌, ◌&&◌, nat_lt, Bool, List, [], ◌∷◌, ◌++◌, codes, filter, map, slice_index_or, if◌then◌else◌}
use Rattle.std.specs.Fmt.{decimal}
use Rattle.std.specs.List.{concat, flat_map}
use Rattle.tm_frame.specs.declared.fault.FrameFault.{FrameFault}
use Rattle.tm_frame.specs.declared.fault.FrameFault.TheVariants as fault
use Rattle.tm_frame.specs.Fault.{all_faults}
use Rattle.tm_frame.specs.FaultWords as fault_word
use Rattle.tm_items.specs.declared.items.Reason.{Reason}
use Rattle.tm_items.specs.declared.items.Reason.TheVariants as why
use Rattle.tm_items.specs.Reasons as reason
use Rattle.tm_items.specs.Reasons.{all_reasons}
use Rattle.tm_frame.specs.Channels.{is_chosen}
use Rattle.tm_summary.specs.declared.application.ApplicationCounts.{ApplicationCounts}
use Rattle.tm_summary.specs.declared.channel.ChannelCounts.{ChannelCounts}
use Rattle.tm_summary.specs.declared.channel.Loss.{Loss}
use Rattle.tm_summary.specs.Adding.{no_application, no_channel, no_loss}
use Rattle.tm_summary.specs.SummaryNumbers.{SummaryNumbers, below}

-- the whole records, those that are good frames, those that are bad, and the octets that are left
unfoldable pub recording_line : (records good bad rest : ℕ) → List ℕ
recording_line records good bad rest =
    concat (codes "recording records=" ∷ decimal records
    ∷ codes " good=" ∷ decimal good
    ∷ codes " bad=" ∷ decimal bad
    ∷ codes " rest=" ∷ decimal rest
    ∷ codes "\n" ∷ [])

-- the bad frames with a fault
unfoldable pub fault_line : FrameFault → ℕ → List ℕ
fault_line fault records =
    concat (codes "fault word=" ∷ fault_word.fault_word fault
    ∷ codes " records=" ∷ decimal records
    ∷ codes "\n" ∷ [])

-- the gaps of the master channel, and what is missing there
unfoldable pub master_line : (gaps missing : ℕ) → List ℕ
master_line gaps missing =
    concat (codes "master gaps=" ∷ decimal gaps
    ∷ codes " missing=" ∷ decimal missing
    ∷ codes "\n" ∷ [])

unfoldable pub channel_line : ℕ → ChannelCounts → List ℕ
channel_line channel c =
    concat (codes "channel channel=" ∷ decimal channel
    ∷ codes " frames=" ∷ decimal c.frames
    ∷ codes " idle=" ∷ decimal c.idle
    ∷ codes " vca=" ∷ decimal c.vca
    ∷ codes " gaps=" ∷ decimal c.gaps
    ∷ codes " missing=" ∷ decimal c.missing
    ∷ codes " packets=" ∷ decimal c.packets
    ∷ codes " octets=" ∷ decimal c.octets
    ∷ codes " dropped=" ∷ decimal c.dropped
    ∷ codes " lost=" ∷ decimal c.lost
    ∷ codes " data=" ∷ decimal c.data_octets
    ∷ codes "\n" ∷ [])

-- what is lost of a channel for a reason
unfoldable pub loss_line : ℕ → Reason → Loss → List ℕ
loss_line channel why l =
    concat (codes "loss channel=" ∷ decimal channel
    ∷ codes " reason=" ∷ reason.reason_word why
    ∷ codes " parts=" ∷ decimal l.parts
    ∷ codes " octets=" ∷ decimal l.octets
    ∷ codes "\n" ∷ [])

unfoldable pub application_line : (channel application : ℕ) → ApplicationCounts → List ℕ
application_line channel application a =
    concat (codes "application channel=" ∷ decimal channel
    ∷ codes " apid=" ∷ decimal application
    ∷ codes " packets=" ∷ decimal a.packets
    ∷ codes " octets=" ∷ decimal a.octets
    ∷ codes " first=" ∷ decimal a.first
    ∷ codes " last=" ∷ decimal a.last
    ∷ codes " gaps=" ∷ decimal a.gaps
    ∷ codes " missing=" ∷ decimal a.missing
    ∷ codes " groups=" ∷ decimal a.groups
    ∷ codes " broken=" ∷ decimal a.broken
    ∷ codes " strays=" ∷ decimal a.strays
    ∷ codes "\n" ∷ [])

-- the fault and the reason at a place, counted from 0
abbrev pub fault_at : ℕ → FrameFault
fault_at place = slice_index_or all_faults place fault.Crc

abbrev pub loss_reason_at : ℕ → Reason
loss_reason_at place = slice_index_or all_reasons place why.Pointer

-- a line where there is something of it
abbrev pub line_if : Bool → List ℕ → List (List ℕ)
line_if b line = if b then line ∷ [] else []

-- ---- the places of what came: each has a line

-- the numbers below n for which something is counted
unfoldable pub places_counted : ℕ → (ℕ → ℕ) → List ℕ
places_counted n counted = filter (λ place. nat_lt 0 (counted place)) (below n)

abbrev pub fault_places : List ℕ → List ℕ
fault_places faults = places_counted 8 (λ place. slice_index_or faults place 0)

abbrev pub loss_places : List Loss → List ℕ
loss_places losses = places_counted 7 (λ place. (slice_index_or losses place no_loss).parts)

-- each channel and application that had a whole packet
abbrev pub application_keys : List ApplicationCounts → List ℕ
application_keys applications = places_counted 16384 (λ key. (slice_index_or applications key no_application).packets)

-- ---- a line for each

unfoldable pub fault_lines : List ℕ → List (List ℕ)
fault_lines faults = map (λ place. fault_line (fault_at place) (slice_index_or faults place 0)) (fault_places faults)

unfoldable pub loss_lines : ℕ → List Loss → List (List ℕ)
loss_lines channel losses = map (λ place. loss_line channel (loss_reason_at place) (slice_index_or losses place no_loss)) (loss_places losses)

-- those of a channel that is chosen and had a good frame
abbrev pub channel_lines_of : List Bool → ℕ → ChannelCounts → List (List ℕ)
channel_lines_of chosen channel c =
    if is_chosen chosen channel && nat_lt 0 c.frames then channel_line channel c ∷ loss_lines channel c.losses else []

abbrev pub channel_lines_at : List Bool → List ChannelCounts → ℕ → List (List ℕ)
channel_lines_at chosen channels channel = channel_lines_of chosen channel (slice_index_or channels channel no_channel)

unfoldable pub channel_lines : List Bool → List ChannelCounts → List (List ℕ)
channel_lines chosen channels = flat_map (channel_lines_at chosen channels) (below 8)

abbrev pub line_of_key : ℕ → ApplicationCounts → List ℕ
line_of_key key a = application_line (key / 2048) (key % 2048) a

unfoldable pub application_lines : List ApplicationCounts → List (List ℕ)
application_lines applications = map (λ key. line_of_key key (slice_index_or applications key no_application)) (application_keys applications)

-- all lines, where these channels are chosen and there are so many records
abbrev pub summary_lines : List Bool → ℕ → SummaryNumbers → List (List ℕ)
summary_lines chosen records n =
    (recording_line records n.good n.bad n.rest ∷ [])
    ++ (fault_lines n.faults
    ++ ((master_line n.master_gaps n.master_missing ∷ [])
    ++ (channel_lines chosen n.channels
    ++ application_lines n.applications)))
