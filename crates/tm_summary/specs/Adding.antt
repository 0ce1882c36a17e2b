-- The numbers with one frame, item or note more. The laws say that they are those of the lists with it.
use Rattle.std.specs.Prelude.{ℕ, ◌+◌, ◌-◌, ◌==◌, List, [], length, slice_set, slice_index_or, if◌then◌else◌}
use Rattle.tm_frame.specs.declared.fault.FrameFault.{FrameFault}
use Rattle.tm_frame.specs.declared.frame.Kind.{Kind}
use Rattle.tm_frame.specs.FaultWords.{fault_number}
use Rattle.tm_packet.specs.declared.notes.Note.{Note}
use Rattle.tm_packet.specs.declared.notes.Note.TheVariants as note
use Rattle.tm_packet.specs.Header.{packet_header_of}
use Rattle.tm_items.specs.declared.items.Reason.{Reason}
use Rattle.tm_items.specs.Item.{Item, Bad, MasterGap, Gap, Vca, Dropped, Packet, Short}
use Rattle.tm_summary.specs.declared.application.ApplicationCounts.{ApplicationCounts}
use Rattle.tm_summary.specs.declared.channel.ChannelCounts.{ChannelCounts}
use Rattle.tm_summary.specs.declared.channel.Loss.{Loss}
use Rattle.tm_items.specs.Reasons.{reason_place}
use Rattle.tm_summary.specs.Kinds.{is_idle_kind, is_joined_kind}
use Rattle.tm_packet.specs.Merge.{pair_key}
use Rattle.tm_frame.specs.Frame.{is_vca_kind}
use Rattle.tm_summary.specs.SummaryNumbers.{SummaryNumbers, application_of, capped, channel_counts}

-- ---- of a channel

-- a channel for which nothing came, and such an application
abbrev pub no_channel : ChannelCounts
no_channel = channel_counts [] []

abbrev pub no_application : ApplicationCounts
no_application = application_of [] []

abbrev pub no_loss : Loss
no_loss = record { parts = 0; octets = 0 }

abbrev pub loss_more : Loss → ℕ → Loss
loss_more l octets = record { parts = capped (l.parts + 1); octets = capped (l.octets + octets) }

abbrev pub frame_more : ChannelCounts → Kind → ℕ → ChannelCounts
frame_more c kind octets = record c {
  frames = capped (c.frames + 1);
  idle = if is_idle_kind kind then capped (c.idle + 1) else c.idle;
  vca = if is_vca_kind kind then capped (c.vca + 1) else c.vca;
  data_octets = if is_joined_kind kind then capped (c.data_octets + octets) else c.data_octets;
}

abbrev pub gap_more : ChannelCounts → ℕ → ChannelCounts
gap_more c missing = record c { gaps = capped (c.gaps + 1); missing = capped (c.missing + missing) }

abbrev pub packet_more : ChannelCounts → ℕ → ChannelCounts
packet_more c octets = record c { packets = capped (c.packets + 1); octets = capped (c.octets + octets) }

-- at a place of a list something more
abbrev pub more_at : {A : Type 0} → List A → ℕ → A → (A → A) → List A
more_at xs n none more = slice_set xs n (more (slice_index_or xs n none))

abbrev pub drop_more : ChannelCounts → ℕ → Reason → ChannelCounts
drop_more c octets reason = record c {
  dropped = capped (c.dropped + 1);
  lost = capped (c.lost + octets);
  losses = more_at c.losses (reason_place reason) no_loss (λ l. loss_more l octets);
}

-- ---- of a channel and application

abbrev pub whole_more : ApplicationCounts → ℕ → ℕ → ApplicationCounts
whole_more a seen octets = record a {
  packets = capped (a.packets + 1);
  octets = capped (a.octets + octets);
  first = if a.packets == 0 then seen else a.first;
  last = seen;
}

-- its notes: gaps, what is missing, whole groups, broken ones and strays
abbrev pub notes_counted : ApplicationCounts → (gaps missing groups broken strays : ℕ) → ApplicationCounts
notes_counted a gaps missing groups broken strays = record a { gaps = gaps; missing = missing; groups = groups; broken = broken; strays = strays }

abbrev pub note_more : ApplicationCounts → Note → ApplicationCounts
note_more a (note.Gap expected found missing) = notes_counted a (capped (a.gaps + 1)) (capped (a.missing + missing)) a.groups a.broken a.strays
note_more a (note.Broken first last why) = notes_counted a a.gaps a.missing a.groups (capped (a.broken + 1)) a.strays
note_more a (note.Whole first last) = notes_counted a a.gaps a.missing (capped (a.groups + 1)) a.broken a.strays
note_more a (note.Stray count flags) = notes_counted a a.gaps a.missing a.groups a.broken (capped (a.strays + 1))

-- ---- of all

abbrev pub numbers_with : SummaryNumbers → List ChannelCounts → List ApplicationCounts → SummaryNumbers
numbers_with n channels applications = record n { channels = channels; applications = applications }

-- in one channel more
abbrev pub in_channel : SummaryNumbers → ℕ → (ChannelCounts → ChannelCounts) → SummaryNumbers
in_channel n channel more = numbers_with n (more_at n.channels channel no_channel more) n.applications

-- a good frame more of this channel, whose data field holds this and has so many octets
unfoldable pub with_frame : SummaryNumbers → ℕ → Kind → ℕ → SummaryNumbers
with_frame n channel kind octets =
    record n { good = capped (n.good + 1); channels = more_at n.channels channel no_channel (λ c. frame_more c kind octets) }

abbrev pub with_bad : SummaryNumbers → FrameFault → SummaryNumbers
with_bad n fault = record n { bad = capped (n.bad + 1); faults = more_at n.faults (fault_number fault - 1) 0 (λ k. capped (k + 1)) }

abbrev pub with_master_gap : SummaryNumbers → ℕ → SummaryNumbers
with_master_gap n missing = record n { master_gaps = capped (n.master_gaps + 1); master_missing = capped (n.master_missing + missing) }

abbrev pub with_rest : SummaryNumbers → ℕ → SummaryNumbers
with_rest n octets = record n { rest = capped (n.rest + octets) }

abbrev pub with_packet : SummaryNumbers → (seen channel application octets : ℕ) → SummaryNumbers
with_packet n seen channel application octets =
    numbers_with n (more_at n.channels channel no_channel (λ c. packet_more c octets))
    (more_at n.applications (pair_key channel application) no_application (λ a. whole_more a seen octets))

unfoldable pub with_item : SummaryNumbers → Item → SummaryNumbers
with_item n (Bad seen fault) = with_bad n fault
with_item n (MasterGap seen expected found missing) = with_master_gap n missing
with_item n (Gap seen channel expected found missing) = in_channel n channel (λ c. gap_more c missing)
with_item n (Vca seen channel) = n
with_item n (Dropped seen channel first place octets reason) = in_channel n channel (λ c. drop_more c octets reason)
with_item n (Packet seen channel first place octets) = with_packet n seen channel (packet_header_of octets).application (length octets)
with_item n (Short seen octets) = with_rest n octets

unfoldable pub with_note : SummaryNumbers → ℕ → Note → SummaryNumbers
with_note n key note = numbers_with n n.channels (more_at n.applications key no_application (λ a. note_more a note))
