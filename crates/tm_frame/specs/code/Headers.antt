-- The primary header as a whole, for private contracts.
use Rattle.std.specs.Prelude.{ℕ, Bool, false, not, nat_lt, List}
use Rattle.tm_frame.specs.declared.header.FrameHeader.{FrameHeader}
use Rattle.tm_frame.specs.Header.{frame_version_of, spacecraft_of, channel_of, ocf_flag, master_count_of, channel_count_of, secondary_flag, order_flag_of, segment_of}
use Rattle.tm_frame.specs.Frame.{kind_of}
use Rattle.tm_frame.specs.declared.frame.Kind.{Kind}
use Rattle.tm_frame.specs.declared.frame.Kind.TheVariants.{Packets, NoStart, Idle, Vca}

-- the primary header
abbrev pub frame_header_of : List ℕ → FrameHeader
frame_header_of frame = record {
  version = frame_version_of frame;
  spacecraft = spacecraft_of frame;
  channel = channel_of frame;
  ocf = ocf_flag frame;
  master_count = master_count_of frame;
  count = channel_count_of frame;
  secondary = secondary_flag frame;
  order = order_flag_of frame;
  segment = segment_of frame;
  kind = kind_of frame;
}

-- a packet starts, at a place that is not in a field of n octets
abbrev pub starts_beyond : ℕ → Kind → Bool
starts_beyond n (Packets place) = not (nat_lt place n)
starts_beyond n NoStart = false
starts_beyond n Idle = false
starts_beyond n Vca = false
