-- A record's frame, and what a good frame says (CCSDS 132.0-B-3, 4.1).
use Rattle.std.specs.Prelude.{ℕ, ◌<◌, ◌≤◌, ◌+◌, ◌-◌, Bool, true, false, ◌==◌, if◌then◌else◌, List, length, slice_range}
use Rattle.tm_frame.specs.declared.layout.LayoutParts.{LayoutParts}
use Rattle.tm_frame.specs.declared.frame.Kind.{Kind}
use Rattle.tm_frame.specs.declared.frame.Kind.TheVariants.{Packets, NoStart, Idle, Vca}
use Rattle.tm_frame.specs.Header.{channel_of, ocf_flag, master_count_of, channel_count_of, synchronization_flag, order_flag_of, segment_of, pointer_of, secondary_length_of}

-- the record without its skipped octets
abbrev pub frame_of : LayoutParts → List ℕ → List ℕ
frame_of layout octets = slice_range octets layout.skip_before (layout.skip_before + layout.frame_length)

-- where the data field begins: after the primary header of 6 octets and the secondary header
abbrev pub field_start : List ℕ → ℕ
field_start frame = 6 + secondary_length_of frame

-- where it ends: before the operational control field of 4 octets and the error control field of 2
abbrev pub field_end : LayoutParts → List ℕ → ℕ
field_end layout frame = length frame - ((if ocf_flag frame then 4 else 0) + (if layout.error_control then 2 else 0))

-- its octets, 0 where none is left for it
abbrev pub field_length : LayoutParts → List ℕ → ℕ
field_length layout frame = field_end layout frame - field_start frame

-- the data field
abbrev pub data_field_of : LayoutParts → List ℕ → List ℕ
data_field_of layout frame = slice_range frame (field_start frame) (field_end layout frame)

-- What the data field holds. With the synchronization flag it is a VCA_SDU, whatever the pointer. Else the first header pointer
-- says it; 2047 and 2046 have a meaning of their own (4.1.2.7).
abbrev pub kind_from : Bool → ℕ → Kind
kind_from synchronization pointer =
    if synchronization then Vca
    else if pointer == 2047 then NoStart
    else if pointer == 2046 then Idle
    else Packets pointer

abbrev pub kind_of : List ℕ → Kind
kind_of frame = kind_from (synchronization_flag frame) (pointer_of frame)

-- a VCA frame
abbrev pub is_vca_kind : Kind → Bool
is_vca_kind (Packets place) = false
is_vca_kind NoStart = false
is_vca_kind Idle = false
is_vca_kind Vca = true

-- what a good frame says
pub record GoodFrame : Type 0 where
  pub field : List ℕ
  pub channel : ℕ
  pub master_count : ℕ
  pub count : ℕ
  pub kind : Kind
  pub secondary_length : ℕ
  pub has_ocf : Bool
  pub order_flag : Bool
  pub segment : ℕ

-- the parts of a frame in which no fault was found
abbrev pub good_frame : LayoutParts → List ℕ → GoodFrame
good_frame layout frame = record {
  field = data_field_of layout frame;
  channel = channel_of frame;
  master_count = master_count_of frame;
  count = channel_count_of frame;
  kind = kind_of frame;
  secondary_length = secondary_length_of frame;
  has_ocf = ocf_flag frame;
  order_flag = order_flag_of frame;
  segment = segment_of frame;
}

-- a packet that starts in a field of n octets starts inside it
abbrev pub IsPlaceBelow : ℕ → Kind → Type 0
IsPlaceBelow n (Packets place) = place < n
IsPlaceBelow n NoStart = Unit {0}
IsPlaceBelow n Idle = Unit {0}
IsPlaceBelow n Vca = Unit {0}

-- what holds of every good frame
pub record IsSoundFrame (frame : GoodFrame) : Type 0 where
  pub channel : frame.channel < 8
  pub segment : frame.segment < 4
  pub some : 0 < length frame.field
  pub most : length frame.field ≤ 2042
  pub place : IsPlaceBelow (length frame.field) frame.kind
