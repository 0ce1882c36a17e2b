-- The faults of a frame, the first that applies being reported, and how a record reads.
use Rattle.std.specs.Prelude.{ℕ, ◌-◌, ◌*◌, Bool, false, not, ◌&&◌, ◌==◌, nat_lt, List, [], ◌∷◌, length, take, Option, Some, None, Result, Ok, Err}
use Rattle.std.specs.List.{find}
use Rattle.tm_bits.specs.Bits.{part}
use Rattle.tm_frame.specs.declared.layout.LayoutParts.{LayoutParts}
use Rattle.tm_frame.specs.declared.layout.Presence.{Presence}
use Rattle.tm_frame.specs.declared.layout.Presence.TheVariants.{Flag, Always, Never}
use Rattle.tm_frame.specs.declared.fault.FrameFault.{FrameFault}
use Rattle.tm_frame.specs.declared.fault.FrameFault.TheVariants.{Crc, Version, Spacecraft, SecondaryFlag, OcfFlag, SecondaryVersion, Layout, Pointer}
use Rattle.tm_frame.specs.Header.{frame_version_of, spacecraft_of, ocf_flag, secondary_flag, synchronization_flag, pointer_of, secondary_version_of}
use Rattle.tm_frame.specs.ErrorControl.{error_control_of}
use Rattle.tm_frame.specs.Frame.{GoodFrame, good_frame, frame_of, field_length}

-- the flag is not what the layout says of it
abbrev pub disagrees : Presence → Bool → Bool
disagrees Flag flag = false
disagrees Always flag = not flag
disagrees Never flag = flag

-- the frame's last two octets are the error control of those before (CCSDS 132.0-B-3, 4.1.6)
abbrev pub control_holds : List ℕ → Bool
control_holds frame =
    part frame (8 * (length frame - 2)) (8 * length frame) == error_control_of (take (length frame - 2) frame)

-- Packets are in the data field, and the pointer to the first is no place in it. Nor is it one that has a meaning of its own
-- (CCSDS 132.0-B-3, 4.1.2.7).
abbrev pub is_misplaced : LayoutParts → List ℕ → Bool
is_misplaced layout frame =
    not (synchronization_flag frame) && not (pointer_of frame == 2046) && not (pointer_of frame == 2047)
    && not (nat_lt (pointer_of frame) (field_length layout frame))

-- when each fault applies
abbrev pub applies : LayoutParts → List ℕ → FrameFault → Bool
applies layout frame Crc = layout.error_control && not (control_holds frame)
applies layout frame Version = not (frame_version_of frame == 0)
applies layout frame Spacecraft = not (spacecraft_of frame == layout.spacecraft)
applies layout frame SecondaryFlag = disagrees layout.secondary (secondary_flag frame)
applies layout frame OcfFlag = disagrees layout.ocf (ocf_flag frame)
applies layout frame SecondaryVersion = secondary_flag frame && not (secondary_version_of frame == 0)
applies layout frame Layout = field_length layout frame == 0
applies layout frame Pointer = is_misplaced layout frame

-- the faults, in the order in which they are looked for
abbrev pub all_faults : List FrameFault
all_faults = Crc ∷ Version ∷ Spacecraft ∷ SecondaryFlag ∷ OcfFlag ∷ SecondaryVersion ∷ Layout ∷ Pointer ∷ []

-- the first fault that applies, if any does
unfoldable pub fault_of : LayoutParts → List ℕ → Option FrameFault
fault_of layout frame = find (applies layout frame) all_faults

-- a good frame, or the fault
abbrev pub good_unless : Option FrameFault → GoodFrame → Result GoodFrame FrameFault
good_unless None good = Ok good
good_unless (Some fault) good = Err fault

-- what a record reads as
abbrev pub frame_reading_of : LayoutParts → List ℕ → Result GoodFrame FrameFault
frame_reading_of layout octets =
    good_unless (fault_of layout (frame_of layout octets)) (good_frame layout (frame_of layout octets))
