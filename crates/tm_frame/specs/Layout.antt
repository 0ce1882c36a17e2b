-- What a layout may be (CCSDS 132.0-B-3, 4.1.1: all frames of a physical channel have one length; the ranges are this project's own).
use Rattle.std.specs.Prelude.{ℕ, ◌+◌, ◌-◌, ◌^◌, ◌≤◌, Bool, ◌||◌, nat_lt, [], ◌∷◌, Option}
use Rattle.std.specs.List.{find}
use Rattle.tm_frame.specs.declared.layout.LayoutParts.{LayoutParts}
use Rattle.tm_frame.specs.declared.layout.LayoutFault.{LayoutFault}
use Rattle.tm_frame.specs.declared.layout.LayoutFault.TheVariants.{FrameLength, SkipBefore, SkipAfter, Spacecraft}

-- the parts of a layout are in range
pub record IsInRange (parts : LayoutParts) : Type 0 where
  pub shortest : 9 ≤ parts.frame_length
  pub longest : parts.frame_length ≤ 2048
  pub before : parts.skip_before ≤ 1024
  pub after : parts.skip_after ≤ 1024
  pub spacecraft : parts.spacecraft ≤ 1023

-- a part of a layout is out of range
abbrev pub is_out_of_range : LayoutParts → LayoutFault → Bool
is_out_of_range parts FrameLength = nat_lt parts.frame_length 9 || nat_lt 2048 parts.frame_length
is_out_of_range parts SkipBefore = nat_lt 1024 parts.skip_before
is_out_of_range parts SkipAfter = nat_lt 1024 parts.skip_after
is_out_of_range parts Spacecraft = nat_lt 1023 parts.spacecraft

-- the first part that is out of range
abbrev pub layout_fault : LayoutParts → Option LayoutFault
layout_fault parts = find (is_out_of_range parts) (FrameLength ∷ SkipBefore ∷ SkipAfter ∷ Spacecraft ∷ [])

-- the octets of one record
abbrev pub record_length_of : LayoutParts → ℕ
record_length_of parts = parts.skip_before + parts.frame_length + parts.skip_after

-- the greatest number of records of a recording
abbrev pub most_records : ℕ
most_records = 2 ^ 32 - 1
