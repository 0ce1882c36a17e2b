-- What a checkpoint tells of single settings, and of the records that are done.
use Rattle.std.specs.Prelude.{ℕ, ◌+◌, ◌*◌, ◌==◌, Bool, List, drop, not, slice_index, if◌then◌else◌, Option, option_map}
use Rattle.tm_bits.specs.Bits.{two_at}
use Rattle.tm_faults.specs.declared.settings.Key.{Key}
use Rattle.tm_faults.specs.declared.settings.Key.TheVariants.{Spacecraft, FrameLength, SkipBefore, SkipAfter, Secondary, Ocf, ErrorControl, Channels, MaxPacket}
use Rattle.tm_frame.specs.Channels.{mask_of}
use Rattle.tm_frame.specs.Rules.{Rules}
use Rattle.tm_reassembly.specs.Checkpoint.{four_at}
use Rattle.tm_checkpoint.specs.Checkpoints.{form_of, presence_octet, version_named}

-- the number of a key in the octets of settings
abbrev pub number_in : List ℕ → Key → ℕ
number_in octets Spacecraft = two_at octets 0
number_in octets FrameLength = two_at octets 2
number_in octets SkipBefore = two_at octets 4
number_in octets SkipAfter = two_at octets 6
number_in octets Secondary = slice_index octets 8
number_in octets Ocf = slice_index octets 9
number_in octets ErrorControl = slice_index octets 10
number_in octets Channels = slice_index octets 11
number_in octets MaxPacket = 65536 * slice_index octets 12 + two_at octets 13

-- the number of a key of settings: words and channels have one, too
abbrev pub setting_number : Rules → Key → ℕ
setting_number s Spacecraft = s.layout.spacecraft
setting_number s FrameLength = s.layout.frame_length
setting_number s SkipBefore = s.layout.skip_before
setting_number s SkipAfter = s.layout.skip_after
setting_number s Secondary = presence_octet s.layout.secondary
setting_number s Ocf = presence_octet s.layout.ocf
setting_number s ErrorControl = if s.layout.error_control then 1 else 0
setting_number s Channels = mask_of s.channels
setting_number s MaxPacket = s.max_packet

-- the number of a key in a checkpoint whose version has this octet: version 1 has no limit on packets, and stands for the greatest
abbrev pub number_told_by : ℕ → List ℕ → Key → ℕ
number_told_by version octets MaxPacket = if version == 1 then 65542 else number_in (drop 5 octets) MaxPacket
number_told_by version octets key = number_in (drop 5 octets) key

abbrev pub number_told : List ℕ → Key → ℕ
number_told octets key = number_told_by (slice_index octets 4) octets key

-- the checkpoint has another number for a key than settings
abbrev pub is_other : Rules → List ℕ → Key → Bool
is_other s octets key = not (number_told octets key == setting_number s key)

-- how many records are done
abbrev pub records_told : List ℕ → Option ℕ
records_told octets = option_map (λ v. four_at octets (5 + (form_of v).settings)) (version_named (slice_index octets 4))
