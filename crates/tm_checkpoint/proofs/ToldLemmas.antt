-- The numbers in the octets of settings are those of the settings.
use Rattle.std.proofs.Common.{◌≡◌, ◌+◌, ◌*◌, ◌/◌, ◌%◌, ℕ, refl, arith}
use Rattle.tm_faults.specs.declared.settings.Key.{Key}
use Rattle.tm_faults.specs.declared.settings.Key.TheVariants.{Spacecraft, FrameLength, SkipBefore, SkipAfter, Secondary, Ocf, ErrorControl, Channels, MaxPacket}
use Rattle.tm_frame.specs.Rules.{Rules}
use Rattle.tm_checkpoint.specs.Checkpoints.{settings_octets}
use Rattle.tm_checkpoint.specs.Told.{number_in, setting_number}

-- a number in two octets, and in three
two_again : (n : ℕ) → 256 * (n / 256) + n % 256 ≡ n
two_again n = omega arith

three_again : (n : ℕ) → 65536 * (n / 65536) + (256 * (n % 65536 / 256) + n % 65536 % 256) ≡ n
three_again n = omega arith

pub told_again : (s : Rules) (key : Key) → number_in (settings_octets s) key ≡ setting_number s key
told_again s Spacecraft = two_again s.layout.spacecraft
told_again s FrameLength = two_again s.layout.frame_length
told_again s SkipBefore = two_again s.layout.skip_before
told_again s SkipAfter = two_again s.layout.skip_after
told_again s Secondary = refl
told_again s Ocf = refl
told_again s ErrorControl = refl
told_again s Channels = refl
told_again s MaxPacket = three_again s.max_packet
