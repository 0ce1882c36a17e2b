-- The limits of the numbers of the settings.
use Rattle.std.specs.Prelude.{Option, Some, None}
use Rattle.tm_faults.specs.declared.settings.Key.{Key}
use Rattle.tm_faults.specs.declared.settings.Key.TheVariants.{Spacecraft, FrameLength, SkipBefore, SkipAfter, MaxPacket}
use Rattle.tm_settings.specs.declared.limits.Limits.{Limits}

-- the limits of a key whose value is a number
abbrev pub limits_of : Key → Option Limits
limits_of Spacecraft = Some (record { least = 0; most = 1023 })
limits_of FrameLength = Some (record { least = 9; most = 2048 })
limits_of SkipBefore = Some (record { least = 0; most = 1024 })
limits_of SkipAfter = Some (record { least = 0; most = 1024 })
limits_of MaxPacket = Some (record { least = 7; most = 65542 })
limits_of _ = None
