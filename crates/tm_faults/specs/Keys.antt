-- The keys of the settings.
use Rattle.std.specs.Prelude.{ℕ, Bool, List, [], ◌∷◌, codes}
use Rattle.std.specs.List.{list_any}
use Rattle.std.specs.Str.{bytes_eq}
use Rattle.tm_faults.specs.declared.settings.Key.{Key}
use Rattle.tm_faults.specs.declared.settings.Key.TheVariants.{Spacecraft, FrameLength, SkipBefore, SkipAfter, Secondary, Ocf, ErrorControl, Channels, MaxPacket}

-- a key as it is written
abbrev pub key_name : Key → List ℕ
key_name Spacecraft = codes "spacecraft"
key_name FrameLength = codes "frame_length"
key_name SkipBefore = codes "skip_before"
key_name SkipAfter = codes "skip_after"
key_name Secondary = codes "secondary"
key_name Ocf = codes "ocf"
key_name ErrorControl = codes "error_control"
key_name Channels = codes "channels"
key_name MaxPacket = codes "max_packet"

abbrev pub all_keys : List Key
all_keys = Spacecraft ∷ FrameLength ∷ SkipBefore ∷ SkipAfter ∷ Secondary ∷ Ocf ∷ ErrorControl ∷ Channels ∷ MaxPacket ∷ []

-- the text is the name of a key
abbrev pub is_name : List ℕ → Bool
is_name text = list_any (λ key. bytes_eq text (key_name key)) all_keys
