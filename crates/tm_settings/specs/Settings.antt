-- What a settings text says: a TOML document, by `toml`'s own definition of one.
use Rattle.std.specs.Prelude.{ℕ, ℤ, pos, Bool, ◌&&◌, nat_le, if◌then◌else◌, List, [], ◌∷◌, map, Option, Some, None, option_map, option_and_then, Result, Ok, Err, codes}
use Rattle.std.specs.Cmp.Lexicographic.{slice_cmp}
use Rattle.std.specs.Ordering.{is_lt, nat_cmp}
use Rattle.std.specs.Str.{bytes_eq}
use Rattle.toml.specs.Data.{Data, Items, no_items, item, Members, no_members, member, get_member, as_integer, as_bool, as_str, as_array}
use Rattle.tm_frame.specs.declared.layout.LayoutParts.{LayoutParts}
use Rattle.tm_frame.specs.declared.layout.Presence.{Presence}
use Rattle.tm_frame.specs.declared.layout.Presence.TheVariants.{Flag, Always, Never}
use Rattle.tm_frame.specs.Channels.{all_channels, channels_of}
pub use Rattle.tm_frame.specs.Rules.{Rules}
use Rattle.tm_faults.specs.declared.settings.Key.{Key}
use Rattle.tm_faults.specs.declared.settings.Key.TheVariants.{Spacecraft, FrameLength, SkipBefore, SkipAfter, Secondary, Ocf, ErrorControl, Channels, MaxPacket}
use Rattle.tm_faults.specs.declared.settings.SettingsFault.{SettingsFault}
use Rattle.tm_faults.specs.declared.settings.SettingsFault.TheVariants.{Toml, Unknown, Missing, Kind, Range}
use Rattle.tm_faults.specs.Keys.{key_name, is_name}

-- ---- unknown keys

-- the keys of a document that name no setting
abbrev pub unknown_keys : Members → List (List ℕ)
unknown_keys no_members = []
unknown_keys (member k d ms) = if is_name k then unknown_keys ms else k ∷ unknown_keys ms

-- the least of a text and some others, by their octets
abbrev pub least_of : List ℕ → List (List ℕ) → List ℕ
least_of k [] = k
least_of k (l ∷ ls) = if is_lt (slice_cmp nat_cmp l k) then least_of l ls else least_of k ls

abbrev pub least : List (List ℕ) → Option (List ℕ)
least [] = None
least (k ∷ ks) = Some (least_of k ks)

-- ---- one value

-- a value, or the refusal
abbrev pub ReadAs : Type 0 → Type 0
ReadAs A = Result A SettingsFault

abbrev pub read_and_then : {A B : Type 0} → ReadAs A → (A → ReadAs B) → ReadAs B
read_and_then (Ok x) f = f x
read_and_then (Err e) f = Err e

-- the value of a key that must be there
abbrev pub required : {A : Type 0} → Key → (Data → ReadAs A) → Option Data → ReadAs A
required key read None = Err (Missing key)
required key read (Some d) = read d

-- the value of a key that has a default
abbrev pub optional : {A : Type 0} → A → (Data → ReadAs A) → Option Data → ReadAs A
optional default read None = Ok default
optional default read (Some d) = read d

-- a value that has to be of its kind
abbrev pub of_kind : {A B : Type 0} → Key → (B → ReadAs A) → Option B → ReadAs A
of_kind key read None = Err (Kind key)
of_kind key read (Some x) = read x

-- a value that has to be in its range
abbrev pub of_range : {A : Type 0} → Key → Option A → ReadAs A
of_range key None = Err (Range key)
of_range key (Some x) = Ok x

abbrev pub integer_between : ℕ → ℕ → ℤ → Option ℕ
integer_between low high (pos n) = if nat_le low n && nat_le n high then Some n else None
integer_between low high _ = None

-- an integer in its range
abbrev pub integer_of : Key → ℕ → ℕ → Data → ReadAs ℕ
integer_of key low high d = of_kind key (λ z. of_range key (integer_between low high z)) (as_integer d)

-- a boolean
abbrev pub truth_of : Key → Data → ReadAs Bool
truth_of key d = of_kind key (λ b. Ok b) (as_bool d)

abbrev pub presence_named : List ℕ → Option Presence
presence_named word = if bytes_eq word (codes "flag") then Some Flag
    else (if bytes_eq word (codes "always") then Some Always
    else (if bytes_eq word (codes "never") then Some Never else None))

-- one of three words
abbrev pub presence_of : Key → Data → ReadAs Presence
presence_of key d = of_kind key (λ word. of_range key (presence_named word)) (as_str d)

-- ---- channels

-- the integers of an array, where each element is one
abbrev pub integers : Items → Option (List ℤ)
integers no_items = Some []
integers (item d ds) = option_and_then (λ z. option_map (λ zs. z ∷ zs) (integers ds)) (as_integer d)

-- the channel of a number, or 8, which no channel has
abbrev pub channel_number : ℤ → ℕ
channel_number (pos n) = if nat_le n 7 then n else 8
channel_number _ = 8

-- an array of channels
abbrev pub channels_at : Key → Data → ReadAs (List Bool)
channels_at key d = of_kind key (λ zs. of_range key (channels_of (map channel_number zs)))
    (option_and_then integers (as_array d))

-- ---- the settings

-- what a document has at a key
abbrev pub value_at : Key → Members → Option Data
value_at key ms = get_member (key_name key) ms

-- the keys of the layout in the order of the table, the first with a fault deciding
abbrev pub layout_from : Members → ReadAs LayoutParts
layout_from ms =
    read_and_then (required Spacecraft (integer_of Spacecraft 0 1023) (value_at Spacecraft ms)) (λ spacecraft.
    read_and_then (required FrameLength (integer_of FrameLength 9 2048) (value_at FrameLength ms)) (λ frame_length.
    read_and_then (optional 0 (integer_of SkipBefore 0 1024) (value_at SkipBefore ms)) (λ skip_before.
    read_and_then (optional 0 (integer_of SkipAfter 0 1024) (value_at SkipAfter ms)) (λ skip_after.
    read_and_then (optional Flag (presence_of Secondary) (value_at Secondary ms)) (λ secondary.
    read_and_then (optional Flag (presence_of Ocf) (value_at Ocf ms)) (λ ocf.
    read_and_then (required ErrorControl (truth_of ErrorControl) (value_at ErrorControl ms)) (λ error_control.
    Ok (record {
      frame_length = frame_length;
      skip_before = skip_before;
      skip_after = skip_after;
      spacecraft = spacecraft;
      secondary = secondary;
      ocf = ocf;
      error_control = error_control;
    }))))))))

-- all keys: after those of the layout the channels, and then the most octets that a packet may have
abbrev pub choices_from : Members → ReadAs Rules
choices_from ms =
    read_and_then (layout_from ms) (λ layout.
    read_and_then (optional all_channels (channels_at Channels) (value_at Channels ms)) (λ channels.
    read_and_then (optional 65542 (integer_of MaxPacket 7 65542) (value_at MaxPacket ms)) (λ max_packet.
    Ok (record { layout = layout; channels = channels; max_packet = max_packet }))))

abbrev pub unless_unknown : {A : Type 0} → Option (List ℕ) → ReadAs A → ReadAs A
unless_unknown None read = read
unless_unknown (Some key) read = Err (Unknown key)

-- what a text says, where this is its document
abbrev pub settings_from : Option Members → ReadAs Rules
settings_from None = Err Toml
settings_from (Some ms) = unless_unknown (least (unknown_keys ms)) (choices_from ms)
