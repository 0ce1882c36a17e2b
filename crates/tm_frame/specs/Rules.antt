-- What the settings say of records, channels and packets.
use Rattle.std.specs.Prelude.{ℕ, ◌≤◌, Bool, List}
use Rattle.tm_frame.specs.declared.layout.LayoutParts.{LayoutParts}
use Rattle.tm_frame.specs.Channels.{is_chosen}

-- how a record is laid out; for each channel from 0 whether it is chosen; and how many octets a packet may have at most
pub record Rules : Type 0 where
  pub layout : LayoutParts
  pub channels : List Bool
  pub max_packet : ℕ

-- the rules choose the channel
abbrev pub chooses : Rules → ℕ → Bool
chooses rules channel = is_chosen rules.channels channel

-- a limit on packets: at least the fewest octets that a packet has, at most as many as its header can tell (CCSDS 133.0-B-2, 4.1.2)
pub record IsLimit (octets : ℕ) : Type 0 where
  pub least : 7 ≤ octets
  pub most : octets ≤ 65542
