-- The items: what is reported of records, and of a closed end.
use Rattle.std.specs.Prelude.{ℕ, List}
use Rattle.tm_frame.specs.declared.fault.FrameFault.{FrameFault}
use Rattle.tm_items.specs.declared.items.Reason.{Reason}

pub data Item : Type 0 where
  Bad : (seen : ℕ) (fault : FrameFault) → Item
  MasterGap : (seen expected found missing : ℕ) → Item
  Gap : (seen channel expected found missing : ℕ) → Item
  Vca : (seen channel : ℕ) → Item
  Dropped : (seen channel first place octets : ℕ) (reason : Reason) → Item
  Packet : (seen channel first place : ℕ) (octets : List ℕ) → Item
  Short : (seen octets : ℕ) → Item

-- the record at which the item is given
abbrev pub seen_of : Item → ℕ
seen_of (Bad seen fault) = seen
seen_of (MasterGap seen expected found missing) = seen
seen_of (Gap seen channel expected found missing) = seen
seen_of (Vca seen channel) = seen
seen_of (Dropped seen channel first place octets reason) = seen
seen_of (Packet seen channel first place octets) = seen
seen_of (Short seen octets) = seen
