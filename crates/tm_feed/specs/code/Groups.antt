-- Groups that are open, and are given one by one.
use Rattle.std.specs.Prelude.{◌≡◌, ◌≤◌, ℕ, Option, Some, None, List, [], ◌++◌, length, map, take, drop}
use Rattle.tm_packet.specs.declared.tracker.Unclosed.{Unclosed}
use Rattle.tm_packet.specs.Merge.{Entries, unclosed}
use Rattle.tm_feed.specs.declared.event.Event.{Event}
use Rattle.tm_feed.specs.Endings.{unclosed_event}

-- the groups that are left from a key on, or none
abbrev pub left_from : Entries → Option ℕ → List Unclosed
left_from entries None = []
left_from entries (Some key) = unclosed key (drop key entries)

-- the events of these groups were put after others
pub record HasPut (entries : Entries) (seen from start : ℕ) (old new : List Event) (filled : ℕ) (left : List Unclosed) : Type 0 where
  pub given : List Unclosed
  pub parts : unclosed from (drop from entries) ≡ given ++ left
  pub put : take filled new ≡ take start old ++ map (unclosed_event seen) given
  pub within : filled ≤ length new

-- where groups are left the room is full
abbrev pub IsFilled : Option ℕ → ℕ → ℕ → Type 0
IsFilled None filled room = Unit {0}
IsFilled (Some key) filled room = filled ≡ room
