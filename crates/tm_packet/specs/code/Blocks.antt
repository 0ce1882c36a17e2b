-- The places of the keys, and marks of blocks of 64 keys.
use Rattle.std.specs.Prelude.{ℕ, ◌≡◌, ◌≤◌, ◌-◌, ◌/◌, ◌++◌, Bool, false, List, None, length, replicate, slice_index_or}
use Rattle.tm_packet.specs.Merge.{Entries, entry_at}

-- the entries of all keys, where those of the first keys stand in these places and the others have none
unfoldable pub entries_of : Entries → Entries
entries_of places = places ++ replicate (16384 - length places) None

-- in a block without a mark no entry stands
pub record AreMarked (marks : List Bool) (entries : Entries) : Type 0 where
  pub none : (key : ℕ) → slice_index_or marks (key / 64) false ≡ false → entry_at entries key ≡ None

-- places of some keys, and marks of all blocks
pub record IsTable (marks : List Bool) (places : Entries) : Type 0 where
  pub most : length places ≤ 16384
  pub all : length marks ≡ 256
  pub marked : AreMarked marks (entries_of places)
