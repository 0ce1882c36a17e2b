-- What is kept of a pair as one number: the first count of the open group, and after it the last count, each FFFF where there is none.
use Rattle.std.specs.Prelude.{ℕ, ◌≡◌, ◌+◌, ◌*◌, ◌/◌, ◌%◌, ◌==◌, Option, Some, None, if◌then◌else◌}
use Rattle.tm_packet.specs.declared.tracker.PairEntry.{PairEntry}
use Rattle.tm_packet.specs.Spelling.{first_number, first_count_of}

-- the entry of these counts
abbrev pub entry_in : ℕ → Option PairEntry
entry_in counts = if counts % 65536 == 65535 then None else Some (record { count = counts % 65536; first = first_count_of (counts / 65536) })

-- the counts of an entry
abbrev pub counts_of : Option PairEntry → ℕ
counts_of None = 4294967295
counts_of (Some e) = first_number e.first * 65536 + e.count

-- counts that are those of an entry, or of none
abbrev pub ArePlaced : ℕ → Type 0
ArePlaced counts = counts_of (entry_in counts) ≡ counts
