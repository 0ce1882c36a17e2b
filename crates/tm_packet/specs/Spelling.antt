-- How the entries of all keys are spelled in octets, and what octets spell.
use Rattle.std.specs.Prelude.{ℕ, zero, suc, ◌+◌, ◌*◌, ◌%◌, Bool, true, not, ◌==◌, ◌&&◌, ◌||◌, nat_lt, Option, Some, None, Result, Ok, Err, List, [], ◌∷◌, ◌++◌, length, drop, if◌then◌else◌}
use Rattle.tm_bits.specs.Bits.{two_octets, two_at}
use Rattle.tm_packet.specs.declared.tracker.PairEntry.{PairEntry}
use Rattle.tm_packet.specs.Merge.{Entries}
use Rattle.tm_packet.specs.declared.tracker.RawEntry.{RawEntry}
use Rattle.tm_packet.specs.declared.tracker.TrackerFault.{TrackerFault}
use Rattle.tm_packet.specs.declared.tracker.TrackerFault.TheVariants.{Short, Order, Value}

-- an entry and its key
pub record KeyedEntry : Type 0 where
  pub key : ℕ
  pub last : PairEntry

-- the first count of the open group, or FFFF
abbrev pub first_number : Option ℕ → ℕ
first_number None = 65535
first_number (Some first) = first

-- key, last count, and first count of the open group
abbrev pub entry_octets : KeyedEntry → List ℕ
entry_octets e = two_octets e.key ++ two_octets e.last.count ++ two_octets (first_number e.last.first)

-- an entry of a key, if there is one
abbrev pub entry_of : ℕ → Option PairEntry → List KeyedEntry
entry_of key None = []
entry_of key (Some last) = record { key = key; last = last } ∷ []

-- the entries that there are, by rising key
abbrev pub entries_from : ℕ → Entries → List KeyedEntry
entries_from key [] = []
entries_from key (l ∷ ls) = entry_of key l ++ entries_from (key + 1) ls

-- entries, one after the other
abbrev pub spelled : List KeyedEntry → List ℕ
spelled [] = []
spelled (e ∷ es) = entry_octets e ++ spelled es

-- the number of entries, and the entries
abbrev pub entries_spelling : Entries → List ℕ
entries_spelling entries = two_octets (length (entries_from 0 entries)) ++ spelled (entries_from 0 entries)

-- the three numbers of six octets
abbrev pub raw_of : List ℕ → RawEntry
raw_of xs = record { key = two_at xs 0; count = two_at xs 2; first = two_at xs 4 }

-- the numbers of entries that stand one after the other
abbrev pub raws : ℕ → List ℕ → List RawEntry
raws zero xs = []
raws (suc n) xs = raw_of xs ∷ raws n (drop 6 xs)

-- the numbers can be those of an entry
abbrev pub has_values : RawEntry → Bool
has_values r =
    nat_lt r.key 16384 && not (r.key % 2048 == 2047) && nat_lt r.count 16384 && (nat_lt r.first 16384 || (r.first == 65535))

-- the key is greater than the one before
abbrev pub rises : Option ℕ → ℕ → Bool
rises None key = true
rises (Some before) key = nat_lt before key

-- what is wrong first, after an entry with this key or none: for each entry the values, then the order
abbrev pub fault_after : Option ℕ → List RawEntry → Option TrackerFault
fault_after before [] = None
fault_after before (r ∷ rs) =
    if has_values r then (if rises before r.key then fault_after (Some r.key) rs else Some Order) else Some Value

-- the first count that a number spells: none where it is FFFF
abbrev pub first_count_of : ℕ → Option ℕ
first_count_of n = if n == 65535 then None else Some n

-- what the entries say of a key
abbrev pub entry_at_key : ℕ → List RawEntry → Option PairEntry
entry_at_key key [] = None
entry_at_key key (r ∷ rs) = if r.key == key then Some (record { count = r.count; first = first_count_of r.first }) else entry_at_key key rs

-- what the entries say of each key from one on
abbrev pub entries_at_keys : ℕ → ℕ → List RawEntry → Entries
entries_at_keys zero key rs = []
entries_at_keys (suc n) key rs = entry_at_key key rs ∷ entries_at_keys n (key + 1) rs

-- what the entries say of all keys
unfoldable pub state_of : List RawEntry → Entries
state_of rs = entries_at_keys 16384 0 rs

-- the entries of all keys, and the number of octets that were read
pub record DecodedEntries : Type 0 where
  pub entries : Entries
  pub octets : ℕ

-- a fault, or what is read where there is none
abbrev pub unless : Option TrackerFault → DecodedEntries → Result DecodedEntries TrackerFault
unless None decoded = Ok decoded
unless (Some fault) decoded = Err fault

-- the number of entries, where they are all there
abbrev pub entry_count_of : List ℕ → Option ℕ
entry_count_of octets =
    if nat_lt (length octets) 2 then None else if nat_lt (length octets) (2 + 6 * two_at octets 0) then None else Some (two_at octets 0)

-- what this many entries spell
abbrev pub decoding_with : Option ℕ → List ℕ → Result DecodedEntries TrackerFault
decoding_with None octets = Err Short
decoding_with (Some count) octets =
    unless (fault_after None (raws count (drop 2 octets))) (record { entries = state_of (raws count (drop 2 octets)); octets = 2 + 6 * count })

-- what octets spell: too few of them, or the first fault of an entry, or the entries
abbrev pub entries_decoding_of : List ℕ → Result DecodedEntries TrackerFault
entries_decoding_of octets = decoding_with (entry_count_of octets) octets
