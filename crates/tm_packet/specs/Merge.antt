-- The sequence notes of all headers, in the order given, and the state after them.
use Rattle.std.specs.Prelude.{ℕ, ◌+◌, ◌*◌, Bool, not, ◌==◌, ◌&&◌, Option, Some, None, List, [], ◌∷◌, ◌++◌, length, replicate, slice_get, slice_index_or, drop, if◌then◌else◌}
use Rattle.tm_packet.specs.declared.notes.Note.{Note}
use Rattle.tm_packet.specs.declared.notes.Note.TheVariants.{Broken}
use Rattle.tm_packet.specs.declared.notes.Why.TheVariants as why
use Rattle.tm_packet.specs.declared.tracker.PairEntry.{PairEntry}
use Rattle.tm_packet.specs.declared.tracker.Unclosed.{Unclosed}
use Rattle.tm_packet.specs.Header.{Fields}
use Rattle.tm_packet.specs.Sequence.{pair_notes, pair_after}

-- for each key what is kept of the sequence counts of its channel and application
abbrev pub Entries : Type 0
Entries = List (Option PairEntry)

-- a header with the channel on which it came
pub record Sent : Type 0 where
  pub channel : ℕ
  pub header : Fields

-- the number of a channel and application
abbrev pub pair_key : ℕ → ℕ → ℕ
pair_key channel application = 2048 * channel + application

-- that of the pair of a header
abbrev pub key_of : Sent → ℕ
key_of p = pair_key p.channel p.header.application

-- idle packets have no sequence
abbrev pub is_idle : Fields → Bool
is_idle h = h.application == 2047

-- a header of the pair of this key
abbrev pub belongs : ℕ → Sent → Bool
belongs key p = not (is_idle p.header) && (key_of p == key)

-- the headers of a pair
abbrev pub pair : ℕ → List Sent → List Fields
pair key [] = []
pair key (p ∷ ps) = (if belongs key p then p.header ∷ [] else []) ++ pair key ps

-- the entry of a key
abbrev pub entry_at : Entries → ℕ → Option PairEntry
entry_at entries key = slice_index_or entries key None

-- The notes of a header are those at its place among the headers of its pair.
abbrev pub notes_at : Entries → List Sent → Sent → List Sent → List Note
notes_at entries before p ahead =
    if is_idle p.header then []
    else slice_index_or (pair_notes (entry_at entries (key_of p)) (pair (key_of p) (before ++ p ∷ ahead))) (length (pair (key_of p) before)) []

-- the notes of the headers ahead, a list for each, where others came before
abbrev pub notes_behind : Entries → List Sent → List Sent → List (List Note)
notes_behind entries before [] = []
notes_behind entries before (p ∷ ps) = notes_at entries before p ps ∷ notes_behind entries (before ++ p ∷ []) ps

-- the notes of headers, a list for each, from the entries of all keys
abbrev pub notes : Entries → List Sent → List (List Note)
notes entries ps = notes_behind entries [] ps

-- the entries from this key on after headers
abbrev pub after_from : ℕ → Entries → List Sent → Entries
after_from key [] ps = []
after_from key (e ∷ es) ps = pair_after e (pair key ps) ∷ after_from (key + 1) es ps

-- the entries of all keys after headers
abbrev pub entries_after : Entries → List Sent → Entries
entries_after entries ps = after_from 0 entries ps

-- no entries
unfoldable pub no_entries : Entries
no_entries = replicate 16384 None

-- the open group of a key, with its last count and, if there is a group, its first
abbrev pub unclosed_with : ℕ → ℕ → Option ℕ → List Unclosed
unclosed_with key count None = []
unclosed_with key count (Some first) = record { key = key; note = Broken first count why.Close } ∷ []

-- the open group of a key, if its entry has one
abbrev pub unclosed_at : ℕ → Option PairEntry → List Unclosed
unclosed_at key None = []
unclosed_at key (Some e) = unclosed_with key e.count e.first

-- the open groups of keys from a number on, by rising key
abbrev pub unclosed : ℕ → Entries → List Unclosed
unclosed key [] = []
unclosed key (e ∷ es) = unclosed_at key e ++ unclosed (key + 1) es

-- the first of them
abbrev pub next_unclosed_of : Entries → ℕ → Option Unclosed
next_unclosed_of entries at = slice_get (unclosed at (drop at entries)) 0
