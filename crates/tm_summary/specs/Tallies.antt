-- What a sink that counts does with an item, and what it has counted of a list of items.
use Rattle.std.specs.Prelude.{◌≡◌, ℕ, ◌||◌, List, [], ◌∷◌, ◌++◌, map}
use Rattle.std.specs.List.{AllByRecursion}
use Rattle.tm_packet.specs.declared.notes.Note.{Note}
use Rattle.tm_packet.specs.declared.tracker.Unclosed.{Unclosed}
use Rattle.tm_packet.specs.Header.{packet_header_of}
use Rattle.tm_items.specs.Item.{Item, Packet}
use Rattle.tm_items.specs.Sinks.{ItemFits}
use Rattle.tm_faults.specs.declared.run.RunFault.{RunFault}
use Rattle.tm_output.specs.Pieces.{noted, notes_of, sent}
use Rattle.tm_summary.specs.declared.counting.Counting.{Counting}
use Rattle.tm_summary.specs.Adding.{with_item, with_note}
use Rattle.tm_summary.specs.Kinds.{Noted, is_bad}
use Rattle.tm_packet.specs.Merge.{Entries, pair_key}
use Rattle.tm_summary.specs.SummaryNumbers.{SummaryNumbers, Tally}

-- ---- the notes of packets, each with its channel and application

abbrev pub noted_at : ℕ → List Note → List Noted
noted_at key notes = map (λ n. record { key = key; note = n }) notes

unfoldable pub notes_in : Entries → Item → List Noted
notes_in entries (Packet seen channel first place octets) =
    noted_at (pair_key channel (packet_header_of octets).application) (notes_of entries (sent channel octets))
notes_in entries _ = []

-- those of all packets among items
abbrev pub notes_among : Entries → List Item → List Noted
notes_among entries [] = []
notes_among entries (x ∷ xs) = notes_in entries x ++ notes_among (noted entries x) xs

-- those of the groups that are open at a closed end
abbrev pub open_notes : List Unclosed → List Noted
open_notes us = map (λ u. record { key = u.key; note = u.note }) us

-- with these items more, and the notes of their packets
abbrev pub and_items : Tally → Entries → List Item → Tally
and_items t entries xs = record { frames = t.frames; items = t.items ++ xs; notes = t.notes ++ notes_among entries xs }

-- with these notes more
abbrev pub and_notes : Tally → List Noted → Tally
and_notes t ns = record { frames = t.frames; items = t.items; notes = t.notes ++ ns }

-- each item fits
abbrev pub AllFit : List Item → Type 0
AllFit xs = AllByRecursion ItemFits xs

-- ---- the numbers with one more and one more; the law of a sink that counts says that they are those of lists

-- with these notes on a channel and application more
abbrev pub noted_numbers : SummaryNumbers → ℕ → List Note → SummaryNumbers
noted_numbers n key [] = n
noted_numbers n key (note ∷ notes) = noted_numbers (with_note n key note) key notes

-- with an item more, and a packet's notes
unfoldable pub with_given : Entries → SummaryNumbers → Item → SummaryNumbers
with_given entries n (Packet seen channel first place octets) =
    noted_numbers (with_item n (Packet seen channel first place octets)) (pair_key channel (packet_header_of octets).application) (notes_of entries (sent channel octets))
with_given entries n x = with_item n x

abbrev pub with_all : Entries → SummaryNumbers → List Item → SummaryNumbers
with_all entries n [] = n
with_all entries n (x ∷ xs) = with_all (noted entries x) (with_given entries n x) xs

-- with these groups more that are open at a closed end
abbrev pub with_open : SummaryNumbers → List Unclosed → SummaryNumbers
with_open n [] = n
with_open n (u ∷ us) = with_open (with_note n u.key u.note) us

-- it holds the same references
abbrev pub SameReferences : Counting → Counting → Type 0
SameReferences old new = (new.tracker.ghost_name ≡ old.tracker.ghost_name) × (new.counts.ghost_name ≡ old.counts.ghost_name)

-- it takes an item that fits: it is counted, and its packet noted
pub record TakesTally (s : Counting) (x : Item) (t : Counting) : Type 0 where
  pub fits : ItemFits x
  pub same_tracker : t.tracker.ghost_name ≡ s.tracker.ghost_name
  pub same_counts : t.counts.ghost_name ≡ s.counts.ghost_name
  pub noted_is : t.tracker.now ≡ noted s.tracker.now x
  pub counted_is : t.counts.now ≡ with_given s.tracker.now s.counts.now x
  pub bad_is : t.bad ≡ is_bad x || s.bad

-- it refuses none
abbrev pub RefusesTally : Counting → Item → RunFault → Counting → Type 0
RefusesTally s x fault t = ⊥
