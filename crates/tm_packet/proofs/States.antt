-- The states that the code makes are valid.
use Rattle.std.proofs.Common.{◌≡◌, ℕ, ◌+◌, ◌*◌, zero, suc, Option, None, length, get_or, refl, sym, subst}
use Rattle.std.proofs.Math.ListN.{replicate}
use Rattle.std.proofs.lemmas.List.{length-replicate}
use Rattle.tm_packet.specs.declared.tracker.PairEntry.{PairEntry}
use Rattle.tm_packet.specs.Merge.{Entries, entry_at, no_entries}
use Rattle.tm_packet.specs.Valid.{AreValidEntries, EntryFits}

get_or-none : (n i : ℕ) → get_or (replicate {A = Option PairEntry} n None) i None ≡ None
get_or-none zero i = refl
get_or-none (suc n) zero = refl
get_or-none (suc n) (suc i) = get_or-none n i

pub none_at : (key : ℕ) → entry_at no_entries key ≡ None
unfolding no_entries
none_at key = get_or-none 16384 key

none_fits : (e : Option PairEntry) → e ≡ None → EntryFits e
none_fits e h = subst EntryFits (sym h) tt

pub length-no_entries : length no_entries ≡ 16384
unfolding no_entries
length-no_entries = length-replicate {A = Option PairEntry} 16384 None

pub valid-none : AreValidEntries no_entries
valid-none = record { places = length-no_entries; fit = λ key. none_fits (entry_at no_entries key) (none_at key); idle = λ channel. none_at (2048 * channel + 2047) }

pub valid_empty : (s : Entries) → s ≡ no_entries → AreValidEntries s
valid_empty s h = rw h valid-none
