-- What a sink that counts does with a packet, with another item, and with open groups.
use Rattle.std.proofs.Common.{◌≡◌, ℕ, List, [], ◌∷◌, ◌++◌, length, refl}
use Rattle.tm_packet.specs.declared.notes.Note.{Note}
use Rattle.tm_packet.specs.declared.tracker.Unclosed.{Unclosed}
use Rattle.tm_packet.specs.Header.{Fields, packet_header_of}
use Rattle.tm_packet.specs.Merge as sequence
use Rattle.tm_items.specs.Item.{Item, Packet}
use Rattle.tm_output.specs.Pieces.{HasLine, noted, notes_of}
use Rattle.tm_output.proofs.PacketLemmas.{notes_one}
use Rattle.tm_summary.specs.Adding.{with_item, with_note, with_packet}
use Rattle.tm_packet.specs.Merge.{Entries, pair_key}
use Rattle.tm_summary.specs.SummaryNumbers.{SummaryNumbers}
use Rattle.tm_summary.specs.Tallies.{with_given, noted_numbers, with_open}

pub packet_given : (n m r : SummaryNumbers) (e : Entries) (seen channel application size key : ℕ) (octets : List ℕ) (h : Fields) (notes : List Note)
    → h ≡ packet_header_of octets → application ≡ h.application → size ≡ length octets → key ≡ pair_key channel application
    → m ≡ with_packet n seen channel application size → sequence.notes e (record { channel = channel; header = h } ∷ []) ≡ notes ∷ []
    → r ≡ noted_numbers m key notes → r ≡ with_given e n (Packet seen channel 0 0 octets)
unfolding with_given with_item
packet_given n m r e seen channel application size key octets h notes is of long at counted noted all =
    let given : notes ≡ notes_of e (record { channel = channel; header = h }) = notes_one e (record { channel = channel; header = h }) notes noted in
    rw (all, counted, given, at, long, of, is) refl

pub line_given : (e : Entries) (n : SummaryNumbers) (x : Item) → HasLine x → with_given e n x ≡ with_item n x
unfolding with_given
line_given e n (Packet seen channel first place octets) has = absurd has
line_given e n _ has = refl

pub line_noted : (e : Entries) (x : Item) → HasLine x → noted e x ≡ e
unfolding noted
line_noted e (Packet seen channel first place octets) has = absurd has
line_noted e _ has = refl

-- open groups that are counted one after the other
pub open_more : (n : SummaryNumbers) (us : List Unclosed) (u : Unclosed) → with_open n (us ++ u ∷ []) ≡ with_note (with_open n us) u.key u.note
open_more n [] u = refl
open_more n (v ∷ vs) u = open_more (with_note n v.key v.note) vs u
