-- Packets that a sink is given, and their notes.
use Rattle.std.proofs.Common.{◌≡◌, ◌≢◌, ◌<◌, ◌≤◌, ℕ, Ok, Err, Result, List, [], ◌∷◌, ◌++◌, length, take, refl, sym, ap, subst, ◌∙◌, append-nil, arith}
use Rattle.std.specs.List.{flat_map}
use Rattle.std.proofs.lemmas.Bool.{eqb-true}
use Rattle.tm_bits.proofs.PartLemmas.{part-word}
use Rattle.tm_packet.specs.declared.header.PacketFault.{PacketFault}
use Rattle.tm_packet.specs.declared.notes.Note.{Note}
use Rattle.tm_packet.specs.declared.notes.Note.TheVariants as note
use Rattle.tm_packet.specs.Header.{Fields, packet_header_of, header_reading_of, packet_version_of}
use Rattle.tm_packet.specs.Merge as sequence
use Rattle.tm_packet.specs.Merge.{Entries, Sent}
use Rattle.tm_packet.proofs.HeaderLemmas.{reading_ok}
use Rattle.tm_items.specs.Item.{Item, Packet}
use Rattle.tm_items.specs.OnePacket.{IsOnePacket}
use Rattle.tm_items.proofs.Reaching.{packet_length_least}
use Rattle.tm_lines.specs.Lines.{note_line, note_lines}
use Rattle.tm_output.specs.Pieces.{HasLine, item_line, notes_of, report_of, sent}

pub version_front : (octets : List ℕ) → 0 < length octets → packet_version_of (take 1 octets) ≡ packet_version_of octets
version_front [] some = absurd (omega arith)
version_front (x ∷ xs) some =
    part-word 1 (x ∷ []) 0 3 (omega arith) (omega arith) (omega arith) ∙ sym (part-word 1 (x ∷ xs) 0 3 (omega arith) (omega arith) (omega arith))

-- a whole packet has a header
pub packet_read : (octets : List ℕ) → IsOnePacket octets → header_reading_of octets ≡ Ok (packet_header_of octets)
packet_read octets one =
    let least = packet_length_least octets in
    let long : 7 ≤ length octets = omega (arith, one.whole) in
    reading_ok octets (omega arith) (sym (version_front octets (omega arith)) ∙ eqb-true (packet_version_of (take 1 octets)) 0 one.version)

pub packet_not : (octets : List ℕ) (r : Result Fields PacketFault) (fault : PacketFault) → IsOnePacket octets → r ≡ header_reading_of octets → r ≡ Err fault → ⊥
packet_not octets r fault one is refused = err_ok (sym refused ∙ is ∙ packet_read octets one)
  where
    err_ok : ◌≡◌ {A = Result Fields PacketFault} (Err fault) (Ok (packet_header_of octets)) → ⊥
    err_ok p = cc

-- the notes of one header
pub notes_one : (entries : Entries) (p : Sent) (notes : List Note) → sequence.notes entries (p ∷ []) ≡ notes ∷ [] → notes ≡ notes_of entries p
unfolding notes_of
notes_one entries p notes is = sym (ap (flat_map (λ (ns : List Note). ns)) is ∙ append-nil notes)

-- for a packet without notes the report says nothing more than a remark
pub no_report : (entries : Entries) (seen channel first place : ℕ) (header : Fields) (octets more : List ℕ) → header ≡ packet_header_of octets
    → sequence.notes entries (record { channel = channel; header = header } ∷ []) ≡ [] ∷ [] → more ≡ []
    → report_of entries (Packet seen channel first place octets) ++ more ≡ []
unfolding report_of
no_report entries seen channel first place header octets more is none silent =
    let lines : note_lines seen channel (packet_header_of octets).application (notes_of entries (sent channel octets)) ≡ [] =
    subst (λ (h : Fields). note_lines seen channel h.application (notes_of entries (record { channel = channel; header = h })) ≡ []) is
    (sym (ap (note_lines seen channel header.application) (notes_one entries (record { channel = channel; header = header }) [] none))) in
    rw lines silent

-- a text that has nothing has nothing in front, and nothing after that
pub none_both : {A : Type 0} (xs ys : List A) → xs ++ ys ≡ [] → (xs ≡ []) × (ys ≡ [])
none_both [] ys e = (refl, e)
none_both (x ∷ xs) ys e = absurd (cc)

-- where there is a note there is a line
some_note : (seen channel application : ℕ) (n : Note) → note_line seen channel application n ≢ []
unfolding note_line
some_note seen channel application (note.Gap expected found missing) e = cc
some_note seen channel application _ e = cc

pub some_notes : (seen channel application : ℕ) (notes : List Note) → 0 < length notes → note_lines seen channel application notes ≢ []
some_notes seen channel application [] some e = absurd (omega arith)
some_notes seen channel application (n ∷ ns) some e = some_note seen channel application n (none_both _ _ e).0

-- the line of an item is what it gives the report, and all of that where nothing more is reported
pub line_report : (entries : Entries) (x : Item) (more : List ℕ) → HasLine x → more ≡ [] → item_line x ≡ report_of entries x ++ more
unfolding report_of
line_report entries (Packet seen channel first place octets) more has none = absurd has
line_report entries _ more has none = rw (none, append-nil) refl
