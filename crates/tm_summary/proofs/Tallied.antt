-- What is counted of items and notes one by one is counted of their lists.
use Rattle.std.proofs.Common.{◌≡◌, ◌<◌, ◌≤◌, ◌+◌, ℕ, Option, None, Some, List, [], ◌∷◌, ◌++◌, length, refl, sym, ap, ◌∙◌, append_assoc, append-nil, arith}
use Rattle.std.specs.List.{AllByRecursion}
use Rattle.tm_frame.specs.Frame.{GoodFrame}
use Rattle.tm_packet.specs.declared.notes.Note.{Note}
use Rattle.tm_packet.specs.declared.tracker.Unclosed.{Unclosed}
use Rattle.tm_packet.specs.Header.{packet_header_of}
use Rattle.tm_packet.specs.Merge as sequence
use Rattle.tm_packet.proofs.AfterValid.{header-range}
use Rattle.tm_items.specs.Item.{Item, Packet}
use Rattle.tm_items.specs.Sinks.{ItemFits}
use Rattle.tm_output.specs.Pieces.{noted, notes_of, sent}
use Rattle.tm_summary.specs.Tallies.{AllFit, and_items, and_notes, noted_at, notes_among, notes_in, open_notes, with_all, with_given, noted_numbers, with_open}
use Rattle.tm_summary.specs.Kinds.{Noted}
use Rattle.tm_packet.specs.Merge.{Entries, pair_key}
use Rattle.tm_summary.specs.SummaryNumbers.{SummaryNumbers, Tally, and_item, and_note, numbers_of}
use Rattle.tm_summary.proofs.WithOne.{item_counted, note_counted}

abbrev tally : List GoodFrame → List Item → List Noted → Tally
tally frames items notes = record { frames = frames; items = items; notes = notes }

notes_counted : (frames : List GoodFrame) (items : List Item) (before : List Noted) (key : ℕ) (ns : List Note) → key < 16384
    → noted_numbers (numbers_of (tally frames items before)) key ns ≡ numbers_of (tally frames items (before ++ noted_at key ns))
notes_counted frames items before key [] below = ap (λ (l : List Noted). numbers_of (tally frames items l)) (sym (append-nil before))
notes_counted frames items before key (n ∷ ns) below =
    let one : Noted = record { key = key; note = n } in
    ap (λ (x : SummaryNumbers). noted_numbers x key ns) (sym (note_counted (tally frames items before) one below))
    ∙ notes_counted frames items (before ++ one ∷ []) key ns below
    ∙ ap (λ (l : List Noted). numbers_of (tally frames items l)) (append_assoc before (one ∷ []) (noted_at key ns))

-- each of these groups is of a channel and application
abbrev pub KeysFit : List Unclosed → Type 0
KeysFit us = AllByRecursion (λ u. u.key < 16384) us

keys_with : (key count : ℕ) (first : Option ℕ) (us : List Unclosed) → key < 16384 → KeysFit us → KeysFit (sequence.unclosed_with key count first ++ us)
keys_with key count None us below fit = fit
keys_with key count (Some first) us below fit = (below, fit)

pub keys_fit : (key : ℕ) (es : Entries) → key + length es ≤ 16384 → KeysFit (sequence.unclosed key es)
keys_fit key [] most = tt
keys_fit key (None ∷ es) most = keys_fit (key + 1) es (omega (arith, most))
keys_fit key (Some e ∷ es) most =
    keys_with key e.count e.first (sequence.unclosed (key + 1) es) (omega (arith, most)) (keys_fit (key + 1) es (omega (arith, most)))

pub open_counted : (t : Tally) (us : List Unclosed) → KeysFit us → with_open (numbers_of t) us ≡ numbers_of (and_notes t (open_notes us))
open_counted t [] fit = ap (λ (l : List Noted). numbers_of (tally t.frames t.items l)) (sym (append-nil t.notes))
open_counted t (u ∷ us) fit =
    let one : Noted = record { key = u.key; note = u.note } in
    ap (λ (x : SummaryNumbers). with_open x us) (sym (note_counted t one fit.0))
    ∙ open_counted (and_note t one) us fit.1
    ∙ ap (λ (l : List Noted). numbers_of (tally t.frames t.items l)) (append_assoc t.notes (one ∷ []) (open_notes us))

none_noted : (t : Tally) (x : Item) → numbers_of (and_item t x) ≡ numbers_of (tally t.frames (t.items ++ x ∷ []) (t.notes ++ []))
none_noted t x = ap (λ (l : List Noted). numbers_of (tally t.frames (t.items ++ x ∷ []) l)) (sym (append-nil t.notes))

-- with an item more, and a packet's notes
pub given_counted : (t : Tally) (e : Entries) (x : Item) → ItemFits x → with_given e (numbers_of t) x ≡ numbers_of (and_items t e (x ∷ []))
unfolding with_given notes_in
given_counted t e (Packet seen channel first place octets) fits =
    let x : Item = Packet seen channel first place octets in
    let inside : pair_key channel (packet_header_of octets).application < 16384 = omega (arith, fits.0, (header-range octets).application) in
    ap (λ (n : SummaryNumbers). noted_numbers n (pair_key channel (packet_header_of octets).application) (notes_of e (sent channel octets))) (sym (item_counted t x fits))
    ∙ notes_counted t.frames (t.items ++ x ∷ []) t.notes (pair_key channel (packet_header_of octets).application) (notes_of e (sent channel octets)) inside
    ∙ ap (λ (l : List Noted). numbers_of (tally t.frames (t.items ++ x ∷ []) (t.notes ++ l))) (sym (append-nil (notes_in e x)))
given_counted t e x fits = sym (item_counted t x fits) ∙ none_noted t x

-- and so with all items
pub all_counted : (t : Tally) (e : Entries) (xs : List Item) → AllFit xs → with_all e (numbers_of t) xs ≡ numbers_of (and_items t e xs)
all_counted t e [] fit = rw (append-nil t.items, append-nil t.notes) refl
all_counted t e (x ∷ xs) fit =
    ap (λ (n : SummaryNumbers). with_all (noted e x) n xs) (given_counted t e x fit.0)
    ∙ all_counted (and_items t e (x ∷ [])) (noted e x) xs fit.1
    ∙ rw (append_assoc t.items (x ∷ []) xs, append-nil (notes_in e x), append_assoc t.notes (notes_in e x) (notes_among (noted e x) xs)) refl
