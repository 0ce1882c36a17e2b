-- What a work's pieces lack without its last master channel count: the gap of the master channel that the first good frame has.
use Rattle.std.proofs.Common.{◌≡◌, ⊎_elim, ℕ, ◌+◌, Ok, Err, Option, List, [], ◌∷◌, ◌++◌, length, refl, sym, ap, ◌∙◌, append_assoc, append-nil}
use Rattle.tm_frame.specs.Layout.{record_length_of}
use Rattle.tm_items.specs.Item.{Item, Bad, MasterGap}
use Rattle.tm_reassembly.specs.OlderForms.{leading_bad_items, first_master_gap, without_master}
use Rattle.tm_reassembly.specs.Items.{master_gap_item}
use Rattle.tm_reassembly.specs.Chain.{master_member}
use Rattle.tm_reassembly.specs.Readings.{FrameReading}
use Rattle.tm_reassembly.specs.Recording.{readings}
use Rattle.tm_bits.proofs.Each.{Each}
use Rattle.tm_reassembly.proofs.Joining.{gap-each}
use Rattle.tm_reassembly.proofs.OlderForms.{items-lack, states-meet}
use Rattle.tm_output.specs.declared.command.Ending.{Ending}
use Rattle.tm_output.specs.declared.command.Ending.TheVariants.{Close}
use Rattle.tm_checkpoint.specs.Checkpoints.{work_without_master}
use Rattle.tm_tool.specs.OlderVersions.{LacksGapLine, report_line_pieces}
use Rattle.tm_output.specs.code.Outlets.{GivesNone}
use Rattle.tm_output.specs.Outputs.{Piece}
use Rattle.tm_packet.specs.Merge.{Entries}
use Rattle.tm_output.specs.Pieces.{HasLine, Texts, item_line, noted, noted_all, piece_of, pieces_of, report_of}
use Rattle.tm_checkpoint.specs.Works.{Work}
use Rattle.tm_tool.specs.RecordingPieces.{records_for, end_pieces, further, items_of, pieces, record_pieces, worked}
use Rattle.tm_output.specs.Records.{rest_of}
use Rattle.tm_tool.proofs.Running.{IsValid, noted-append}

-- ---- items that are a line for the report, and nothing else

abbrev OnlyLine : Item → Type 0
OnlyLine (Bad seen fault) = Unit {0}
OnlyLine (MasterGap seen expected found missing) = Unit {0}
OnlyLine _ = ⊥

bad-lines : (number : ℕ) (rs : List FrameReading) → Each OnlyLine (leading_bad_items number rs)
bad-lines number [] = tt
bad-lines number (Err fault ∷ rs) = (tt, bad-lines (number + 1) rs)
bad-lines number (Ok f ∷ rs) = tt

gap-lines : (master : Option ℕ) (number : ℕ) (rs : List FrameReading) → Each OnlyLine (first_master_gap master number rs)
gap-lines master number [] = tt
gap-lines master number (Err fault ∷ rs) = gap-lines master (number + 1) rs
gap-lines master number (Ok f ∷ rs) = gap-each OnlyLine master_gap_item master (master_member number f) (λ expected. tt)

-- they leave the entries as they are
one-noted : (entries : Entries) (x : Item) → OnlyLine x → noted entries x ≡ entries
unfolding noted
one-noted entries (Bad seen fault) h = refl
one-noted entries (MasterGap seen expected found missing) h = refl
one-noted entries x h = absurd h

lines-noted : (entries : Entries) (xs : List Item) → Each OnlyLine xs → noted_all entries xs ≡ entries
lines-noted entries [] h = refl
lines-noted entries (x ∷ xs) h = ap (λ (e : Entries). noted_all e xs) (one-noted entries x h.0) ∙ lines-noted entries xs h.1

-- so they stand, and others after them
lines-first : (entries : Entries) (xs ys : List Item) → Each OnlyLine xs → noted_all entries (xs ++ ys) ≡ noted_all entries ys
lines-first entries xs ys h = noted-append entries xs ys ∙ ap (λ (e : Entries). noted_all e ys) (lines-noted entries xs h)

-- ---- of a work

module _ (w : Work) (rs : List (List ℕ)) (valid : IsValid w) where
  abbrev bad : List Item
  bad = leading_bad_items w.state.records (readings w.rules.layout rs)

  abbrev gap : List Item
  gap = first_master_gap w.state.master w.state.records (readings w.rules.layout rs)

  bad-are : Each OnlyLine bad
  bad-are = bad-lines w.state.records (readings w.rules.layout rs)

  gap-are : Each OnlyLine gap
  gap-are = gap-lines w.state.master w.state.records (readings w.rules.layout rs)

  states_same : without_master (worked w rs).state ≡ without_master (worked (work_without_master w) rs).state
  states_same =
      ⊎_elim (λ e. sym (ap without_master e)) (λ e. sym (ap without_master e.0)) (states-meet w.rules w.state rs valid)

  entries_same : noted_all w.entries (items_of w rs) ≡ noted_all w.entries (items_of (work_without_master w) rs)
  entries_same =
      let h = items-lack w.rules w.state rs valid in
      ap (noted_all w.entries) h.all_is
      ∙ lines-first w.entries bad (gap ++ h.back) bad-are ∙ lines-first w.entries gap h.back gap-are
      ∙ sym (ap (noted_all w.entries) h.fewer_is ∙ lines-first w.entries bad h.back bad-are)

  -- the works that records leave differ in the last master channel count alone
  works_same : work_without_master (worked w rs) ≡ work_without_master (worked (work_without_master w) rs)
  works_same = rw (states_same, entries_same) refl

module _ {A : Type 0} (text : Texts A) where
  -- what an ending has does not rest on the last master channel count
  same_end : (ending : Ending) (w : Work) (rest : ℕ) → end_pieces text ending w rest ≡ end_pieces text ending (work_without_master w) rest
  same_end Close w rest = refl
  same_end _ w rest = refl

  pub ends_same : (ending : Ending) (w : Work) (rs : List (List ℕ)) (rest : ℕ) → IsValid w
      → end_pieces text ending (worked (work_without_master w) rs) rest ≡ end_pieces text ending (worked w rs) rest
  ends_same ending w rs rest valid =
      rw (same_end ending (worked (work_without_master w) rs) rest, ← works_same w rs valid) (sym (same_end ending (worked w rs) rest))

-- ---- of texts that give nothing of an item with a line but that

module _ {A : Type 0} (text : Texts A) (none : (x : Item) → HasLine x → GivesNone text x) where
  line_piece : (entries : Entries) (x : Item) → OnlyLine x → piece_of text entries x ≡ record { out = []; report = item_line x }
  unfolding report_of
  line_piece entries (Bad seen fault) h =
      let gives = none (Bad seen fault) tt in rw (gives.0, gives.1, append-nil (item_line (Bad seen fault))) refl
  line_piece entries (MasterGap seen expected found missing) h =
      let gives = none (MasterGap seen expected found missing) tt in rw (gives.0, gives.1, append-nil (item_line (MasterGap seen expected found missing))) refl
  line_piece entries x h = absurd h

  lines-are : (entries : Entries) (xs ys : List Item) → Each OnlyLine xs → pieces_of text entries (xs ++ ys) ≡ report_line_pieces xs ++ pieces_of text entries ys
  lines-are entries [] ys h = refl
  lines-are entries (x ∷ xs) ys h =
      rw (one-noted entries x h.0, lines-are entries xs ys h.1)
      (ap (λ (p : Piece A). p ∷ (report_line_pieces xs ++ pieces_of text entries ys)) (line_piece entries x h.0))

  pub lacks_gap : (ending : Ending) (w : Work) (recording : List ℕ) → IsValid w
      → LacksGapLine w (records_for ending (further w recording)) (pieces text ending w recording) (pieces text ending (work_without_master w) recording)
  unfolding pieces
  lacks_gap ending w recording valid =
      let rs : List (List ℕ) = records_for ending (further w recording) in
      let rest : ℕ = length (rest_of (record_length_of w.rules.layout) recording) in
      let h = items-lack w.rules w.state rs valid in
      let end : List (Piece A) = end_pieces text ending (worked w rs) rest in
      let fore : List (Piece A) = report_line_pieces (bad w rs valid) in
      let line : List (Piece A) = report_line_pieces (gap w rs valid) in
      let back : List (Piece A) = pieces_of text w.entries h.back in
      let all : record_pieces text w rs ≡ fore ++ (line ++ back) =
      ap (pieces_of text w.entries) h.all_is ∙ lines-are w.entries (bad w rs valid) (gap w rs valid ++ h.back) (bad-are w rs valid)
      ∙ ap (λ (ps : List (Piece A)). fore ++ ps) (lines-are w.entries (gap w rs valid) h.back (gap-are w rs valid)) in
      let some : record_pieces text (work_without_master w) rs ≡ fore ++ back =
      ap (pieces_of text w.entries) h.fewer_is ∙ lines-are w.entries (bad w rs valid) h.back (bad-are w rs valid) in
      record {
        back = back ++ end;
        all_is = rw (all, append_assoc fore (line ++ back) end, append_assoc line back end) refl;
        fewer_is = rw (ends_same text ending w rs rest valid, some, append_assoc fore back end) refl;
      }
