-- What a run gave and lost, in numbers: of one item, one record, and all that it read.
use Rattle.std.proofs.Common.{◌≡◌, ◌+◌, ◌%◌, ◌^◌, ◌||◌, ℕ, Bool, true, false, List, [], ◌∷◌, ◌++◌, refl, sym, ap, ◌∙◌, append-nil, append_assoc, arith, Option, Some, None, Ok, Err, replicate, if◌then◌else◌, sum_by}
use Rattle.std.specs.List.{AllByRecursion, list_any}
use Rattle.std.proofs.lemmas.List.Folds.{list_any-append}
use Rattle.std.proofs.lemmas.List.Sums.{sum_by_push}
use Rattle.std.proofs.Math.Bool.{or-false}
use Rattle.tm_frame.specs.Fault.{frame_reading_of}
use Rattle.tm_frame.specs.Frame.{GoodFrame}
use Rattle.tm_frame.specs.Rules.{Rules, chooses}
use Rattle.tm_packet.specs.declared.notes.Note.{Note}
use Rattle.tm_packet.specs.declared.tracker.Unclosed.{Unclosed}
use Rattle.tm_packet.specs.Header.{packet_header_of}
use Rattle.tm_packet.specs.Merge as sequence
use Rattle.tm_packet.specs.Merge.{Entries, pair_key}
use Rattle.tm_items.specs.Item.{Item, Bad, MasterGap, Gap, Vca, Dropped, Packet, Short}
use Rattle.tm_reassembly.specs.Items.{closing}
use Rattle.tm_reassembly.specs.Readings.{FrameReading}
use Rattle.tm_reassembly.specs.Recording.{is_chosen_frame, is_chosen_reading}
use Rattle.tm_output.specs.declared.command.Ending.{Ending}
use Rattle.tm_output.specs.declared.command.Ending.TheVariants.{Close, Keep, StopAfter}
use Rattle.tm_output.specs.declared.totals.Totals.{Totals}
use Rattle.tm_output.specs.Pieces.{HasLine, Texts, noted, noted_all, notes_of, sent}
use Rattle.tm_output.specs.Totals.{capped, no_totals, note_tells_loss, notes_tell_loss, totals_with_item, totals_with_items, with_line, with_loss, with_record, with_unclosed}
use Rattle.tm_output.specs.code.Outlets.{GivesNone}
use Rattle.tm_summary.specs.Kinds.{Noted, drop_octets, is_bad, master_missing}
use Rattle.tm_summary.specs.SummaryNumbers.{Tally, and_note, in_all, nothing}
use Rattle.tm_summary.specs.Tallies.{and_items, and_notes, noted_at, notes_among, notes_in, open_notes}
use Rattle.tm_summary.proofs.OneMore.{how_many_more, in_all_more}
use Rattle.tm_checkpoint.specs.Works.{Work}
use Rattle.tm_tool.specs.RecordingPieces.{items_of, worked}
use Rattle.tm_tool.specs.RunTotals.{absent_channels, frames_in, is_remarked, item_tells_loss, run_tally, run_totals, totals_of}
use Rattle.tm_tool.specs.code.Stepping.{with_end}
use Rattle.tm_tool.specs.code.Summing.{CountedRecords, and_records}
use Rattle.tm_tool.proofs.Running.{noted-append}
use Rattle.tm_tool.proofs.SummaryEnds.{notes_among-append}

-- ---- one item more

any_push : {X : Type 0} (test : X → Bool) (xs : List X) (x : X) → list_any test (xs ++ x ∷ []) ≡ list_any test xs || test x
any_push test xs x = list_any-append test xs (x ∷ []) ∙ ap (λ (b : Bool). list_any test xs || b) (or-false (test x))

any_noted : (key : ℕ) (notes : List Note) → list_any (λ (n : Noted). note_tells_loss n.note) (noted_at key notes) ≡ notes_tell_loss notes
any_noted key [] = refl
any_noted key (n ∷ ns) = ap (λ (b : Bool). note_tells_loss n || b) (any_noted key ns)

zero_more : {X : Type 0} (part : X → ℕ) (xs : List X) → capped (in_all part xs + 0) ≡ in_all part xs
unfolding in_all
zero_more part xs = omega arith

-- a number modulo 2^64, and one more
one_wrapped : (n : ℕ) → (n + 1) % 2 ^ 64 ≡ (n % 2 ^ 64 + 1) % 2 ^ 64
one_wrapped n = omega arith

wrapped : (n : ℕ) (b : Bool) → (n + (if b then 1 else 0)) % 2 ^ 64 ≡ (if b then (n % 2 ^ 64 + 1) % 2 ^ 64 else n % 2 ^ 64)
wrapped n true = one_wrapped n
wrapped n false = omega arith

loss_packet : (a b c lost short : Bool) → (a || (b || c)) || (lost || short) ≡ (a || false) || ((b || lost) || (c || short))
loss_packet true b c lost short = refl
loss_packet false true c lost short = refl
loss_packet false false true true short = refl
loss_packet false false true false short = refl
loss_packet false false false lost short = refl

loss_line : (a b c : Bool) → true ≡ (a || true) || ((b || false) || (c || false))
loss_line true b c = refl
loss_line false b c = refl

no_loss_line : (a b c : Bool) → a || (b || c) ≡ (a || false) || ((b || false) || (c || false))
no_loss_line true b c = refl
no_loss_line false true c = refl
no_loss_line false false true = refl
no_loss_line false false false = refl

module _ {A : Type 0} (text : Texts A) (rules : Rules) where
  abbrev numbers : Tally → Totals
  numbers t = totals_of text rules t

  abbrev remarks : List Item → Bool
  remarks xs = list_any (is_remarked text) xs

  abbrev note_losses : List Noted → Bool
  note_losses ns = list_any (λ (n : Noted). note_tells_loss n.note) ns

  -- the numbers of a list with this item and these notes more
  item_more : (t : Tally) (x : Item) (ns : List Noted)
      → numbers (record { frames = t.frames; items = t.items ++ x ∷ []; notes = t.notes ++ ns })
      ≡ record {
        good = (numbers t).good;
        bad = if is_bad x then capped ((numbers t).bad + 1) else (numbers t).bad;
        missing = capped ((numbers t).missing + master_missing x);
        dropped = capped ((numbers t).dropped + drop_octets x);
        packets = if text.given x then ((numbers t).packets + 1) % 2 ^ 64 else (numbers t).packets;
        short = if is_remarked text x then capped ((numbers t).short + 1) else (numbers t).short;
        has_losses = (list_any item_tells_loss t.items || item_tells_loss x)
            || ((note_losses t.notes || note_losses ns) || (remarks t.items || is_remarked text x));
        absent = replicate 8 false;
      }
  item_more t x ns =
      rw (
        how_many_more is_bad t.items x,
        in_all_more master_missing t.items x,
        in_all_more drop_octets t.items x,
        sum_by_push (λ (y : Item). if text.given y then 1 else 0) t.items x,
        wrapped (sum_by (λ (y : Item). if text.given y then 1 else 0) t.items) (text.given x),
        how_many_more (is_remarked text) t.items x,
        any_push item_tells_loss t.items x,
        list_any-append (λ (n : Noted). note_tells_loss n.note) t.notes ns,
        any_push (is_remarked text) t.items x,
      ) refl

  module _ (none : (x : Item) → HasLine x → GivesNone text x) where
    line_more : (e : Entries) (t : Tally) (x : Item) → HasLine x → with_line (numbers t) x ≡ numbers (record { frames = t.frames; items = t.items ++ x ∷ []; notes = t.notes ++ [] })
    unfolding with_line
    line_more e t (Packet seen channel first place octets) has = absurd has
    line_more e t (Bad seen fault) has =
        rw (
          item_more t (Bad seen fault) [],
          (none (Bad seen fault) has).1,
          (none (Bad seen fault) has).2,
          zero_more master_missing t.items,
          zero_more drop_octets t.items,
          ← loss_line (list_any item_tells_loss t.items) (note_losses t.notes) (remarks t.items),
        ) refl
    line_more e t (MasterGap seen expected found missing) has =
        let x : Item = MasterGap seen expected found missing in
        rw (
          item_more t x [],
          (none x has).1,
          (none x has).2,
          zero_more drop_octets t.items,
          ← loss_line (list_any item_tells_loss t.items) (note_losses t.notes) (remarks t.items),
        ) refl
    line_more e t (Gap seen channel expected found missing) has =
        let x : Item = Gap seen channel expected found missing in
        rw (
          item_more t x [],
          (none x has).1,
          (none x has).2,
          zero_more master_missing t.items,
          zero_more drop_octets t.items,
          ← loss_line (list_any item_tells_loss t.items) (note_losses t.notes) (remarks t.items),
        ) refl
    line_more e t (Vca seen channel) has =
        let x : Item = Vca seen channel in
        rw (
          item_more t x [],
          (none x has).1,
          (none x has).2,
          zero_more master_missing t.items,
          zero_more drop_octets t.items,
          ← no_loss_line (list_any item_tells_loss t.items) (note_losses t.notes) (remarks t.items),
        ) refl
    line_more e t (Dropped seen channel first place octets reason) has =
        let x : Item = Dropped seen channel first place octets reason in
        rw (
          item_more t x [],
          (none x has).1,
          (none x has).2,
          zero_more master_missing t.items,
          ← loss_line (list_any item_tells_loss t.items) (note_losses t.notes) (remarks t.items),
        ) refl
    line_more e t (Short seen octets) has =
        let x : Item = Short seen octets in
        rw (
          item_more t x [],
          (none x has).1,
          (none x has).2,
          zero_more master_missing t.items,
          zero_more drop_octets t.items,
          ← no_loss_line (list_any item_tells_loss t.items) (note_losses t.notes) (remarks t.items),
        ) refl

    packet_more : (e : Entries) (t : Tally) (seen channel first place : ℕ) (octets : List ℕ)
        → totals_with_item text e (numbers t) (Packet seen channel first place octets) ≡ numbers (and_items t e (Packet seen channel first place octets ∷ []))
    unfolding totals_with_item notes_in
    packet_more e t seen channel first place octets =
        let x : Item = Packet seen channel first place octets in
        let notes : List Note = notes_of e (sent channel octets) in
        let key : ℕ = pair_key channel (packet_header_of octets).application in
        rw (
          append-nil (noted_at key notes),
          item_more t x (noted_at key notes),
          any_noted key notes,
          zero_more master_missing t.items,
          zero_more drop_octets t.items,
          ← loss_packet (list_any item_tells_loss t.items) (note_losses t.notes) (remarks t.items) (notes_tell_loss notes) (is_remarked text x),
        ) refl

    given_more : (e : Entries) (t : Tally) (x : Item) → totals_with_item text e (numbers t) x ≡ numbers (and_items t e (x ∷ []))
    unfolding totals_with_item notes_in
    given_more e t (Packet seen channel first place octets) = packet_more e t seen channel first place octets
    given_more e t x = line_more e t x tt

    -- items more
    pub items_more : (e : Entries) (t : Tally) (xs : List Item) → totals_with_items text e (numbers t) xs ≡ numbers (and_items t e xs)
    items_more e t [] = rw (append-nil t.items, append-nil t.notes) refl
    items_more e t (x ∷ xs) =
        ap (λ (n : Totals). totals_with_items text (noted e x) n xs) (given_more e t x)
        ∙ items_more (noted e x) (and_items t e (x ∷ [])) xs
        ∙ rw (append_assoc t.items (x ∷ []) xs, append-nil (notes_in e x), append_assoc t.notes (notes_in e x) (notes_among (noted e x) xs)) refl

    -- ---- a record more

    frames_more : (u : Tally) (r : FrameReading) → with_record (numbers u) (is_chosen_reading rules r)
        ≡ numbers (record { frames = u.frames ++ (frames_in r ++ []); items = u.items; notes = u.notes })
    frames_more u (Ok f) = rw (how_many_more (λ (g : GoodFrame). chooses rules g.channel) u.frames f) refl
    frames_more u (Err fault) = rw (append-nil u.frames) refl

    -- its items, and its frame
    pub record_counted : (w : Work) → w.rules ≡ rules → (octets : List ℕ) (before after : Totals) (chosen : Bool)
        → after ≡ with_record (totals_with_items text w.entries before (items_of w (octets ∷ []))) chosen → chosen ≡ is_chosen_frame rules octets
        → CountedRecords numbers w (octets ∷ []) before after
    record_counted w same octets before after chosen after_is chosen_is t are =
        let xs : List Item = items_of w (octets ∷ []) in
        let all = ap (λ (n : Totals). totals_with_items text w.entries n xs) are ∙ items_more w.entries t xs in
        let frames = ap (λ (r : Rules). frame_reading_of r.layout octets) same in
        after_is
        ∙ ap (λ (n : Totals). with_record n chosen) all
        ∙ ap (with_record (numbers (and_items t w.entries xs))) chosen_is
        ∙ frames_more (and_items t w.entries xs) (frame_reading_of rules.layout octets)
        ∙ ap (λ (r : FrameReading). numbers (record {
          frames = t.frames ++ (frames_in r ++ []);
          items = t.items ++ xs;
          notes = t.notes ++ notes_among w.entries xs;
        })) (sym frames)

    -- ---- the end

    -- a group that is open tells a loss
    unclosed_lose : (key count : ℕ) (first : Option ℕ) (us : List Unclosed) → AllByRecursion (λ u. note_tells_loss u.note ≡ true) us
        → AllByRecursion (λ u. note_tells_loss u.note ≡ true) (sequence.unclosed_with key count first ++ us)
    unclosed_lose key count None us lose = lose
    unclosed_lose key count (Some first) us lose = (refl, lose)

    all_lose : (key : ℕ) (es : Entries) → AllByRecursion (λ u. note_tells_loss u.note ≡ true) (sequence.unclosed key es)
    all_lose key [] = tt
    all_lose key (None ∷ es) = all_lose (key + 1) es
    all_lose key (Some e ∷ es) = unclosed_lose key e.count e.first (sequence.unclosed (key + 1) es) (all_lose (key + 1) es)

    loss_note : (a b c : Bool) → true ≡ a || ((b || true) || c)
    loss_note true b c = refl
    loss_note false true c = refl
    loss_note false false c = refl

    note_more : (t : Tally) (n : Noted) → note_tells_loss n.note ≡ true → with_loss (numbers t) ≡ numbers (and_note t n)
    note_more t n loses =
        rw (any_push (λ (m : Noted). note_tells_loss m.note) t.notes n, loses, ← loss_note (list_any item_tells_loss t.items) (note_losses t.notes) (remarks t.items)) refl

    open_more : (t : Tally) (us : List Unclosed) → AllByRecursion (λ u. note_tells_loss u.note ≡ true) us
        → with_unclosed (numbers t) us ≡ numbers (and_notes t (open_notes us))
    open_more t [] lose = ap (λ (l : List Noted). numbers (record { frames = t.frames; items = t.items; notes = l })) (sym (append-nil t.notes))
    open_more t (u ∷ us) lose =
        let one : Noted = record { key = u.key; note = u.note } in
        ap (λ (n : Totals). with_unclosed n us) (note_more t one lose.0)
        ∙ open_more (and_note t one) us lose.1
        ∙ ap (λ (l : List Noted). numbers (record { frames = t.frames; items = t.items; notes = l })) (append_assoc t.notes (one ∷ []) (open_notes us))

-- nothing is given and lost where nothing is told
none_told : {A : Type 0} (text : Texts A) (rules : Rules) → no_totals ≡ totals_of text rules nothing
unfolding in_all
none_told text rules = refl

-- what a run tells of records and of its ending
module _ {A : Type 0} (text : Texts A) (none : (x : Item) → HasLine x → GivesNone text x) (w : Work) (rs : List (List ℕ)) where
  abbrev so_far : Totals
  so_far = totals_of text w.rules (and_records w nothing rs)

  abbrev told : Ending → ℕ → Totals
  told ending rest = totals_of text w.rules (run_tally ending w rs rest)

  kept_end : (rest : ℕ) → so_far ≡ told Keep rest
  kept_end rest = rw (append-nil (items_of w rs)) (rw (append-nil (notes_among w.entries (items_of w rs))) refl)

  pub ended : (ending : Ending) (rest : ℕ) → with_end text ending (worked w rs) rest so_far ≡ told ending rest
  ended Keep rest = kept_end rest
  ended (StopAfter n) rest = kept_end rest
  ended Close rest =
      let v : Work = worked w rs in
      let xs : List Item = closing v.state rest in
      let us : List Unclosed = sequence.unclosed 0 (noted_all v.entries xs) in
      ap (λ (n : Totals). with_unclosed n us) (items_more text w.rules none v.entries (and_records w nothing rs) xs)
      ∙ open_more text w.rules none (and_items (and_records w nothing rs) v.entries xs) us (all_lose text w.rules none 0 (noted_all v.entries xs))
      ∙ rw (noted-append w.entries (items_of w rs) xs) (rw (notes_among-append w.entries (items_of w rs) xs) refl)

module _ {A : Type 0} (text : Texts A) (none : (x : Item) → HasLine x → GivesNone text x) (w : Work) where
  -- so a run over records that were counted, and their ending, counts them
  pub run_counted : (ending : Ending) (rs : List (List ℕ)) (v : Work) (rest : ℕ) (before mid now : Totals) → before ≡ no_totals
      → CountedRecords (totals_of text w.rules) w rs before mid → v ≡ worked w rs → now ≡ with_end text ending v rest mid
      → (absent : List Bool) → absent ≡ absent_channels v → record now { absent = absent } ≡ run_totals text ending w rs rest
  run_counted ending rs v rest before mid now begun counted at now_is absent absent_is =
      let sum = counted nothing (begun ∙ none_told text w.rules) in
      let all : now ≡ totals_of text w.rules (run_tally ending w rs rest) = now_is ∙ rw (sum, at) (ended text none w rs ending rest) in
      ap (λ (t : Totals). record t { absent = absent }) all
      ∙ ap (λ (l : List Bool). record (totals_of text w.rules (run_tally ending w rs rest)) { absent = l }) (absent_is ∙ ap absent_channels at)
