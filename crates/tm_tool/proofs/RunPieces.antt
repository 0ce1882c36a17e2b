-- How a run ended, in the words of the whole recording.
use Rattle.std.proofs.Common.{◌≡◌, ◌<◌, ◌+◌, ℕ, List, [], ◌++◌, length, refl, sym, ap, subst, ◌∙◌, length-drop, ⊎_elim, arith, Option, IfSome}
use Rattle.std.specs.List.{concat}
use Rattle.tm_frame.specs.Layout.{record_length_of}
use Rattle.tm_output.specs.declared.command.Ending.{Ending}
use Rattle.tm_output.specs.declared.command.Ending.TheVariants.{StopAfter}
use Rattle.tm_output.specs.declared.totals.Totals.{Totals}
use Rattle.tm_tool.specs.Courses.{RecordCourse, HasRun}
use Rattle.tm_tool.specs.Endings.{Suffices}
use Rattle.tm_output.specs.Outputs.{Piece, View, Took, Buffering}
use Rattle.tm_output.specs.Pieces.{Texts}
use Rattle.tm_output.specs.Records.{record_count, rest_of}
use Rattle.tm_checkpoint.specs.Works.{Work}
use Rattle.tm_tool.specs.RecordingPieces.{further, records_for, worked, pieces}
use Rattle.tm_tool.specs.RunTotals.{run_totals}
use Rattle.tm_tool.specs.Runs.{Outcome, Ran, course, devices_at, kept_of, Devices}
use Rattle.tm_tool.proofs.Courses.{enough_in, enough_more, octets_in, pieces_in, records_in, rest_in, rest_more}
use Rattle.tm_output.proofs.PieceLemmas.{took_took, took_none}
use Rattle.tm_output.proofs.RecordLemmas.{told}
use Rattle.tm_tool.specs.code.Stepping.{Leaves}
use Rattle.tm_tool.proofs.Running.{IsValid, is_course, pieces_whole}
use Rattle.tm_output.specs.Shelves.{Shelves, shelf_text, shelf_buffering}
use Rattle.tm_output.specs.code.ShelfLaws.{shelves_nil, shelves_trans}
use Rattle.tm_tool.specs.declared.extractor.Extractor.{Extractor}
use Rattle.tm_tool.specs.code.Extractors.{IsReady, work_in}

module _ {A K : Type 0} (grows : K → K → List A → Type 0) (grows-nil : (k : K) → grows k k [])
    (grows-trans : (j k l : K) (xs ys : List A) → grows j k xs → grows k l ys → grows j l (xs ++ ys))
    (buffering : Buffering) (text : Texts A) (ending : Ending) (w : Work) (valid : IsValid w) (some : 0 < record_length_of w.rules.layout)
    (first next : Option (List ℕ)) (old new : View K) (failures failures' : ℕ) (head : List (Piece A)) where
  -- a run in records is one in octets
  pub ran_behind : (mid : View K) (left : Work) (totals : Totals) → Took grows old mid head
      → HasRun grows buffering (course text ending w) first next mid new (Leaves text ending w left totals)
      → Ran grows buffering text ending w head (devices_at first failures old) (devices_at next failures' new) left.state.records (kept_of ending left) totals
  ran_behind mid left totals headed r =
      let c : RecordCourse A = course text ending w in
      let own = is_course text ending w valid in
      let are = records_in c own some first next r.read r.rest r.passed r.ended in
      let rest = rest_in c own some first next r.read r.rest r.passed r.ended in
      let took : Took grows mid new (pieces text ending w (concat r.read ++ r.rest)) =
      rw (pieces_whole text ending w valid (concat r.read ++ r.rest), pieces_in c own some first next r.read r.rest r.passed r.ended) r.took in
      record {
        read = concat r.read ++ r.rest;
        octets = (octets_in c own some first next r.read r.rest r.passed r.ended).octets;
        enough = enough_in c own some first next r.read r.rest r.passed r.ended;
        outcome = record {
          took = took_took grows grows-nil grows-trans old mid new head (pieces text ending w (concat r.read ++ r.rest)) headed took;
          count_is = r.holds.0 ∙ omega (arith, ap (λ (rs : List (List ℕ)). length rs) are, length-drop w.state.records r.read, r.passed);
          kept_is = r.holds.1 ∙ ap (λ (rs : List (List ℕ)). kept_of ending (worked w rs)) (sym are);
          totals_is = rw (are, rest) r.holds.2;
        };
      }

  -- where no more are wanted the numbers are the same, whatever is left
  end_totals : (e : Ending) (count : ℕ) → Suffices e w.state.records count → (rs : List (List ℕ)) (m n : ℕ) → run_totals text e w rs m ≡ run_totals text e w rs n
  end_totals (StopAfter k) count h rs m n = refl
  end_totals _ count h rs m n = absurd h

  -- and it says the same of a recording that tells its octets
  pub ran_told : (count : ℕ) (kept : Option Work) (totals : Totals)
      → Ran grows buffering text ending w head (devices_at first failures old) (devices_at next failures' new) count kept totals
      → IfSome first (λ octets. Outcome grows buffering text ending w head octets old new count kept totals)
  ran_told count kept totals h =
      told _ h.read first next h.octets (λ left end.
      let c : RecordCourse A = course text ending w in
      let same = enough_more c (is_course text ending w valid) some h.read left next h.enough end in
      let pieces_same = pieces_whole text ending w valid (h.read ++ left) ∙ same.1 ∙ sym (pieces_whole text ending w valid h.read) in
      let rs : List (List ℕ) = records_for ending (further w h.read) in
      let size : ℕ = record_length_of w.rules.layout in
      let numbers : run_totals text ending w rs (length (rest_of size (h.read ++ left))) ≡ run_totals text ending w rs (length (rest_of size h.read)) =
      ⊎_elim (λ (e : rest_of size (h.read ++ left) ≡ rest_of size h.read). ap (λ (l : List ℕ). run_totals text ending w rs (length l)) e)
      (λ (e : Suffices ending w.state.records (record_count size h.read)). end_totals ending (record_count size h.read) e rs _ _)
      (rest_more c (is_course text ending w valid) some h.read left next h.enough end) in
      record {
        took = rw pieces_same h.outcome.took;
        count_is = h.outcome.count_is ∙ ap (λ (l : List (List ℕ)). w.state.records + length l) (sym same.0);
        kept_is = h.outcome.kept_is ∙ ap (λ (l : List (List ℕ)). kept_of ending (worked w l)) (sym same.0);
        totals_is = rw (same.0, numbers) h.outcome.totals_is;
      })

-- ---- a run into a shelf

pub ran_split : (ending : Ending) (e : Extractor) (work left : Work) (old new : Devices (Option (ℕ → List ℕ))) (records : ℕ) (kept : Option Work)
    (totals given : Totals) → IsReady e → work ≡ work_in e → records ≡ left.state.records → kept ≡ kept_of ending left → given ≡ totals
    → HasRun Shelves shelf_buffering (course shelf_text ending (work_in e)) old.left new.left old.outputs new.outputs (Leaves shelf_text ending (work_in e) left totals)
    → Ran Shelves shelf_buffering shelf_text ending work [] old new records kept given
ran_split ending e work left old new records kept totals given ready work_is records_are kept_is given_is run =
    rw (work_is, records_are, kept_is, given_is)
    (ran_behind Shelves shelves_nil shelves_trans _ _ _ _ ready.going.1 (subst (λ (n : ℕ). 0 < n) ready.exact ready.some) _ _ _ _ _ _ _ _ _ _
    (took_none Shelves shelves_nil shelves_trans _) run)
