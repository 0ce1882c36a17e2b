-- How a run goes along its course, and its end, after all records that it reads were taken.
use Rattle.std.proofs.Common.{◌≡◌, ℕ, List, [], ◌∷◌, ◌++◌, ap, subst, ◌∙◌, Option, Result, Ok, Err, IfErr, IfOk, OnOk, sym}
use Rattle.tm_frame.specs.Layout.{record_length_of}
use Rattle.tm_packet.specs.Merge as sequence
use Rattle.tm_reassembly.specs.Items.{closing}
use Rattle.tm_faults.specs.declared.run.RunFault.{RunFault}
use Rattle.tm_output.specs.declared.command.Ending.{Ending}
use Rattle.tm_output.specs.declared.totals.Totals.{Totals}
use Rattle.tm_tool.specs.Courses.{IsStoppedAt}
use Rattle.tm_output.specs.Faults.{RunCaused}
use Rattle.tm_output.specs.Outputs.{Piece, View, Took, Stopped, Buffering, Written}
use Rattle.tm_output.specs.Pieces.{Texts, noted_all, pieces_of, unclosed_pieces}
use Rattle.tm_tool.specs.code.RecordLoop.{HasStepped, StepStopped, StillTakes, TakingStopped, ThenRefuses}
use Rattle.tm_tool.proofs.Courses.{Along, end_stopped, has_run, records_stopped, step_stopped, then_flushed}
use Rattle.tm_output.proofs.PieceLemmas.{took_none, took_took, took_stopped, stopped_more}
use Rattle.tm_checkpoint.specs.Works.{Work}
use Rattle.tm_tool.specs.RecordingPieces.{closing_pieces, end_pieces, record_pieces, worked}
use Rattle.tm_tool.specs.RunTotals.{totals_of}
use Rattle.tm_tool.specs.Runs.{course, devices_at}
use Rattle.tm_tool.specs.code.Stepping.{Leaves, RefusesRecord, RunState, RunHasEnded, TakesRecords}
use Rattle.tm_tool.specs.code.Summing.{CountedRecords}
use Rattle.tm_tool.proofs.Running.{IsValid, is_course, records-append, worked-append, worked-none}
use Rattle.tm_tool.proofs.SummaryEnds.{counted_more, counted_none}

module _ {A K : Type 0} (grows : K → K → List A → Type 0) (grows-nil : (k : K) → grows k k [])
    (grows-trans : (j k l : K) (xs ys : List A) → grows j k xs → grows k l ys → grows j l (xs ++ ys)) where
  -- ---- a closed end: its items, and then the groups that are open after them

  module _ (buffering : Buffering) (text : Texts A) (work : Work) (n : ℕ) (old : View K) where
    abbrev items_end : List (Piece A)
    items_end = pieces_of text work.entries (closing work.state n)

    abbrev groups_end : List (Piece A)
    groups_end = unclosed_pieces work.state.records (sequence.unclosed 0 (noted_all work.entries (closing work.state n)))

    pub stopped_items : (new : View K) (fault : RunFault) → Stopped grows buffering old new items_end fault → Stopped grows buffering old new (closing_pieces text work n) fault
    stopped_items new fault h = stopped_more grows grows-nil grows-trans buffering old new items_end groups_end fault h

    module _ (mid : View K) (entries : sequence.Entries) (seen : ℕ) (took_items : Took grows old mid items_end)
        (noted : entries ≡ noted_all work.entries (closing work.state n)) (count : seen ≡ work.state.records) where
      pub wrote_groups : {T : Type 0} (new : View K) (r : Result T RunFault)
          → Written grows buffering mid new (unclosed_pieces seen (sequence.unclosed 0 entries)) r → Written grows buffering old new (closing_pieces text work n) r
      wrote_groups new (Ok _) h = took_took grows grows-nil grows-trans old mid new items_end groups_end took_items (rw (count, noted) at h)
      wrote_groups new (Err fault) h =
          took_stopped grows grows-nil grows-trans buffering old mid new items_end groups_end took_items fault (rw (count, noted) at h)

  -- ---- a flush after records: they still are taken, or the last one is refused

  module _ (buffering : Buffering) (text : Texts A) (mid new : RunState K) where
    pub still_taken : {T : Type 0} (r : Result T RunFault) → Written grows buffering mid.view new.view [] r → new.work ≡ mid.work → new.totals ≡ mid.totals
        → OnOk r (StillTakes (TakesRecords grows text) mid new)
    still_taken (Ok x) none work numbers = λ before rs took. (
      work ∙ took.0,
      then_flushed grows grows-nil grows-trans buffering before.view mid.view new.view (record_pieces text before.work rs) took.1 (Ok x) none,
      subst (CountedRecords (totals_of text before.work.rules) before.work rs before.totals) (sym numbers) took.2,
    )
    still_taken (Err fault) stopped work numbers = tt

    pub then_refused : {T : Type 0} (r : Result T RunFault) → Written grows buffering mid.view new.view [] r
        → IfErr r (ThenRefuses (TakesRecords grows text) (RefusesRecord grows text buffering) mid new)
    then_refused (Ok x) none = tt
    then_refused {T} (Err fault) stopped = λ before one took.
        let ps : List (Piece A) = record_pieces text before.work (one ∷ []) in
        step_stopped grows buffering before.work.state.records before.view new.view ps fault
        (then_flushed grows grows-nil grows-trans buffering {T = T} before.view mid.view new.view ps took.1 (Err fault) stopped)

  -- ---- a run goes along its course

  module _ (buffering : Buffering) (text : Texts A) (ending : Ending) (old : RunState K) (valid : IsValid old.work) where
    pub along : Along grows buffering (course text ending old.work) (TakesRecords grows text) (RefusesRecord grows text buffering)
        (λ (s : RunState K). s.view) (λ (s : RunState K). s.work.state.records) old
    along = record {
      is = is_course text ending old.work valid;
      none = (
        sym (worked-none old.work valid),
        subst (Took grows old.view old.view) (sym (is_course text ending old.work valid).none) (took_none grows grows-nil grows-trans old.view),
        counted_none (totals_of text old.work.rules) old.work old.totals,
      );
      more = λ rs one mid new a b. (
        b.0 ∙ ap (λ (w : Work). worked w (one ∷ [])) a.0 ∙ sym (worked-append old.work valid rs (one ∷ [])),
        subst (Took grows old.view new.view) (sym (records-append old.work valid text rs (one ∷ [])))
            (took_took grows grows-nil grows-trans old.view mid.view new.view _ _ a.1
            (subst (λ (w : Work). Took grows mid.view new.view (record_pieces text w (one ∷ []))) a.0 b.1)),
        counted_more old.work valid (totals_of text old.work.rules) rs one old.totals mid.totals new.totals a.2
            (subst (λ (w : Work). CountedRecords (totals_of text w.rules) w (one ∷ []) mid.totals new.totals) a.0 b.2),
      );
      took = λ rs new t. t.1;
      stopped = λ rs one mid new fault a stop.
          subst (λ (w : Work). StepStopped grows buffering mid.work.state.records mid.view new.view (record_pieces text w (one ∷ [])) fault) a.0 stop;
    }

    module _ (first next : Option (List ℕ)) (failures failures' : ℕ) where
      -- it stopped at a record, or before
      pub run_stopped : (new : RunState K) (fault : RunFault)
          → TakingStopped (TakesRecords grows text) (record_length_of old.work.rules.layout) old.work.state.records (RefusesRecord grows text buffering)
          (λ (s : RunState K). s.work.state.records) ending first next failures failures' old new fault
          → IsStoppedAt grows buffering (course text ending old.work) first next old.view new.view fault × RunCaused failures failures' old.view new.view fault
      run_stopped new = records_stopped grows grows-nil grows-trans buffering _ _ _ _ _ old along first next failures failures' new

      -- all was taken, and then the ending's pieces were written, and flushed; or writing stopped in them
      pub run_ended : (mid : RunState K) (octets : ℕ) (new : View K) (left : Work) (r : Result Totals RunFault)
          → HasStepped (TakesRecords grows text) (record_length_of old.work.rules.layout) old.work.state.records ending first next old mid left.state.records octets
          → failures' ≡ failures → Written grows buffering mid.view new (end_pieces text ending mid.work octets) r
          → IfOk r (λ totals. (rs : List (List ℕ)) → TakesRecords grows text old rs mid → Leaves text ending old.work left totals left.state.records rs octets)
          → RunHasEnded text ending old.work left grows buffering (devices_at first failures old.view) (devices_at next failures' new) r
      run_ended mid octets new left (Ok totals) stepped same h leaves =
          has_run grows grows-nil grows-trans buffering _ _ _ _ _ old along first next failures failures' mid left.state.records octets stepped same
          (end_pieces text ending mid.work octets) (λ rs a. ap (λ (x : Work). end_pieces text ending x octets) a.0) new h (Leaves text ending old.work left totals) leaves
      run_ended mid octets new left (Err fault) stepped same h leaves =
          end_stopped grows grows-nil grows-trans buffering _ _ _ _ _ old along first next failures failures' mid left.state.records octets stepped same
          (end_pieces text ending mid.work octets) (λ rs a. ap (λ (x : Work). end_pieces text ending x octets) a.0) new fault h
