-- A listing with which a run goes on: both go along their courses, and how it stops.
use Rattle.std.proofs.Common.{◌≡◌, ◌<◌, ℕ, List, [], ◌∷◌, ◌++◌, length, drop, ap, subst, ◌∙◌, Option, inl, inr, ⊎_elim, ◌+◌}
use Rattle.std.specs.Io.KnownBytes.{Appends}
use Rattle.std.proofs.KnownBytes.{Appends-nil, Appends-trans}
use Rattle.tm_checkpoint.specs.Works.{Work}
use Rattle.tm_faults.specs.declared.run.RunFault.{RunFault}
use Rattle.tm_faults.specs.declared.run.RunFault.TheVariants.{Write, Report, TooMany, NoMemory}
use Rattle.tm_frame.specs.Layout.{record_length_of}
use Rattle.tm_output.specs.declared.command.Ending.{Ending}
use Rattle.tm_output.specs.declared.totals.Totals.{Totals}
use Rattle.tm_output.specs.Faults.{RunCaused}
use Rattle.tm_output.specs.Outputs.{Buffering, CausedByOutput, Piece, Stopped, Took, View, line_piece, line_pieces, octets_buffering}
use Rattle.tm_output.specs.Pieces.{Texts}
use Rattle.tm_output.proofs.LinePieces.{lines_lines}
use Rattle.tm_output.proofs.PieceLemmas.{took_none}
use Rattle.tm_tool.specs.Listing.{end_lines, record_line}
use Rattle.tm_tool.specs.ListedRuns.{lines_course}
use Rattle.tm_tool.specs.RecordingPieces.{end_pieces, worked}
use Rattle.tm_tool.specs.Runs.{course}
use Rattle.tm_tool.specs.code.ListingRuns.{HasListedAndRun, ListingRunState, ListingRunStops, RefusesEither, RefusesInRun, RefusesItsLine, TakesAndLists}
use Rattle.tm_tool.specs.code.RecordLoop.{HasStepped, StepStopped, TakingRefused, TakingStopped}
use Rattle.tm_tool.specs.code.Stepping.{Leaves, RefusesRecord, RunState, TakesRecords}
use Rattle.tm_tool.proofs.Courses.{Along, end_stopped, has_run, octets_in, records_stopped, took_each}
use Rattle.tm_tool.proofs.ListingLemmas as listing
use Rattle.tm_tool.proofs.ListingLemmas.{record_lines-append}
use Rattle.tm_tool.proofs.RunEnds as runs
use Rattle.tm_tool.proofs.Running.{IsValid, is_course, records-counted}

module _ {A K : Type 0} (grows : K → K → List A → Type 0) (grows-nil : (k : K) → grows k k [])
    (grows-trans : (j k l : K) (xs ys : List A) → grows j k xs → grows k l ys → grows j l (xs ++ ys))
    (buffering : Buffering) (text : Texts A) (ending : Ending) (old : ListingRunState K) (valid : IsValid old.run.work) where
  abbrev w : Work
  w = old.run.work

  abbrev run_along : Along grows buffering (course text ending w) (TakesRecords grows text) (RefusesRecord grows text buffering) (λ (s : RunState K). s.view) (λ (s : RunState K). s.work.state.records) old.run
  run_along = runs.along grows grows-nil grows-trans buffering text ending old.run valid

  none_taken : TakesAndLists grows text old [] old
  none_taken = (run_along.none, took_none Appends Appends-nil Appends-trans old.lines)

  one_more : (rs : List (List ℕ)) (one : List ℕ) (mid new : ListingRunState K) → TakesAndLists grows text old rs mid
      → TakesAndLists grows text mid (one ∷ []) new → TakesAndLists grows text old (rs ++ one ∷ []) new
  one_more rs one mid new a b =
      let seen = ap (λ (v : Work). v.state.records) a.0.0 ∙ records-counted w rs in
      let layout = ap (λ (v : Work). v.rules.layout) a.0.0 in (
        run_along.more rs one mid.run new.run a.0 b.0,
        rw (record_lines-append w.rules.layout w.state.records rs (one ∷ []))
            (lines_lines old.lines mid.lines new.lines _ _ a.1 (rw (seen, layout) at b.1)),
      )

  pub lines_along : Along Appends octets_buffering (lines_course ending w) (TakesAndLists grows text) RefusesItsLine
      (λ (s : ListingRunState K). s.lines) (λ (s : ListingRunState K). s.run.work.state.records) old
  lines_along = record {
    is = listing.is_course w.rules.layout w.state.records ending;
    none = none_taken;
    more = one_more;
    took = λ rs new t. t.1;
    stopped = λ rs one mid new fault a stop.
        let seen = ap (λ (v : Work). v.state.records) a.0.0 ∙ records-counted w rs in
        subst (λ (n : ℕ). StepStopped Appends octets_buffering mid.run.work.state.records mid.lines new.lines (line_piece (record_line w.rules.layout n one) ∷ []) fault) seen
        (subst (λ (v : Work). StepStopped Appends octets_buffering mid.run.work.state.records mid.lines new.lines (line_piece (record_line v.rules.layout mid.run.work.state.records one) ∷ []) fault) a.0.0 stop);
  }

  pub both_along : Along grows buffering (course text ending w) (TakesAndLists grows text) (RefusesInRun grows text buffering)
      (λ (s : ListingRunState K). s.run.view) (λ (s : ListingRunState K). s.run.work.state.records) old
  both_along = record {
    is = is_course text ending w valid;
    none = none_taken;
    more = one_more;
    took = λ rs new t. t.0.1;
    stopped = λ rs one mid new fault a stop. run_along.stopped rs one mid.run new.run fault a.0 stop.0;
  }

  module _ (first next : Option (List ℕ)) (failures failures' : ℕ) where
    abbrev Refused : (ListingRunState K → List ℕ → ListingRunState K → RunFault → Type 0) → ListingRunState K → RunFault → Type 0
    Refused refuses new fault =
        TakingRefused (TakesAndLists grows text) (record_length_of w.rules.layout) w.state.records refuses (λ s. s.run.work.state.records) ending first next old new fault

    abbrev Stops : ListingRunState K → RunFault → Type 0
    Stops new fault = ListingRunStops ending w first next failures failures' old.lines new.lines old.run.view new.run.view fault

    module _ (new : ListingRunState K) where
      -- a record is refused, by some of two
      one_of : (some all : ListingRunState K → List ℕ → ListingRunState K → RunFault → Type 0) (fault : RunFault) (h : Refused all new fault)
          → some h.mid h.one new fault → Refused some new fault
      one_of some all fault h stop = record {
        read = h.read;
        one = h.one;
        octets = h.octets;
        exact = h.exact;
        passed = h.passed;
        wanted = h.wanted;
        mid = h.mid;
        count_is = h.count_is;
        took = h.took;
        stopped = stop;
      }

      in_line : (fault : RunFault) → Refused RefusesItsLine new fault → failures' ≡ failures → Stops new fault
      in_line fault h same =
          inl (records_stopped Appends Appends-nil Appends-trans octets_buffering _ _ _ _ _ old lines_along first next failures failures' new fault (inr (inr (h, same))))

      in_run : (fault : RunFault) → Refused (RefusesInRun grows text buffering) new fault → failures' ≡ failures → CausedByOutput old.run.view new.run.view fault
          → Stops new fault
      in_run fault h same caused =
          let before = lines_along.took (drop w.state.records h.read) h.mid
          (took_each Appends Appends-nil Appends-trans octets_buffering _ _ _ _ _ old lines_along (drop w.state.records h.read) h.mid h.took) in
          let took = rw (← h.stopped.1) at before in
          inr (record { read = h.read; part = h.one; octets = h.octets; took = took }, same, caused)

      caused : (fault : RunFault) → Refused (RefusesInRun grows text buffering) new fault → failures' ≡ failures → RunCaused failures failures' old.run.view new.run.view fault
      caused fault h same =
          (records_stopped grows grows-nil grows-trans buffering _ _ _ _ _ old both_along first next failures failures' new fault (inr (inr (h, same)))).1

      run_refused : (fault : RunFault) → Refused (RefusesInRun grows text buffering) new fault → failures' ≡ failures → Stops new fault
      run_refused Write h same = in_run Write h same (caused Write h same).1
      run_refused Report h same = in_run Report h same (caused Report h same).1
      run_refused NoMemory h same = in_run NoMemory h same (caused NoMemory h same).1
      run_refused TooMany h same =
          in_line TooMany (one_of RefusesItsLine (RefusesInRun grows text buffering) TooMany h (h.stopped.0.0, h.stopped.1)) same
      run_refused _ h same = absurd h.stopped.0

      -- so the loop stops
      pub loop_stopped : (fault : RunFault)
          → TakingStopped (TakesAndLists grows text) (record_length_of w.rules.layout) w.state.records (RefusesEither grows text buffering)
          (λ s. s.run.work.state.records) ending first next failures failures' old new fault → Stops new fault
      loop_stopped fault (inl h) =
          inl (records_stopped Appends Appends-nil Appends-trans octets_buffering _ _ _ _ _ old lines_along first next failures failures' new fault (inl h))
      loop_stopped fault (inr (inl h)) =
          inl (records_stopped Appends Appends-nil Appends-trans octets_buffering _ _ _ _ _ old lines_along first next failures failures' new fault (inr (inl h)))
      loop_stopped fault (inr (inr h)) =
          ⊎_elim (λ s. in_line fault (one_of RefusesItsLine (RefusesEither grows text buffering) fault h.0 s) h.1)
          (λ s. run_refused fault (one_of (RefusesInRun grows text buffering) (RefusesEither grows text buffering) fault h.0 s) h.1) h.0.stopped

    -- ---- the end, after all records that it reads were taken

    module _ (mid : ListingRunState K) (number octets : ℕ) (some : 0 < record_length_of w.rules.layout)
        (stepped : HasStepped (TakesAndLists grows text) (record_length_of w.rules.layout) w.state.records ending first next old mid number octets)
        (same : failures' ≡ failures) where
      abbrev last_lines : List (Piece ℕ)
      last_lines = line_pieces (end_lines ending mid.run.work.state.records octets)

      lines_are : (rs : List (List ℕ)) → TakesAndLists grows text old rs mid → last_lines ≡ line_pieces (end_lines ending (w.state.records + length rs) octets)
      lines_are rs a =
          ap (λ (n : ℕ). line_pieces (end_lines ending n octets)) (ap (λ (v : Work). v.state.records) a.0.0 ∙ records-counted w rs)

      pieces_are : (rs : List (List ℕ)) → TakesAndLists grows text old rs mid → end_pieces text ending mid.run.work octets ≡ end_pieces text ending (worked w rs) octets
      pieces_are rs a = ap (λ (x : Work). end_pieces text ending x octets) a.0.0

      abbrev EndStops : View (Option (List ℕ)) → View K → RunFault → Type 0
      EndStops lines run fault = ListingRunStops ending w first next failures failures' old.lines lines old.run.view run fault

      run_caused : (v : View K) (fault : RunFault) → Stopped grows buffering mid.run.view v (end_pieces text ending mid.run.work octets) fault
          → RunCaused failures failures' old.run.view v fault
      run_caused v fault h =
          (end_stopped grows grows-nil grows-trans buffering _ _ _ _ _ old both_along first next failures failures' mid number octets stepped same _ pieces_are v fault h).1

      without : (v : View K) (fault : RunFault) → CausedByOutput old.run.view v fault → EndStops mid.lines v fault
      without v fault caused =
          let took = lines_along.took (drop w.state.records stepped.read) mid
          (took_each Appends Appends-nil Appends-trans octets_buffering _ _ _ _ _ old lines_along (drop w.state.records stepped.read) mid stepped.took) in
          let octets = octets_in (lines_course ending w) lines_along.is some first next stepped.read stepped.rest stepped.passed stepped.ended in
          inr (record { read = stepped.read; part = stepped.rest; octets = octets; took = took }, same, caused)

      -- the run stopped in its ending
      pub run_end_stopped : (v : View K) (fault : RunFault) → Stopped grows buffering mid.run.view v (end_pieces text ending mid.run.work octets) fault
          → EndStops mid.lines v fault
      run_end_stopped v Write h = without v Write (run_caused v Write h).1
      run_end_stopped v Report h = without v Report (run_caused v Report h).1
      run_end_stopped v NoMemory h = without v NoMemory (run_caused v NoMemory h).1
      run_end_stopped v _ h = absurd h.cause

      -- writing stopped in the line of the ending
      pub line_end_stopped : (lines : View (Option (List ℕ))) (v : View K) → Stopped Appends octets_buffering mid.lines lines last_lines Write
          → EndStops lines v Write
      line_end_stopped lines v h =
          inl (end_stopped Appends Appends-nil Appends-trans octets_buffering _ _ _ _ _ old lines_along first next failures failures' mid number octets stepped same
          last_lines lines_are lines Write h)

      -- all was written
      pub both_ended : (lines : View (Option (List ℕ))) (v : View K) → Took Appends mid.lines lines last_lines
          → Took grows mid.run.view v (end_pieces text ending mid.run.work octets) → (left : Work) (totals : Totals) → left.state.records ≡ number
          → ((rs : List (List ℕ)) → TakesAndLists grows text old rs mid → Leaves text ending w left totals number rs octets)
          → HasListedAndRun ending w first next failures failures' old.lines lines old.run.view v grows buffering text left totals
      both_ended lines v listed ran left totals number_is leaves =
          let a = has_run Appends Appends-nil Appends-trans octets_buffering _ _ _ _ _ old lines_along first next failures failures' mid number octets stepped same
          last_lines lines_are lines listed (λ count rs rest. left.state.records ≡ count) (λ rs t. number_is) in
          let b = has_run grows grows-nil grows-trans buffering _ _ _ _ _ old both_along first next failures failures' mid number octets stepped same
          _ pieces_are v ran (Leaves text ending w left totals) leaves in
          record { lines = a.0; run = b.0; same = same; counts = a.1.1 }
