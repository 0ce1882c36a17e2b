-- What a command has before all else, and a run that stopped after it, in the words of the whole recording.
use Rattle.std.proofs.Common.{◌<◌, ℕ, List, [], ◌++◌, subst, inl, inr, Option, None, Some, IfSome, rules, Bor, ◌≡◌, ◌≢◌, Bool, true, false, refl, sym}
use Rattle.std.proofs.KnownBytes.{Appends-trans, Appends-kept, Appends-nil}
use Rattle.tm_frame.specs.Layout.{record_length_of}
use Rattle.tm_faults.specs.declared.run.RunFault.{RunFault}
use Rattle.tm_output.specs.declared.command.Ending.{Ending}
use Rattle.tm_output.specs.Outputs.{AppendsCut, CausedByOutput, Piece, Took, View, Buffering, outs, reports, Stopped, lines_buffering, view}
use Rattle.tm_output.specs.Pieces.{Texts, buffering_of}
use Rattle.tm_checkpoint.specs.Works.{Work}
use Rattle.tm_tool.specs.RecordingPieces.{pieces}
use Rattle.tm_tool.specs.Runs.{IsHeadedStop, StoppedIn, course, devices_at}
use Rattle.tm_tool.specs.Courses.{RecordCourse, IsStoppedAt, whole}
use Rattle.tm_tool.proofs.Courses.{run_cut, run_many, run_short, stopped_at}
use Rattle.tm_output.proofs.PieceLemmas.{cut_after, stopped_more, stops_after, flush_out, flushed, stopped_put, took_failed, took_piece}
use Rattle.tm_tool.proofs.Running.{IsValid, is_course, pieces_whole}
use Rattle.std.specs.Io.KnownBytes.{Appends, Keeps}
use Rattle.tm_devices.specs.Devices.{raised}
use Rattle.tm_fields.specs.Rows.{head_of}
use Rattle.tm_fields.specs.declared.definition.Definition.{Definition}
use Rattle.tm_output.specs.declared.command.Command.{Command}
use Rattle.tm_output.specs.declared.command.Command.TheVariants.{Extract, Fields}
use Rattle.tm_faults.specs.declared.run.RunFault.TheVariants.{NoMemory, ShortRecording, TooMany, Write}
use Rattle.tm_tool.specs.HeadPieces.{head_pieces}
use Rattle.tm_tool.specs.code.Heads.{HeadStopped, head_text}

module _ {old new report : Option (List ℕ)} {failures failures' : ℕ} (report_failures : ℕ) where
  pub head_took : (command : Command) (fresh : Bool) → Appends old new (head_text command fresh) × (failures' ≡ failures)
      → Took Appends (view old report failures report_failures) (view new report failures' report_failures) (head_pieces command fresh)
  head_took (Fields definition application) true (whole, same) =
      took_piece Appends _ _ (record { out = head_of definition.now; report = [] }) whole (Appends-nil report) (same, refl)
  head_took _ _ (whole, same) = flushed Appends _ _ whole (Appends-nil report) (same, refl)

module _ {old new report : Option (List ℕ)} {failures failures' : ℕ} (report_failures : ℕ) where
  pub head_stopped : (command : Command) (fresh : Bool) (fault : RunFault) → (head_pieces command fresh ≢ [])
      × HeadStopped old new failures failures' (head_text command fresh) fault
      → Stopped Appends (buffering_of command) (view old report failures report_failures) (view new report failures' report_failures) (head_pieces command fresh) fault
  head_stopped (Fields definition application) true fault (some, inl h) =
      stopped_put Appends Appends-nil Appends-trans lines_buffering _ _ (record { out = head_of definition.now; report = [] }) fault h (Appends-nil report) refl
  head_stopped (Fields definition application) true fault (some, inr (is, whole, failed)) =
      subst (Stopped Appends lines_buffering _ _ _) (sym is)
      (took_failed Appends Appends-nil Appends-trans lines_buffering _ (view new report failures report_failures) _ (head_pieces (Fields definition application) true) Write
      (head_took report_failures (Fields definition application) true (whole, refl))
      (flush_out Appends _ _ (Appends-nil new) (Appends-nil report) lines_buffering refl failed refl))
  head_stopped _ _ fault (some, h) = absurd (some refl)

-- the head was written, and the flush after it failed
pub flush_failed : (old mid new : Option (List ℕ)) {failures failures' failures'' : ℕ} {command : Command} {fresh : Bool} (definition : Bor Definition) (application : ℕ)
    → command ≡ Fields definition application → fresh ≡ true → Appends old mid (head_of definition.now) → failures' ≡ failures → Keeps mid new → failures'' ≡ raised failures'
    → (head_pieces command fresh ≢ []) × HeadStopped old new failures failures'' (head_text command fresh) Write
flush_failed old mid new definition application is head whole same kept failed =
    rw (is, head) (λ e. (search rules), inr (refl, Appends-kept old mid new (head_of definition.now) whole kept, rw (← same) failed))

-- a job that isn't fresh has none
pub no_later_head : (command : Command) → head_pieces command false ≡ []
no_later_head Extract = refl
no_later_head _ = refl

-- ---- a run that stopped

module _ {A K : Type 0} (grows : K → K → List A → Type 0) (grows-nil : (k : K) → grows k k [])
    (grows-trans : (j k l : K) (xs ys : List A) → grows j k xs → grows k l ys → grows j l (xs ++ ys))
    (buffering : Buffering) (text : Texts A) (ending : Ending) (w : Work) (head : List (Piece A)) (valid : IsValid w) (some : 0 < record_length_of w.rules.layout)
    (failures failures' : ℕ) (next : Option (List ℕ)) (old new : View K) (fault : RunFault) where
  cut_behind : (mid : View K) (ps : List (Piece A)) → Took grows old mid head → AppendsCut grows mid new ps → AppendsCut grows old new (head ++ ps)
  cut_behind mid ps headed h =
      let (out, report, cut, outs_new, reports_new) = h in
      let both = Appends-trans old.report mid.report new.report (reports head) report headed.whole.1 reports_new in
      (outs head ++ out, reports head ++ report, cut_after head ps out report cut, grows-trans _ _ _ _ _ headed.whole.0 outs_new, both)

  abbrev Told : List ℕ → Type 0
  Told octets = StoppedIn grows buffering text ending w head old new fault octets

  pub stop_told : (first : Option (List ℕ)) → IsHeadedStop grows buffering text ending w head (devices_at first failures old) (devices_at next failures' new) fault
      → IfSome first Told
  stop_told None h = tt
  stop_told (Some octets) (inl h) =
      let all = stopped_more grows grows-nil grows-trans buffering old new head (pieces text ending w octets) fault h.stopped in
      record {
        cut = all.cut;
        memory = all.memory;
        refused = all.refused;
        too_many = λ e. absurd (subst (CausedByOutput old new) e h.stopped.cause);
        short = λ e. absurd (subst (CausedByOutput old new) e h.stopped.cause);
      }
  stop_told (Some octets) (inr h) =
      let c : RecordCourse A = course text ending w in
      let own = is_course text ending w valid in
      let here : List (Piece A) = whole c octets in
      let is : pieces text ending w octets ≡ here = pieces_whole text ending w valid octets in
      let stop = λ (f : RunFault) (e : fault ≡ f). subst (IsStoppedAt grows buffering c (Some octets) next h.mid new) e h.stopped in
      let writes = stopped_at c own some (Some octets) next grows grows-nil grows-trans buffering h.mid new in
      record {
        cut = rw is (cut_behind h.mid here h.headed (run_cut c own some (Some octets) next grows grows-nil grows-trans buffering h.mid new fault h.stopped));
        memory = λ e. rw is (stops_after grows grows-nil grows-trans old h.mid head here h.headed ((writes NoMemory (stop NoMemory e)).memory refl));
        refused = λ e kept. rw is (stops_after grows grows-nil grows-trans old h.mid head here h.headed ((writes Write (stop Write e)).refused refl kept));
        too_many = λ e. run_many c own some (Some octets) next grows grows-nil grows-trans buffering h.mid new (stop TooMany e);
        short = λ e. run_short c own some (Some octets) next grows grows-nil grows-trans buffering h.mid new (stop ShortRecording e);
      }
