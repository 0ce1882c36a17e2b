-- A loop whose handler writes pieces goes along a course: how it stands, how it stops, and how it ends.
use Rattle.std.proofs.Common.{◌≡◌, ◌⊎◌, ◌<◌, ◌≤◌, ◌+◌, ◌-◌, ℕ, List, [], ◌∷◌, ◌++◌, length, take, drop, refl, sym, ap, subst, ◌∙◌, Option, inl, inr, ⊎_elim, arith, append-nil, append_assoc, length-append, length-drop, take_all, drop_of_length-le, Result, Ok, Err, IfSome}
use Rattle.std.proofs.lemmas.Bool.{cases_lt}
use Rattle.std.proofs.lemmas.List.{drop-append-le, take-append-le}
use Rattle.std.proofs.lemmas.Option.{IfSome_then}
use Rattle.std.proofs.Math.Seq.{take-append-add}
use Rattle.std.specs.List.{concat}
use Rattle.std.specs.Io.KnownBytes.{IsAtEnd}
use Rattle.tm_devices.specs.Devices.{raised}
use Rattle.tm_frame.specs.Layout.{most_records}
use Rattle.tm_faults.specs.declared.run.RunFault.{RunFault}
use Rattle.tm_faults.specs.declared.run.RunFault.TheVariants.{Read, Write, Report, ShortRecording, TooMany, NoMemory}
use Rattle.tm_output.specs.declared.command.Ending.{Ending}
use Rattle.tm_output.specs.declared.command.Ending.TheVariants.{Close, StopAfter}
use Rattle.tm_tool.specs.Courses.{RecordCourse, HasRun, IsStoppedAt, StopsAtEnd, StopsAtRecord, StopsWriting, pieces_ended, pieces_read, whole}
use Rattle.tm_tool.specs.Endings.{AreEnough, EndsAt, Suffices, WantsFurther, records_for}
use Rattle.tm_output.specs.Faults.{RunCaused}
use Rattle.tm_output.specs.Outputs.{AppendsCut, Buffering, CausedByOutput, Piece, SameCounts, Stopped, Took, View, Written, outs, reports}
use Rattle.tm_output.specs.Records.{AreRecords, HasRead, HasReadAll, record_count, records, rest_of}
use Rattle.tm_tool.specs.code.RecordLoop.{HasStepped, PassingStopped, Reached, Refusing, StepStopped, TakesEach, Taking, TakingRefused, TakingStopped}
use Rattle.tm_output.proofs.PieceLemmas.{cut_all, cut_more, cut_none, stopped_more, took_failed, took_none, took_stopped, took_took}
use Rattle.tm_output.proofs.RecordLemmas.{AreRecords-append, always, concat-one, count_all, many_told, records_all, records_counted, records_front, records_sized, records_whole, rest_all, told}
use Rattle.tm_tool.proofs.Taking.{holds_of_all, more_reached, wanted_reached}

-- ---- what a course has to keep

-- of no records there is nothing; a further record has its own pieces after the others; and where no more is wanted the ending has none
pub record IsCourse {A : Type 0} (c : RecordCourse A) : Type 0 where
  pub none : c.pieces [] ≡ []
  pub more : (rs : List (List ℕ)) (one : List ℕ) → c.pieces (rs ++ one ∷ []) ≡ c.pieces rs ++ c.next rs one
  pub enough : (done count : ℕ) → Suffices c.ending done count → (rs : List (List ℕ)) (rest : ℕ) → c.at_end rs rest ≡ []

-- how a handler goes along it: of the records that it takes the pieces are written, and where it refuses one writing stopped in its pieces
pub record Along {A K V : Type 0} (grows : K → K → List A → Type 0) (buffering : Buffering) (c : RecordCourse A) (takes : Taking V) (refuses : Refusing V)
    (see : V → View K) (count : V → ℕ) (old : V) : Type 0 where
  pub is : IsCourse c
  pub none : takes old [] old
  pub more : (rs : List (List ℕ)) (one : List ℕ) (mid new : V) → takes old rs mid → takes mid (one ∷ []) new → takes old (rs ++ one ∷ []) new
  pub took : (rs : List (List ℕ)) (new : V) → takes old rs new → Took grows (see old) (see new) (c.pieces rs)
  pub stopped : (rs : List (List ℕ)) (one : List ℕ) (mid new : V) (fault : RunFault) → takes old rs mid → refuses mid one new fault
      → StepStopped grows buffering (count mid) (see mid) (see new) (c.next rs one) fault

-- a fault of writing is a fault of stepping
pub step_stopped : {A K : Type 0} (grows : K → K → List A → Type 0) (buffering : Buffering) (records : ℕ) (old new : View K) (ps : List (Piece A)) (fault : RunFault)
    → Stopped grows buffering old new ps fault → StepStopped grows buffering records old new ps fault
step_stopped grows buffering records old new ps Write s = s
step_stopped grows buffering records old new ps Report s = s
step_stopped grows buffering records old new ps NoMemory s = s
step_stopped grows buffering records old new ps _ s = absurd s.cause

-- an output failed, after nothing else had
pub output_caused : {K : Type 0} (failures failures' : ℕ) (old mid new : View K) (fault : RunFault) → failures' ≡ failures → SameCounts old mid → CausedByOutput mid new fault
    → RunCaused failures failures' old new fault
output_caused failures failures' old mid new Write same a b = (same, (b.0 ∙ ap raised a.0, b.1 ∙ a.1))
output_caused failures failures' old mid new Report same a b = (same, (b.0 ∙ a.0, b.1 ∙ ap raised a.1))
output_caused failures failures' old mid new NoMemory same a b = (same, (b.0 ∙ a.0, b.1 ∙ a.1))
output_caused failures failures' old mid new _ same a b = absurd b

module _ {A K : Type 0} (grows : K → K → List A → Type 0) (grows-nil : (k : K) → grows k k [])
    (grows-trans : (j k l : K) (xs ys : List A) → grows j k xs → grows k l ys → grows j l (xs ++ ys)) (buffering : Buffering) where
  -- pieces were written, and then flushed, or the flush failed
  pub then_flushed : {T : Type 0} (old mid new : View K) (ps : List (Piece A)) → Took grows old mid ps → (r : Result T RunFault)
      → Written grows buffering mid new [] r → Written grows buffering old new ps r
  then_flushed old mid new ps took (Ok x) none = subst (Took grows old new) (append-nil ps) (took_took grows grows-nil grows-trans old mid new ps [] took none)
  then_flushed old mid new ps took (Err fault) stopped = took_failed grows grows-nil grows-trans buffering old mid new ps fault took stopped

  -- ---- the loop

  module _ {V : Type 0} (c : RecordCourse A) (takes : Taking V) (refuses : Refusing V) (see : V → View K) (count : V → ℕ) (old : V)
      (along : Along grows buffering c takes refuses see count old) where
    -- records that were taken one by one were taken
    pub took_each : (rs : List (List ℕ)) (new : V) → TakesEach takes old rs new → takes old rs new
    took_each = holds_of_all takes (takes old) along.more old along.none

    module _ (first next : Option (List ℕ)) (failures failures' : ℕ) (new : V) where
      -- where the records stop, and a device is blamed
      abbrev Stops : View K → RunFault → Type 0
      Stops v fault = IsStoppedAt grows buffering c first next (see old) v fault × RunCaused failures failures' (see old) v fault

      passing_stopped : (fault : RunFault) → PassingStopped c.size c.done first next failures failures' fault → Stops (see old) fault
      passing_stopped Read h =
          let none : drop c.done h.0.read ≡ [] = drop_of_length-le h.0.read (omega (arith, h.0.few)) in
          let took = subst (λ (rs : List (List ℕ)). Took grows (see old) (see old) (c.pieces rs)) (sym none) (along.took [] old along.none) in
          (record { read = h.0.read; part = h.0.part; octets = h.0.octets; short = h.0.short; wanted = inl h.0.few; took = took }, (h.1, (refl, refl)))
      passing_stopped ShortRecording h =
          let took = took_none grows grows-nil grows-trans (see old) in
          (record { read = h.0.read; rest = h.0.rest; all = h.0.all; few = h.0.few; took = took }, (h.1, (refl, refl)))
      passing_stopped _ h = absurd h

      abbrev Refused : RunFault → Type 0
      Refused fault = TakingRefused takes c.size c.done refuses count c.ending first next old new fault

      refused_at : (fault : RunFault) (h : Refused fault) → StepStopped grows buffering (count h.mid) (see h.mid) (see new) (c.next (drop c.done h.read) h.one) fault
      refused_at fault h = along.stopped (drop c.done h.read) h.one h.mid new fault (took_each (drop c.done h.read) h.mid h.took) h.stopped

      refused_record : (fault : RunFault) (h : Refused fault) → failures' ≡ failures
          → Stopped grows buffering (see h.mid) (see new) (c.next (drop c.done h.read) h.one) fault
          → StopsAtRecord grows buffering c first next (see old) (see new) fault × RunCaused failures failures' (see old) (see new) fault
      refused_record fault h same stop =
          let took = along.took (drop c.done h.read) h.mid (took_each (drop c.done h.read) h.mid h.took) in
          let caused = output_caused failures failures' (see old) (see h.mid) (see new) fault same took.counts stop.cause in
          (record { read = _; one = _; octets = h.octets; exact = h.exact; passed = h.passed; wanted = h.wanted; mid = _; took = took; stopped = stop }, caused)

      -- writing stopped in a record's pieces, or the record was one too many
      refused_stopped : (fault : RunFault) → Refused fault → failures' ≡ failures → Stops (see new) fault
      refused_stopped Write h same = let stop = refused_record Write h same (refused_at Write h) in (inl stop.0, stop.1)
      refused_stopped Report h same = let stop = refused_record Report h same (refused_at Report h) in (inl stop.0, stop.1)
      refused_stopped NoMemory h same = let stop = refused_record NoMemory h same (refused_at NoMemory h) in (inl stop.0, stop.1)
      refused_stopped TooMany h same =
          let took = along.took (drop c.done h.read) h.mid (took_each (drop c.done h.read) h.mid h.took) in
          let (most, unwritten) = refused_at TooMany h in
          subst (λ (v : View K). Stops v TooMany) (sym unwritten)
          (record { read = _; one = _; octets = h.octets; exact = h.exact; most = sym h.count_is ∙ most; wanted = h.wanted; took = took }, (same, took.counts))
      refused_stopped Read h same = absurd (refused_at Read h)
      refused_stopped ShortRecording h same = absurd (refused_at ShortRecording h)

      -- so the loop stops
      pub records_stopped : (fault : RunFault) → TakingStopped takes c.size c.done refuses count c.ending first next failures failures' old new fault
          → IsStoppedAt grows buffering c first next (see old) (see new) fault × RunCaused failures failures' (see old) (see new) fault
      records_stopped fault (inl h) = subst (λ (s : V). Stops (see s) fault) (sym h.1) (passing_stopped fault h.0)
      records_stopped fault (inr (inl h)) =
          let k = h.0 in
          let took = along.took (drop c.done k.read) new (took_each (drop c.done k.read) new k.took) in
          subst (Stops (see new)) (sym h.1)
          (record { read = k.read; part = k.part; octets = k.octets; short = k.short; wanted = inr k.wanted; took = took }, (h.2, took.counts))
      records_stopped fault (inr (inr h)) = refused_stopped fault h.0 h.1

      -- ---- the end, after all records that it reads were taken

      module _ (number octets : ℕ) (stepped : HasStepped takes c.size c.done c.ending first next old new number octets)
          (same : failures' ≡ failures) (last : List (Piece A)) (last_is : (rs : List (List ℕ)) → takes old rs new → last ≡ c.at_end rs octets) where
        all : takes old (drop c.done stepped.read) new
        all = took_each (drop c.done stepped.read) new stepped.took

        took_all : Took grows (see old) (see new) (c.pieces (drop c.done stepped.read))
        took_all = along.took (drop c.done stepped.read) new all

        last_same : last ≡ c.at_end (drop c.done stepped.read) (length stepped.rest)
        last_same = last_is (drop c.done stepped.read) all ∙ ap (c.at_end (drop c.done stepped.read)) (sym stepped.left)

        at_end : (v : View K) (fault : RunFault) → Stopped grows buffering (see new) v last fault
            → StopsAtEnd grows buffering c first next (see old) v fault × RunCaused failures failures' (see old) v fault
        at_end v fault h =
            let stopped = subst (λ (ps : List (Piece A)). Stopped grows buffering (see new) v ps fault) last_same h in (
              record { read = stepped.read; rest = stepped.rest; passed = stepped.passed; ended = stepped.ended; mid = see new; took = took_all; stopped = stopped },
              output_caused failures failures' (see old) (see new) v fault same took_all.counts h.cause,
            )

        -- writing stopped at a piece of the ending
        pub end_stopped : (v : View K) (fault : RunFault) → Stopped grows buffering (see new) v last fault → Stops v fault
        end_stopped v Write h = let stop = at_end v Write h in (inr stop.0, stop.1)
        end_stopped v Report h = let stop = at_end v Report h in (inr stop.0, stop.1)
        end_stopped v NoMemory h = let stop = at_end v NoMemory h in (inr stop.0, stop.1)
        end_stopped v _ h = absurd h.cause

        -- all was written, the ending's pieces too; and this holds
        pub has_run : (v : View K) → Took grows (see new) v last → (Holds : ℕ → List (List ℕ) → ℕ → Type 0)
            → ((rs : List (List ℕ)) → takes old rs new → Holds number rs octets)
            → HasRun grows buffering c first next (see old) v Holds × ((failures' ≡ failures) × SameCounts (see old) v)
        has_run v h Holds holds =
            let took_last = subst (Took grows (see new) v) last_same h in
            let took = took_took grows grows-nil grows-trans (see old) (see new) v (c.pieces (drop c.done stepped.read)) _ took_all took_last in
            let here = subst (Holds number (drop c.done stepped.read)) (sym stepped.left) (holds (drop c.done stepped.read) all) in
            let is = subst (λ (n : ℕ). Holds n (drop c.done stepped.read) (length stepped.rest)) stepped.count_is here in
            (record { read = stepped.read; rest = stepped.rest; passed = stepped.passed; ended = stepped.ended; took = took; holds = is }, (same, took.counts))

-- ---- which records an ending takes

module _ (done : ℕ) (read : List (List ℕ)) (passed : done ≤ length read) where
  size : length (drop done read) ≡ length read - done
  size = length-drop done read

  -- all of them, where no more follow
  records_for_all : (ending : Ending) → Reached ending done (length read) → records_for ending (drop done read) ≡ drop done read
  records_for_all (StopAfter n) h = take_all n (drop done read) (omega (arith, h, size, passed))
  records_for_all _ h = refl

  -- those that were read come first
  records_for_front : (ending : Ending) (more : List (List ℕ)) → Reached ending done (length read)
      → (others : List (List ℕ)) × (records_for ending (drop done read ++ more) ≡ drop done read ++ others)
  records_for_front (StopAfter n) more h =
      let count : n ≡ length (drop done read) + (n - length (drop done read)) = omega (arith, h, size, passed) in (
        take (n - length (drop done read)) more,
        ap (λ (k : ℕ). take k (drop done read ++ more)) count ∙ take-append-add (drop done read) more (n - length (drop done read)),
      )
  records_for_front _ more h = (more, refl)

  -- and are all, where no more are wanted
  records_for_enough : (ending : Ending) (more : List (List ℕ)) → Suffices ending done (length read) → records_for ending (drop done read ++ more) ≡ drop done read
  records_for_enough (StopAfter n) more h =
      take-append-le n (drop done read) more (omega (arith, h, size, passed)) ∙ take_all n (drop done read) (omega (arith, h, size, passed))
  records_for_enough _ more h = absurd h

enough_reached : (ending : Ending) (done count : ℕ) → Suffices ending done count → Reached ending done count
enough_reached (StopAfter n) done count h = omega (arith, h)
enough_reached _ done count h = absurd h

-- at a recording's end all was read
pub all_read : {size : ℕ} (done : ℕ) {first next : Option (List ℕ)} {read : List (List ℕ)} {rest : List ℕ} → EndsAt Close size done first next read rest
    → HasReadAll size first next read rest
all_read done (inl h) = h.0
all_read done (inr h) = absurd h.2

-- ---- a course in the words of the whole recording

module _ {A : Type 0} (c : RecordCourse A) (is : IsCourse c) (some : 0 < c.size) where
  -- what an ending read: records that it wants, and fewer octets than one has
  ended_read : (first next : Option (List ℕ)) (read : List (List ℕ)) (rest : List ℕ) → EndsAt c.ending c.size c.done first next read rest
      → HasRead c.size first next read rest × (length rest < c.size) × Reached c.ending c.done (length read)
  ended_read first next read rest (inl h) = (h.0.octets, h.0.short, wanted_reached c.ending c.done (length read) h.1)
  ended_read first next read rest (inr h) = rw h.1 (h.0, some, enough_reached c.ending c.done (length read) h.2)

  octets_enough : (first next : Option (List ℕ)) (read : List (List ℕ)) (rest : List ℕ) → c.done ≤ length read → EndsAt c.ending c.size c.done first next read rest
      → AreEnough c.ending c.size c.done next (concat read ++ rest)
  octets_enough first next read rest passed (inl h) =
      rw (count_all c.size read rest h.0.octets.sized h.0.short, rest_all c.size read rest h.0.octets.sized h.0.short) (passed, inl (h.0.ended, h.1))
  octets_enough first next read rest passed (inr h) =
      rw (h.1, count_all c.size read [] h.0.sized some, rest_all c.size read [] h.0.sized some) (passed, inr (refl, h.2))

  -- octets that are enough for an ending: of all octets it takes the same records, and has the same pieces
  pub enough_more : (octets left : List ℕ) (next : Option (List ℕ)) → AreEnough c.ending c.size c.done next octets → (IsAtEnd next → left ≡ [])
      → (records_for c.ending (drop c.done (records c.size (octets ++ left))) ≡ records_for c.ending (drop c.done (records c.size octets)))
      × (whole c (octets ++ left) ≡ whole c octets)
  enough_more octets left next (passed, inl e) end = rw (end e.0, append-nil octets) (refl, refl)
  enough_more octets left next (passed, inr e) end =
      let n : ℕ = c.size in
      let rs : List (List ℕ) = records n octets in
      let count : length rs ≡ record_count n octets = records_counted n some octets in
      let suffices = subst (Suffices c.ending c.done) (sym count) e.1 in
      let are : octets ≡ concat rs = sym (records_whole n some octets) ∙ ap (λ (l : List ℕ). concat rs ++ l) e.0 ∙ append-nil (concat rs) in
      let front : records n (octets ++ left) ≡ rs ++ records n left =
      ap (λ (l : List ℕ). records n (l ++ left)) are ∙ records_front n some rs left (records_sized n some octets) in
      let within : c.done ≤ length rs = omega (arith, count, passed) in
      let taken : records_for c.ending (drop c.done (records n (octets ++ left))) ≡ drop c.done rs =
      rw (front, drop-append-le c.done rs (records n left) within) (records_for_enough c.done rs within c.ending (records n left) suffices) in
      let same : records_for c.ending (drop c.done (records n (octets ++ left))) ≡ records_for c.ending (drop c.done rs) =
      taken ∙ sym (records_for_all c.done rs within c.ending (enough_reached c.ending c.done (length rs) suffices)) in
      let none = is.enough c.done (length rs) suffices (records_for c.ending (drop c.done rs)) in
      (same, rw (same, none (length (rest_of n (octets ++ left))), none (length (rest_of n octets))) refl)

  -- and leaves the same octets, where it takes all records
  pub rest_more : (octets left : List ℕ) (next : Option (List ℕ)) → AreEnough c.ending c.size c.done next octets → (IsAtEnd next → left ≡ [])
      → (rest_of c.size (octets ++ left) ≡ rest_of c.size octets) ⊎ Suffices c.ending c.done (record_count c.size octets)
  rest_more octets left next (passed, inl e) end = inl (rw (end e.0, append-nil octets) refl)
  rest_more octets left next (passed, inr e) end = inr e.1

  -- the pieces of records in front come first
  more_pieces : (a b : List (List ℕ)) → (others : List (Piece A)) × (c.pieces (a ++ b) ≡ c.pieces a ++ others)
  more_pieces a [] = ([], ap c.pieces (append-nil a) ∙ sym (append-nil (c.pieces a)))
  more_pieces a (one ∷ b) =
      let (others, split) = more_pieces (a ++ one ∷ []) b in (
        c.next a one ++ others,
        ap c.pieces (sym (append_assoc a (one ∷ []) b)) ∙ split ∙ ap (λ (ps : List (Piece A)). ps ++ others) (is.more a one) ∙ append_assoc (c.pieces a) (c.next a one) others,
      )

  pieces_front : (read : List (List ℕ)) (more : List ℕ) → AreRecords c.size read → c.done ≤ length read → Reached c.ending c.done (length read)
      → (others : List (Piece A)) × (whole c (concat read ++ more) ≡ pieces_read c read ++ others)
  pieces_front read more sized passed reached =
      let n : ℕ = c.size in
      let (others, split) = records_for_front c.done read passed c.ending (records n more) reached in
      let (further, joined) = more_pieces (drop c.done read) others in (
        further ++ c.at_end (drop c.done read ++ others) (length (rest_of n (concat read ++ more))),
        rw (records_front n some read more sized, drop-append-le c.done read (records n more) passed, split) (rw (joined, append_assoc) refl),
      )

  -- and then those of the record that follows them
  pieces_next : (read : List (List ℕ)) (one more : List ℕ) → AreRecords c.size read → length one ≡ c.size → c.done ≤ length read → WantsFurther c.ending c.done (length read)
      → (others : List (Piece A)) × (whole c ((concat read ++ one) ++ more) ≡ (pieces_read c read ++ c.next (drop c.done read) one) ++ others)
  pieces_next read one more sized exact passed wanted =
      let count = length-append read (one ∷ []) in
      let (others, split) =
      pieces_front (read ++ one ∷ []) more (AreRecords-append c.size read (one ∷ []) sized (exact, tt)) (omega (arith, passed, count))
      (more_reached c.ending c.done (length read) (length (read ++ one ∷ [])) wanted count) in
      let joined : pieces_read c (read ++ one ∷ []) ≡ pieces_read c read ++ c.next (drop c.done read) one =
      ap c.pieces (drop-append-le c.done read (one ∷ []) passed) ∙ is.more (drop c.done read) one in
      (others, rw (← concat-one read one) (split ∙ ap (λ (ps : List (Piece A)). ps ++ others) joined))

  module _ (first next : Option (List ℕ)) where
    -- ---- what was read, in records, and in octets

    module _ (read : List (List ℕ)) (rest : List ℕ) (passed : c.done ≤ length read) (ended : EndsAt c.ending c.size c.done first next read rest) where
      pub enough_in : AreEnough c.ending c.size c.done next (concat read ++ rest)
      enough_in = octets_enough first next read rest passed ended

      pub octets_in : HasRead c.size first next read rest
      octets_in = (ended_read first next read rest ended).0

      pub rest_in : rest_of c.size (concat read ++ rest) ≡ rest
      rest_in = let (has, short, reached) = ended_read first next read rest ended in rest_all c.size read rest has.sized short

      -- the records that the ending takes of the octets that were read, and their pieces
      pub records_in : records_for c.ending (drop c.done (records c.size (concat read ++ rest))) ≡ drop c.done read
      records_in =
          let (has, short, reached) = ended_read first next read rest ended in
          rw (records_all c.size read rest has.sized short) (records_for_all c.done read passed c.ending reached)

      pub pieces_in : whole c (concat read ++ rest) ≡ pieces_ended c (drop c.done read) (length rest)
      pieces_in = rw (records_in, rest_in) refl

    -- ---- where writing stopped among all pieces

    module _ {K : Type 0} (grows : K → K → List A → Type 0) (grows-nil : (k : K) → grows k k [])
        (grows-trans : (j k l : K) (xs ys : List A) → grows j k xs → grows k l ys → grows j l (xs ++ ys)) (buffering : Buffering) (old new : View K) where
      abbrev IsCut : Type 0
      IsCut = IfSome first (λ octets. AppendsCut grows old new (whole c octets))

      -- all of the pieces of some records were written
      whole_cut : (read : List (List ℕ)) (part : List ℕ) → HasRead c.size first next read part → c.done ≤ length read
          → Reached c.ending c.done (length read) → Took grows old new (pieces_read c read) → IsCut
      whole_cut read part has passed reached took =
          told _ (concat read ++ part) first next has.octets (λ left end.
          let (others, split) = pieces_front read (part ++ left) has.sized passed reached in
          let here : List (Piece A) = pieces_read c read in
          rw (append_assoc (concat read) part left, split)
          (outs here, reports here, cut_more here others (outs here) (reports here) (cut_all here), took.whole.0, took.whole.1))

      -- nothing was written
      none_cut : Took grows old new [] → IsCut
      none_cut took = always first (λ octets. ([], [], cut_none (whole c octets), took.whole.0, took.whole.1))

      none_took : (read : List (List ℕ)) → length read ≤ c.done → Took grows old new (pieces_read c read) → Took grows old new []
      none_took read few took = subst (Took grows old new) (ap c.pieces (drop_of_length-le read few) ∙ is.none) took

      -- some records were written, or no more than those that are done were read
      some_cut : (read : List (List ℕ)) (part : List ℕ) → HasRead c.size first next read part
          → ((length read < c.done) ⊎ WantsFurther c.ending c.done (length read)) → Took grows old new (pieces_read c read) → IsCut
      some_cut read part has (inl few) took = none_cut (none_took read (omega (arith, few)) took)
      some_cut read part has (inr wanted) took =
          ⊎_elim (λ (few : length read < c.done). none_cut (none_took read (omega (arith, few)) took))
          (λ (passed : c.done ≤ length read). whole_cut read part has passed (wanted_reached c.ending c.done (length read) wanted) took)
          (cases_lt (length read) c.done)

      -- a stop at a record, and at the end
      pub stopped_at : (fault : RunFault) → StopsWriting grows buffering c first next old new fault
          → IfSome first (λ octets. Stopped grows buffering old new (whole c octets) fault)
      stopped_at fault (inl h) =
          told _ (concat h.read ++ h.one) first next h.octets.octets (λ left end.
          let (others, split) = pieces_next h.read h.one left h.octets.sized h.exact h.passed h.wanted in
          let here : List (Piece A) = pieces_read c h.read in
          let there : List (Piece A) = c.next (drop c.done h.read) h.one in
          rw split
          (stopped_more grows grows-nil grows-trans buffering old new (here ++ there) others fault
          (took_stopped grows grows-nil grows-trans buffering old h.mid new here there h.took fault h.stopped)))
      stopped_at fault (inr h) =
          told _ (concat h.read ++ h.rest) first next (octets_in h.read h.rest h.passed h.ended).octets (λ left end.
          let same = enough_more (concat h.read ++ h.rest) left next (enough_in h.read h.rest h.passed h.ended) end in
          rw (same.1, pieces_in h.read h.rest h.passed h.ended)
          (took_stopped grows grows-nil grows-trans buffering old h.mid new (pieces_read c h.read) _ h.took fault h.stopped))

      -- all of them were written, where it ended well
      pub run_whole : (Holds : ℕ → List (List ℕ) → ℕ → Type 0) → HasRun grows buffering c first next old new Holds
          → IfSome first (λ octets. Took grows old new (whole c octets))
      run_whole Holds h =
          told _ (concat h.read ++ h.rest) first next (octets_in h.read h.rest h.passed h.ended).octets (λ left end.
          let same = enough_more (concat h.read ++ h.rest) left next (enough_in h.read h.rest h.passed h.ended) end in
          rw (same.1, pieces_in h.read h.rest h.passed h.ended) h.took)

      pub run_cut : (fault : RunFault) → IsStoppedAt grows buffering c first next old new fault → IsCut
      run_cut Read h = some_cut h.read h.part h.octets h.wanted h.took
      run_cut Write h = IfSome_then first (stopped_at Write h) (λ octets s. s.cut)
      run_cut Report h = IfSome_then first (stopped_at Report h) (λ octets s. s.cut)
      run_cut ShortRecording h = none_cut h.took
      run_cut TooMany h = some_cut h.read h.one h.octets (inr h.wanted) h.took
      run_cut NoMemory h = IfSome_then first (stopped_at NoMemory h) (λ octets s. s.cut)

      -- the recording has more records than can be counted
      pub run_many : IsStoppedAt grows buffering c first next old new TooMany → IfSome first (λ octets. most_records < record_count c.size octets)
      run_many h = many_told c.size first next h.read h.one some h.octets h.exact h.most

      -- the recording has fewer records than are done
      pub run_short : IsStoppedAt grows buffering c first next old new ShortRecording → IfSome first (λ octets. record_count c.size octets < c.done)
      run_short h =
          let count = count_all c.size h.read h.rest h.all.octets.sized h.all.short in
          told _ (concat h.read ++ h.rest) first next h.all.octets.octets (λ left end.
          rw (end h.all.ended, append-nil (concat h.read ++ h.rest), count) h.few)
