-- How a loop over records stands.
use Rattle.std.proofs.Common.{◌≡◌, ◌<◌, ◌+◌, ℕ, List, [], ◌∷◌, ◌++◌, length, drop, refl, sym, subst, ◌∙◌, Option, inl, inr, arith, append-nil, length-append, append_assoc, drop_of_length-le}
use Rattle.std.proofs.lemmas.List.{drop-append-le}
use Rattle.std.specs.List.{concat}
use Rattle.std.specs.Io.KnownBytes.{Consumes, IsAtEnd}
use Rattle.std.proofs.KnownBytes.{Consumes-trans}
use Rattle.tm_faults.specs.declared.run.RunFault.{RunFault}
use Rattle.tm_output.specs.declared.command.Ending.{Ending}
use Rattle.tm_output.specs.declared.command.Ending.TheVariants.{StopAfter}
use Rattle.tm_tool.specs.Endings.{EndsAt, Suffices, WantsFurther}
use Rattle.tm_output.specs.Records.{HasRead}
use Rattle.tm_tool.specs.code.RecordLoop.{Enough, HasPassed, HasStepped, HasTaken, NextStopped, Reached, Refusing, TakesEach, Taking, TakingFails, TakingRefused, TakingStopped}
use Rattle.tm_output.proofs.RecordLemmas.{AreRecords-append, concat-one}

-- ---- how many records are wanted

pub wanted_reached : (ending : Ending) (done count : ℕ) → WantsFurther ending done count → Reached ending done count
wanted_reached (StopAfter n) done count h = omega (arith, h)
wanted_reached _ done count h = tt

pub more_reached : (ending : Ending) (done count more : ℕ) → WantsFurther ending done count → more ≡ count + 1 → Reached ending done more
more_reached (StopAfter n) done count more h e = omega (arith, h, e)
more_reached _ done count more h e = tt

pub first_reached : (ending : Ending) (done : ℕ) → Reached ending done done
first_reached (StopAfter n) done = omega arith
first_reached _ done = tt

pub just_enough : (ending : Ending) (done count : ℕ) → Reached ending done count → Enough ending done count → Suffices ending done count
just_enough (StopAfter n) done count r h = omega (arith, r, h)
just_enough _ done count r h = absurd h

-- ---- records that are taken

module _ {V : Type 0} (takes : Taking V) where
  -- one more is taken
  takes_one : (rs : List (List ℕ)) (one : List ℕ) (old mid new : V) → TakesEach takes old rs mid → takes mid (one ∷ []) new → TakesEach takes old (rs ++ one ∷ []) new
  takes_one [] one old mid new h k = (new, subst (λ (v : V). takes v (one ∷ []) new) h k, refl)
  takes_one (r ∷ rs) one old mid new h k = (h.0, h.1, takes_one rs one h.0 mid new h.2 k)

  -- what holds of no records, and of records with one more, holds of them all
  module _ (all : List (List ℕ) → V → Type 0) (more : (rs : List (List ℕ)) (one : List ℕ) (i j : V) → all rs i → takes i (one ∷ []) j → all (rs ++ one ∷ []) j) where
    holds_behind : (done rs : List (List ℕ)) (old new : V) → all done old → TakesEach takes old rs new → all (done ++ rs) new
    holds_behind done [] old new before h =
        subst (λ (l : List (List ℕ)). all l new) (sym (append-nil done)) (subst (all done) (sym h) before)
    holds_behind done (r ∷ rs) old new before h =
        subst (λ (l : List (List ℕ)). all l new) (append_assoc done (r ∷ []) rs)
        (holds_behind (done ++ r ∷ []) rs h.0 new (more done r old h.0 before h.1) h.2)

    pub holds_of_all : (old : V) → all [] old → (rs : List (List ℕ)) (new : V) → TakesEach takes old rs new → all rs new
    holds_of_all old none rs new h = holds_behind [] rs old new none h

module _ {V : Type 0} (takes : Taking V) (size done : ℕ) (ending : Ending) where
  -- the records that are done were passed over
  pub taken_first : (first left : Option (List ℕ)) (v : V) → HasPassed size done first left → HasTaken takes size done first left v v done
  taken_first first left v h =
      let none : drop done h.read ≡ [] = drop_of_length-le h.read (omega (arith, h.counted)) in
      let took = subst (λ (rs : List (List ℕ)). TakesEach takes v rs v) (sym none) refl in
      record { read = h.read; sized = h.sized; octets = h.octets; passed = omega (arith, h.counted); count_is = sym h.counted; took = took }

  module _ (first left : Option (List ℕ)) (old now : V) (count : ℕ) (taken : HasTaken takes size done first left old now count) where
    goes_on : WantsFurther ending done count → WantsFurther ending done (length taken.read)
    goes_on wanted = subst (WantsFurther ending done) taken.count_is wanted

    has_read : (next : Option (List ℕ)) (octets : List ℕ) → Consumes left next octets → HasRead size first next taken.read octets
    has_read next octets got = record { sized = taken.sized; octets = Consumes-trans first left next (concat taken.read) octets taken.octets got }

    -- a record was read and taken
    pub taken_more : (next : Option (List ℕ)) (octets : List ℕ) → Consumes left next octets → (new : V) (more : ℕ)
        → length octets ≡ size → takes now (octets ∷ []) new → more ≡ count + 1 → HasTaken takes size done first next old new more
    taken_more next octets got new more exact one is =
        let longer : drop done (taken.read ++ octets ∷ []) ≡ drop done taken.read ++ octets ∷ [] = drop-append-le done taken.read (octets ∷ []) taken.passed in
        let counted = length-append taken.read (octets ∷ []) in record {
          read = taken.read ++ octets ∷ [];
          sized = AreRecords-append size taken.read (octets ∷ []) taken.sized (exact, tt);
          octets = subst (Consumes first next) (sym (concat-one taken.read octets)) (has_read next octets got).octets;
          passed = omega (arith, taken.passed, counted);
          count_is = omega (arith, taken.count_is, counted, is);
          took = subst (λ (rs : List (List ℕ)). TakesEach takes old rs new) (sym longer) (takes_one takes (drop done taken.read) octets old now new taken.took one);
        }

    -- all was read, and this many octets are left
    pub taken_all : (next : Option (List ℕ)) (octets : List ℕ) → Consumes left next octets → WantsFurther ending done count
        → (n : ℕ) → length octets ≡ n → length octets < size → IsAtEnd next → HasStepped takes size done ending first next old now count n
    taken_all next octets got wanted n counted short end =
        let ended : EndsAt ending size done first next taken.read octets =
        inl (record { octets = has_read next octets got; short = short; ended = end }, goes_on wanted) in
        record { read = taken.read; rest = octets; passed = taken.passed; ended = ended; count_is = taken.count_is; left = counted; took = taken.took }

    -- no further record is wanted
    pub taken_enough : Suffices ending done count → HasStepped takes size done ending first left old now count 0
    taken_enough enough =
        let octets = subst (Consumes first left) (sym (append-nil (concat taken.read))) taken.octets in
        let ended : EndsAt ending size done first left taken.read [] =
        inr (record { sized = taken.sized; octets = octets }, refl, subst (Suffices ending done) taken.count_is enough) in
        record { read = taken.read; rest = []; passed = taken.passed; ended = ended; count_is = taken.count_is; left = refl; took = taken.took }

    -- the next record was not read, or not taken
    pub taken_stopped : (refuses : Refusing V) (counted : V → ℕ) (next : Option (List ℕ)) (new : V) (failures_old failures_new : ℕ)
        (fault : RunFault) → WantsFurther ending done count → counted now ≡ count
        → NextStopped refuses size left next failures_old failures_new now new fault
        → TakingStopped takes size done refuses counted ending first next failures_old failures_new old new fault
    taken_stopped refuses counted next new failures_old failures_new fault wanted are (inl (fails, is, raised, same)) =
        let stopped : TakingFails takes size done ending first next old now =
        record { read = _; part = _; octets = has_read next fails.part fails.octets; short = fails.short; passed = taken.passed; wanted = goes_on wanted; took = taken.took } in
        inr (inl (subst (TakingFails takes size done ending first next old) (sym same) stopped, is, raised))
    taken_stopped refuses counted next new failures_old failures_new fault wanted are (inr (it, same)) =
        let refused : TakingRefused takes size done refuses counted ending first next old new fault = record {
          read = taken.read;
          one = it.one;
          octets = has_read next it.one it.octets;
          exact = it.exact;
          passed = taken.passed;
          wanted = goes_on wanted;
          mid = now;
          count_is = are ∙ taken.count_is;
          took = taken.took;
          stopped = it.holds;
        } in
        inr (inr (refused, same))
