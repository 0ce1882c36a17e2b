-- A recording whose octets that are done are given as zeros.
use Rattle.std.proofs.Common.{◌≡◌, ◌⊎◌, ◌≤◌, ◌<◌, ℕ, ◌+◌, ◌*◌, Bool, true, false, List, [], ◌∷◌, ◌++◌, length, take, drop, replicate, refl, sym, ap, ◌∙◌, arith, inl, inr, Option, Some, Ok}
use Rattle.std.proofs.lemmas.Grind.{common_steps}
use Rattle.std.proofs.lemmas.List.{length-replicate, map-append}
use Rattle.std.proofs.KnownBytes.{Appends-nil, Appends-trans}
use Rattle.std.proofs.Math.Seq.{drop-append_seam}
use Rattle.std.specs.Io.KnownBytes.{Appends}
use Rattle.std.specs.List.{concat}
use Rattle.tm_frame.specs.Layout.{most_records}
use Rattle.tm_frame.specs.Rules.{Rules}
use Rattle.tm_checkpoint.specs.Checkpoints.{resumed}
use Rattle.tm_checkpoint.specs.Works.{JobState, Work, new_job}
use Rattle.tm_output.specs.declared.command.Command.{Command}
use Rattle.tm_output.specs.declared.command.Ending.{Ending}
use Rattle.tm_faults.specs.declared.run.RunFault.{RunFault}
use Rattle.tm_faults.specs.declared.run.RunFault.TheVariants.{NoMemory, TooMany}
use Rattle.tm_output.specs.Outputs.{AppendsPieces, Piece, View, line_piece, line_pieces, octets_buffering, reports}
use Rattle.tm_output.specs.Pieces.{text_of, buffering_of}
use Rattle.tm_output.specs.Records.{AreRecords, record_count, records, rest_of}
use Rattle.tm_output.specs.declared.totals.Totals.{Totals}
use Rattle.tm_tool.specs.Courses.{HasRun, IsStoppedAt, RecordCourse, StopsWithoutMemory, whole}
use Rattle.tm_tool.specs.Listing.{listing_course}
use Rattle.tm_tool.specs.ListedRuns.{lines_course}
use Rattle.tm_tool.proofs.Courses.{run_many, run_whole}
use Rattle.tm_output.proofs.LinePieces.{lines_out}
use Rattle.tm_tool.proofs.ListingLemmas.{is_course}
use Rattle.tm_output.proofs.RecordLemmas.{count_front, records_counted, records_front, rest_front}
use Rattle.tm_tool.specs.HeadPieces.{head_pieces}
use Rattle.tm_tool.specs.RecordingPieces.{further, pieces, records_for, worked}
use Rattle.tm_tool.specs.Runs.{IsHeadedStop, IsSoundWork, Outcome, Ran, StoppedIn, devices_at, kept_of}
use Rattle.tm_tool.proofs.HeadedRuns.{stop_told}
use Rattle.tm_tool.proofs.Passing.{cut_records}
use Rattle.tm_tool.proofs.RunPieces.{ran_told}
use Rattle.tm_library.specs.Refusals.{IsRunRefused, run_refusal}
use Rattle.tm_library.specs.Chunks.{Holds, chunk_ending, chunk_pieces, job_in, lines_from, size_of, totals_by}

-- ---- a job has the settings that it was resumed with

resumed_rules : (s : Rules) (octets : List ℕ) (job : JobState) → resumed s octets ≡ Ok job → job.work.rules ≡ s
unfolding resumed
resumed_rules s octets job is = grind arith

pub has_rules : (s : Rules) (octets : List ℕ) (job : JobState) → job_in s octets ≡ Ok job → job.work.rules ≡ s
has_rules s [] job is = let same : job ≡ new_job s = cc in ap (λ (j : JobState). j.work.rules) same
has_rules s (o ∷ os) job is = resumed_rules s (o ∷ os) job is

-- ---- a room

-- what was written stands in front of a room that is large enough
pub holds : (room overflow octets : List ℕ) (filled : ℕ) → filled ≤ length room → (0 < length overflow → filled ≡ length room)
    → take filled room ++ overflow ≡ octets → Holds room (filled + length overflow) octets
holds room overflow octets filled within full is = grind (arith, common_steps)

-- what was written where nothing stood before
pub written_first : (room overflow octets text : List ℕ) (filled : ℕ) → filled ≡ 0 → overflow ≡ [] → Appends (Some (take filled room ++ overflow)) (Some octets) text → octets ≡ text
written_first room overflow octets text filled zero none h = rw (zero, none) at h

-- ---- the recording that a run over a chunk reads

pub all_taken : {X : Type 0} (last : Bool) (rs : List X) → records_for (chunk_ending last) rs ≡ rs
all_taken true rs = refl
all_taken false rs = refl

module _ (w : Work) (octets : List ℕ) (done : ℕ) (is : done ≡ w.state.records * size_of w) (some : 0 < size_of w) where
  abbrev cut : (read : List (List ℕ)) × AreRecords (size_of w) read × (length read ≡ w.state.records) × (concat read ≡ replicate done 0)
  cut = cut_records (size_of w) w.state.records (replicate done 0) (length-replicate done 0 ∙ is)

  zeros_are : concat cut.0 ++ octets ≡ replicate done 0 ++ octets
  zeros_are = ap (λ (l : List ℕ). l ++ octets) cut.3

  further_is : further w (replicate done 0 ++ octets) ≡ records (size_of w) octets
  further_is =
      ap (further w) (sym zeros_are) ∙ ap (drop w.state.records) (records_front (size_of w) some cut.0 octets cut.1)
      ∙ ap (λ (n : ℕ). drop n (cut.0 ++ records (size_of w) octets)) (sym cut.2) ∙ drop-append_seam cut.0 (records (size_of w) octets)

  rest_is : rest_of (size_of w) (replicate done 0 ++ octets) ≡ rest_of (size_of w) octets
  rest_is = ap (rest_of (size_of w)) (sym zeros_are) ∙ rest_front (size_of w) some cut.0 octets cut.1

  pub count_is : record_count (size_of w) (replicate done 0 ++ octets) ≡ w.state.records + length (records (size_of w) octets)
  count_is =
      ap (record_count (size_of w)) (sym zeros_are) ∙ omega (arith, count_front (size_of w) some cut.0 octets cut.1, cut.2, records_counted (size_of w) some octets)

  pub taken_is : (last : Bool) → records_for (chunk_ending last) (further w (replicate done 0 ++ octets)) ≡ records (size_of w) octets
  taken_is last = all_taken last (further w (replicate done 0 ++ octets)) ∙ further_is

  -- the lines of the octets are the pieces of their list
  lines_are : (last : Bool) → whole (listing_course w.rules.layout w.state.records (chunk_ending last)) (replicate done 0 ++ octets)
      ≡ line_pieces (lines_from w.rules.layout w.state.records last octets)
  lines_are last = rw (taken_is last, rest_is) (sym (map-append line_piece _ _))

  module _ (last : Bool) (ending : Ending) (ends : ending ≡ chunk_ending last) (left : Option (List ℕ)) (old new : View (Option (List ℕ))) where
    -- so they were written
    pub lists_lines : (Holds : ℕ → List (List ℕ) → ℕ → Type 0)
        → HasRun Appends octets_buffering (lines_course ending w) (Some (replicate done 0 ++ octets)) left old new Holds
        → Appends old.out new.out (concat (lines_from w.rules.layout w.state.records last octets))
    lists_lines Holds h =
        let c : RecordCourse ℕ = lines_course (chunk_ending last) w in
        let took = run_whole c (is_course w.rules.layout w.state.records (chunk_ending last)) some (Some (replicate done 0 ++ octets)) left
        Appends Appends-nil Appends-trans octets_buffering old new _ (rw ends at h) in
        rw (lines_are last, lines_out) at took.whole.0

    -- and there are too many records only if there are more than the greatest number
    pub lists_refused : (fresh : Bool) (fault : RunFault)
        → IsStoppedAt Appends octets_buffering (lines_course ending w) (Some (replicate done 0 ++ octets)) left old new fault
        ⊎ ((fault ≡ NoMemory) × StopsWithoutMemory Appends octets_buffering (lines_course ending w) (Some (replicate done 0 ++ octets)) left old new)
        → IsRunRefused (record { work = w; fresh = fresh }) octets (run_refusal fault)
    lists_refused fresh TooMany (inl h) =
        let many = run_many (lines_course ending w) (is_course w.rules.layout w.state.records ending) some (Some (replicate done 0 ++ octets)) left
        Appends Appends-nil Appends-trans octets_buffering old new h in
        omega (arith, many, count_is)
    lists_refused fresh TooMany (inr h) = let no : TooMany ≡ NoMemory = h.0 in absurd (cc)
    lists_refused fresh _ h = tt

module _ (command : Command) (last : Bool) (job : JobState) (octets : List ℕ) (done : ℕ) (is : done ≡ job.work.state.records * size_of job.work) where
  abbrev its_pieces : List (Piece ℕ)
  its_pieces = head_pieces command job.fresh ++ pieces (text_of command) (chunk_ending last) job.work (replicate done 0 ++ octets)

  pub pieces_are : 0 < size_of job.work → its_pieces ≡ chunk_pieces command last job octets
  unfolding pieces
  pieces_are some = rw (taken_is job.work octets done is some last, rest_is job.work octets done is some) refl

  module _ (sound : IsSoundWork job.work) (left : Option (List ℕ)) (old new : View (Option (List ℕ))) (ending : Ending) where
    -- just the pieces of the chunk were written; so many records are done; this is kept; and this was given and lost
    pub gave : (count : ℕ) (kept : Option Work) (totals : Totals) → ending ≡ chunk_ending last
        → Ran Appends (buffering_of command) (text_of command) ending job.work (head_pieces command job.fresh)
        (devices_at (Some (replicate done 0 ++ octets)) 0 old) (devices_at left 0 new) count kept totals
        → AppendsPieces Appends old new (chunk_pieces command last job octets)
        × (count ≡ job.work.state.records + length (records (size_of job.work) octets))
        × (kept ≡ kept_of (chunk_ending last) (worked job.work (records (size_of job.work) octets)))
        × (totals ≡ totals_by command last job octets)
    gave count kept totals ends h =
        let outcome : Outcome Appends (buffering_of command) (text_of command) (chunk_ending last) job.work (head_pieces command job.fresh)
        (replicate done 0 ++ octets) old new count kept totals =
        ran_told Appends Appends-nil Appends-trans _ _ (chunk_ending last) job.work sound.0 sound.1 _ left old new 0 0 _ count kept totals (rw ends at h) in
        let taken = taken_is job.work octets done is sound.1 last in
        let rest = rest_is job.work octets done is sound.1 in
        (rw (pieces_are sound.1) at outcome.took.whole, rw taken at outcome.count_is, rw taken at outcome.kept_is, rw (taken, rest) at outcome.totals_is)

    module _ (fault : RunFault) (h : IsHeadedStop Appends (buffering_of command) (text_of command) ending job.work (head_pieces command job.fresh)
        (devices_at (Some (replicate done 0 ++ octets)) 0 old) (devices_at left 0 new) fault) where
      stopped : StoppedIn Appends (buffering_of command) (text_of command) ending job.work (head_pieces command job.fresh) old new fault
          (replicate done 0 ++ octets)
      stopped =
          stop_told Appends Appends-nil Appends-trans _ _ ending job.work _ sound.0 sound.1 0 0 left old new fault
          (Some (replicate done 0 ++ octets)) h

      -- there are too many records only if there are more than the greatest number
      too_many : fault ≡ TooMany → most_records < job.work.state.records + length (records (size_of job.work) octets)
      too_many e = omega (arith, stopped.too_many e, count_is job.work octets done is sound.1)

      pub refused : (f : RunFault) → fault ≡ f → IsRunRefused job octets (run_refusal f)
      refused TooMany e = too_many e
      refused _ e = tt

-- ---- lines have no report

pub reports_none : (lines : List (List ℕ)) → reports (line_pieces lines) ≡ []
reports_none [] = refl
reports_none (line ∷ lines) = reports_none lines
