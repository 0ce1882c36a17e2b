-- How the counting of records goes on, and how a summary ended, in the words of the octets that were read, and of the whole recording.
use Rattle.std.proofs.Common.{Bool, false, [], ◌∷◌, ◌≡◌, ◌<◌, ℕ, Option, Some, None, IfSome, List, ◌++◌, length, refl, sym, ap, subst, ◌∙◌, append-nil, arith, append_assoc, drop, inl, inr}
use Rattle.std.specs.List.{concat}
use Rattle.std.specs.Io.KnownBytes.{Appends, Keeps}
use Rattle.std.proofs.KnownBytes.{Appends-kept}
use Rattle.tm_frame.specs.Layout.{record_length_of}
use Rattle.tm_frame.specs.Rules.{Rules}
use Rattle.tm_devices.specs.Devices.{raised}
use Rattle.tm_faults.specs.declared.run.RunFault.{RunFault}
use Rattle.tm_faults.specs.declared.run.RunFault.TheVariants.{Read, Write, Report, TooMany, NoMemory, ShortRecording}
use Rattle.tm_output.specs.Outputs.{AppendsCut, Stopped, Took, View, line_pieces, octets_buffering, outs, view}
use Rattle.tm_output.specs.Records.{AreRecords, record_count}
use Rattle.tm_output.proofs.LinePieces.{lines_out, no_memory, same_cut}
use Rattle.tm_output.proofs.RecordLemmas.{always, count_all, records_all, rest_all, told}
use Rattle.tm_summary.specs.Lines.{summary_lines}
use Rattle.tm_summary.specs.SummaryNumbers.{SummaryNumbers, Tally, nothing, numbers_of}
use Rattle.tm_checkpoint.specs.Works.{new_job, Work}
use Rattle.tm_summary.specs.Losses.{has_good_frame, tells_loss}
use Rattle.tm_tool.specs.SummaryNumbers.{IsSummed, summary_numbers}
use Rattle.tm_tool.specs.RunTotals.{frames_in, good_frames}
use Rattle.tm_tool.specs.Summaries.{IsSummarized, IsSummaryStop, SummaryStopped, summary_course, lines_after, summary, tally_of}
use Rattle.tm_tool.specs.code.Summing.{HasSummed, CountingState, CountedRecords, CountsEnd, CountsRecords, RefusesCount, and_end, and_records}
use Rattle.std.proofs.lemmas.Grind.{flat_map-append}
use Rattle.tm_frame.specs.Fault.{frame_reading_of}
use Rattle.tm_packet.specs.Merge as sequence
use Rattle.tm_packet.proofs.Merging.{length-after_from}
use Rattle.tm_reassembly.specs.declared.fault.StepFault.{StepFault}
use Rattle.tm_reassembly.specs.declared.fault.StepFault.TheVariants.{Sink, Failed}
use Rattle.tm_reassembly.specs.Steps.{CloseRefused, Progress}
use Rattle.tm_output.specs.declared.command.Ending.TheVariants.{Close}
use Rattle.tm_reassembly.specs.Items.{closing}
use Rattle.tm_reassembly.specs.Recording.{items}
use Rattle.tm_reassembly.proofs.Raw.{items-join}
use Rattle.tm_items.specs.Item.{Item}
use Rattle.tm_output.specs.Pieces.{noted, noted_all}
use Rattle.tm_summary.specs.Kinds.{Noted}
use Rattle.tm_summary.specs.declared.counting.Counting.{Counting}
use Rattle.tm_summary.specs.Tallies.{AllFit, RefusesTally, TakesTally, and_items, and_notes, notes_among, notes_in, open_notes, with_all, with_open}
use Rattle.tm_summary.proofs.Taken.{none_refused}
use Rattle.tm_summary.proofs.Tallied.{all_counted, keys_fit, open_counted}
use Rattle.tm_tool.specs.RecordingPieces.{items_of, worked}
use Rattle.tm_tool.specs.Courses.{IsStoppedAt, whole}
use Rattle.tm_output.specs.Faults.{CausedByDevice}
use Rattle.tm_tool.specs.code.RecordLoop.{HasStepped, PassingStopped, TakesEach, TakingStopped}
use Rattle.tm_tool.proofs.Courses.{IsCourse, all_read, run_cut, run_many}
use Rattle.tm_output.proofs.PieceLemmas.{took_none}
use Rattle.tm_tool.proofs.Taking.{holds_of_all}
use Rattle.tm_frame.specs.Layout.{most_records}
use Rattle.std.proofs.KnownBytes.{Appends-nil, Appends-trans}
use Rattle.tm_tool.proofs.NoteLemmas.{noted_all_is}
use Rattle.tm_tool.proofs.Running.{IsValid, noted-append, worked-append, worked-none}

pub notes_among-append : (e : sequence.Entries) (xs ys : List Item) → notes_among e (xs ++ ys) ≡ notes_among e xs ++ notes_among (noted_all e xs) ys
notes_among-append e [] ys = refl
notes_among-append e (x ∷ xs) ys =
    ap (λ (l : List Noted). notes_in e x ++ l) (notes_among-append (noted e x) xs ys) ∙ sym (append_assoc (notes_in e x) (notes_among (noted e x) xs) (notes_among (noted_all (noted e x) xs) ys))

-- a closed end is refused by none
pub end_taken : (p : Progress) (s t : Counting) (xs : List Item) (fault : StepFault RunFault) → p.failed ≡ false → CloseRefused (λ (c : Counting). c) TakesTally RefusesTally p s t xs fault → ⊥
end_taken p s t xs (Sink f) going h = none_refused s xs f t h.1
end_taken p s t xs Failed going h = cc (going, h.0)
end_taken p s t xs _ going h = absurd h

-- and is counted
pub end_counted : (w : Work) (before mid now : SummaryNumbers) (entries : sequence.Entries) (rest : ℕ) → AllFit (closing w.state rest)
    → entries ≡ noted_all w.entries (closing w.state rest)
    → mid ≡ with_all w.entries before (closing w.state rest) → now ≡ with_open mid (sequence.unclosed 0 entries) → CountsEnd w before rest now
end_counted w before mid now entries rest fit noted_is mid_is now_is t are most =
    let size : length entries ≡ length w.entries = ap length (noted_is ∙ noted_all_is w.entries (closing w.state rest)) ∙ length-after_from 0 w.entries _ in
    let first : Tally = and_items t w.entries (closing w.state rest) in
    now_is
    ∙ ap (λ (n : SummaryNumbers). with_open n (sequence.unclosed 0 entries))
    (mid_is ∙ ap (λ (n : SummaryNumbers). with_all w.entries n (closing w.state rest)) are ∙ all_counted t w.entries (closing w.state rest) fit)
    ∙ open_counted first (sequence.unclosed 0 entries) (keys_fit 0 entries (omega (arith, size, most)))
    ∙ ap (λ (e : sequence.Entries). numbers_of (and_notes first (open_notes (sequence.unclosed 0 e)))) noted_is

-- no records count nothing
pub counted_none : {N : Type 0} (numbers : Tally → N) (w : Work) (n : N) → CountedRecords numbers w [] n n
unfolding items
counted_none numbers w n t are = are ∙ ap numbers (sym (rw (append-nil t.frames, append-nil t.items, append-nil t.notes) refl))

-- no record was to be passed over
passing_no : (w : Work) (first next : Option (List ℕ)) (failures failures' : ℕ) (fault : RunFault) → w.state.records ≡ 0
    → PassingStopped (record_length_of w.rules.layout) w.state.records first next failures failures' fault → ⊥
passing_no w first next failures failures' Read none h = omega (arith, none, h.0.few)
passing_no w first next failures failures' ShortRecording none h = omega (arith, none, h.0.few)
passing_no w first next failures failures' _ none h = h

-- counting stopped: a read failed, or a record was one too many
pub counting_stopped : (w : Work) (first next : Option (List ℕ)) (failures failures' : ℕ) (old new : CountingState) (fault : RunFault) → w.state.records ≡ 0
    → TakingStopped CountsRecords (record_length_of w.rules.layout) w.state.records RefusesCount (λ (s : CountingState). s.work.state.records) Close first next failures failures' old new fault
    → (v : View (Option (List ℕ))) → IsSummaryStop w.rules first next v v fault × CausedByDevice failures failures' v.out_failures v.out_failures fault
counting_stopped w first next failures failures' old new fault none (inl h) v = absurd (passing_no w first next failures failures' fault none h.0)
counting_stopped w first next failures failures' old new fault none (inr (inl h)) v =
    let nothing_written = took_none Appends Appends-nil Appends-trans v in
    rw h.1 ((record { read = h.0.read; part = h.0.part; octets = h.0.octets; short = h.0.short; wanted = inr tt; took = nothing_written }, refl), (h.2, refl))
counting_stopped w first next failures failures' old new fault none (inr (inr h)) v =
    let nothing_written = took_none Appends Appends-nil Appends-trans v in
    let most = sym h.0.count_is ∙ h.0.stopped.1 in
    rw h.0.stopped.0 ((record { read = h.0.read; one = h.0.one; octets = h.0.octets; exact = h.0.exact; most = most; wanted = tt; took = nothing_written }, refl), (h.1, refl))

module _ (w : Work) (valid : IsValid w) where
  -- records and then more records
  records_joined : (t : Tally) (a b : List (List ℕ)) → and_records (worked w a) (and_records w t a) b ≡ and_records w t (a ++ b)
  records_joined t a b =
      rw (append_assoc t.frames (good_frames w.rules.layout a) (good_frames w.rules.layout b))
      (rw (← flat_map-append (λ octets. frames_in (frame_reading_of w.rules.layout octets)) a b)
      (rw (append_assoc t.items (items_of w a) (items_of (worked w a) b), items-join w.rules w.state a b valid)
      (rw (append_assoc t.notes (notes_among w.entries (items_of w a)) (notes_among (noted_all w.entries (items_of w a)) (items_of (worked w a) b)))
      (rw (notes_among-append w.entries (items_of w a) (items_of (worked w a) b)) refl))))

  -- so records that were counted are counted with more
  pub counted_more : {N : Type 0} (numbers : Tally → N) (rs : List (List ℕ)) (one : List ℕ) (h i j : N)
      → CountedRecords numbers w rs h i → CountedRecords numbers (worked w rs) (one ∷ []) i j → CountedRecords numbers w (rs ++ one ∷ []) h j
  counted_more numbers rs one h i j a b t are = b (and_records w t rs) (a t are) ∙ ap numbers (records_joined t rs (one ∷ []))

  abbrev counting_from : SummaryNumbers → CountingState
  counting_from n = record { work = w; numbers = n }

  -- and those that were taken one by one were counted
  counted_each : (n : SummaryNumbers) (rs : List (List ℕ)) (new : CountingState) → TakesEach CountsRecords (counting_from n) rs new → CountsRecords (counting_from n) rs new
  counted_each n = holds_of_all CountsRecords (CountsRecords (counting_from n)) (λ rs one mid new a b. (
    b.0 ∙ ap (λ (x : Work). worked x (one ∷ [])) a.0 ∙ sym (worked-append w valid rs (one ∷ [])),
    counted_more numbers_of rs one n mid.numbers new.numbers a.1 (subst (λ (x : Work). CountedRecords numbers_of x (one ∷ []) mid.numbers new.numbers) a.0 b.1),
  )) (counting_from n) (sym (worked-none w valid), counted_none numbers_of w n)

  -- with the closed end all is counted
  end_joined : (rs : List (List ℕ)) (rest : ℕ) → and_end (worked w rs) (and_records w nothing rs) rest ≡ tally_of w rs rest
  end_joined rs rest =
      rw (noted-append w.entries (items_of w rs) (closing (worked w rs).state rest))
      (rw (notes_among-append w.entries (items_of w rs) (closing (worked w rs).state rest)) refl)

  -- so a recording that was taken whole is counted whole
  pub summed : (first next : Option (List ℕ)) (n : SummaryNumbers) (before : CountingState) (now : SummaryNumbers) (rest count : ℕ) → w.state.records ≡ 0 → n ≡ numbers_of nothing
      → length w.entries ≡ 16384 → HasStepped CountsRecords (record_length_of w.rules.layout) w.state.records Close first next (counting_from n) before before.work.state.records rest
      → CountsEnd before.work before.numbers rest now → count ≡ before.work.state.records → HasSummed w first next now count
  summed first next n before now rest count none are places h end count_is =
      let from : drop w.state.records h.read ≡ h.read = ap (λ (d : ℕ). drop d h.read) none in
      let (on, numbers) = counted_each n (drop w.state.records h.read) before h.took in
      let work : before.work ≡ worked w h.read = on ∙ ap (worked w) from in
      let sum : before.numbers ≡ numbers_of (and_records w nothing h.read) =
      numbers nothing are ∙ ap (λ (rs : List (List ℕ)). numbers_of (and_records w nothing rs)) from in
      let left : before.work.entries ≡ noted_all w.entries (items_of w h.read) = ap (λ (x : Work). x.entries) work in
      let size : length before.work.entries ≡ 16384 =
      ap length (left ∙ noted_all_is w.entries (items_of w h.read)) ∙ length-after_from 0 w.entries _ ∙ places in
      let all : (x : Work) (m : ℕ) → x ≡ worked w h.read → m ≡ rest → numbers_of (and_end x (and_records w nothing h.read) rest) ≡ numbers_of (tally_of w h.read m) =
      λ x m is same. rw (is, same) (ap numbers_of (end_joined h.read rest)) in
      let counted = end (and_records w nothing h.read) sum (omega (arith, size)) ∙ all before.work (length h.rest) work h.left in
      record { read = h.read; rest = h.rest; all = all_read w.state.records h.ended; counted = counted; count_is = count_is ∙ h.count_is }

-- ---- the lines

module _ (rules : Rules) where
  -- the lines of a recording that was read whole
  summary_read : (read : List (List ℕ)) (rest : List ℕ) → AreRecords (record_length_of rules.layout) read → length rest < record_length_of rules.layout
      → summary rules (concat read ++ rest) ≡ lines_after rules read (length rest)
  unfolding summary
  summary_read read rest sized short =
      rw (records_all (record_length_of rules.layout) read rest sized short, rest_all (record_length_of rules.layout) read rest sized short) refl

  -- and its numbers
  numbers_read : (read : List (List ℕ)) (rest : List ℕ) → AreRecords (record_length_of rules.layout) read → length rest < record_length_of rules.layout
      → numbers_of (tally_of (new_job rules).work read (length rest)) ≡ summary_numbers rules (concat read ++ rest)
  unfolding summary_numbers
  numbers_read read rest sized short =
      rw (records_all (record_length_of rules.layout) read rest sized short, rest_all (record_length_of rules.layout) read rest sized short) refl

  module _ (first next : Option (List ℕ)) (w : Work) (is : w ≡ (new_job rules).work) (numbers : SummaryNumbers) (count : ℕ) (h : HasSummed w first next numbers count) where
    sums : HasSummed (new_job rules).work first next numbers count
    sums = subst (λ (x : Work). HasSummed x first next numbers count) is h

    counted : count ≡ length sums.read
    counted = sums.count_is

    lines_are : (chosen : List Bool) → chosen ≡ rules.channels → summary_lines chosen count numbers ≡ lines_after rules sums.read (length sums.rest)
    lines_are chosen same =
        ap (λ (cs : List Bool). summary_lines cs count numbers) same
        ∙ ap (λ (n : ℕ). summary_lines rules.channels n numbers) counted
        ∙ ap (λ (m : SummaryNumbers). summary_lines rules.channels (length sums.read) m) sums.counted

    -- writing stopped in the lines
    pub lines_stopped : (chosen : List Bool) → chosen ≡ rules.channels → (old new : Option (List ℕ)) (failures failures' : ℕ) (fault : RunFault)
        → Stopped Appends octets_buffering (view old None failures 0) (view new None failures' 0) (line_pieces (summary_lines chosen count numbers)) fault
        → IsSummaryStop rules first next (view old None failures 0) (view new None failures' 0) fault
    lines_stopped chosen same old new failures failures' Write stopped =
        let lines = subst
        (λ (ls : List (List ℕ)). Stopped Appends octets_buffering (view old None failures 0) (view new None failures' 0) (line_pieces ls) Write)
        (lines_are chosen same) stopped in
        record { read = sums.read; rest = sums.rest; passed = omega arith; ended = inl (sums.all, tt); mid = _; took = took_none Appends Appends-nil Appends-trans _; stopped = lines }
    lines_stopped chosen same old new failures failures' NoMemory stopped = absurd (no_memory (summary_lines chosen count numbers) (stopped.memory refl))
    lines_stopped chosen same old new failures failures' Report stopped = let no : 0 ≡ raised 0 = stopped.cause.1 in cc
    lines_stopped chosen same old new failures failures' _ stopped = absurd stopped.cause

    -- all lines were written
    abbrev summarized : (chosen : List Bool) → chosen ≡ rules.channels → (old mid new : Option (List ℕ)) (failures failures' : ℕ)
        → Took Appends (view old None failures 0) (view mid None failures' 0) (line_pieces (summary_lines chosen count numbers)) → Keeps mid new → IsSummarized rules first next old new count
    summarized chosen same old mid new failures failures' took kept =
        let text : outs (line_pieces (summary_lines chosen count numbers)) ≡ concat (summary rules (concat sums.read ++ sums.rest)) =
        lines_out (summary_lines chosen count numbers)
        ∙ ap concat (lines_are chosen same ∙ sym (summary_read sums.read sums.rest sums.all.octets.sized sums.all.short)) in
        let written = Appends-kept old mid new _ (subst (Appends old mid) text took.whole.0) kept in
        let count_is = counted ∙ sym (count_all (record_length_of rules.layout) sums.read sums.rest sums.all.octets.sized sums.all.short) in
        let all = sums.all in
        record { read = concat sums.read ++ sums.rest; octets = all.octets.octets; ended = all.ended; written = written; count_is = count_is }

    -- and this is what their numbers tell
    pub summed_up : (chosen : List Bool) → chosen ≡ rules.channels → (old mid new : Option (List ℕ)) (failures failures' : ℕ)
        → Took Appends (view old None failures 0) (view mid None failures' 0) (line_pieces (summary_lines chosen count numbers)) → Keeps mid new
        → (good lost : Bool) → good ≡ has_good_frame chosen numbers → lost ≡ tells_loss numbers
        → IsSummed rules first next old new (record { records = count; has_good_frame = good; has_losses = lost })
    summed_up chosen same old mid new failures failures' took kept good lost good_is lost_is =
        let all : numbers ≡ summary_numbers rules (concat sums.read ++ sums.rest) =
        sums.counted ∙ numbers_read sums.read sums.rest sums.all.octets.sized sums.all.short in
        record {
          lines = summarized chosen same old mid new failures failures' took kept;
          good_is = good_is ∙ ap (λ (cs : List Bool). has_good_frame cs numbers) same ∙ ap (has_good_frame rules.channels) all;
          losses_is = lost_is ∙ ap tells_loss all;
        }

  -- ---- of a recording that tells its octets

  module _ (first next : Option (List ℕ)) where
    pub summary_told : (old new : Option (List ℕ)) (count : ℕ) → IsSummarized rules first next old new count
        → IfSome first (λ octets. Appends old new (concat (summary rules octets)) × (count ≡ record_count (record_length_of rules.layout) octets))
    summary_told old new count h =
        told _ h.read first next h.octets (λ left end. rw (end h.ended, append-nil h.read) (h.written, h.count_is))

  pub is_course : IsCourse (summary_course rules)
  is_course = record { none = refl; more = λ rs one. refl; enough = λ done count no. absurd no }

  lines_whole : (octets : List ℕ) → line_pieces (summary rules octets) ≡ whole (summary_course rules) octets
  unfolding summary
  lines_whole octets = refl

  module _ (some : 0 < record_length_of rules.layout) (first next : Option (List ℕ)) (old new : View (Option (List ℕ))) where
    cut_of : (fault : RunFault) → IsStoppedAt Appends octets_buffering (summary_course rules) first next old new fault
        → IfSome first (λ octets. AppendsCut Appends old new (whole (summary_course rules) octets))
    cut_of = run_cut (summary_course rules) is_course some first next Appends Appends-nil Appends-trans octets_buffering old new

    pub cut_told : (fault : RunFault) → IsSummaryStop rules first next old new fault → IfSome first (λ octets. AppendsCut Appends old new (whole (summary_course rules) octets))
    cut_told Read h = cut_of Read h.0
    cut_told Write h = cut_of Write (inr h)
    cut_told TooMany h = cut_of TooMany h.0
    cut_told NoMemory h = always first (λ octets. same_cut old new (whole (summary_course rules) octets) h.1)
    cut_told _ h = absurd h

    pub most_told : IsSummaryStop rules first next old new TooMany → IfSome first (λ octets. most_records < record_count (record_length_of rules.layout) octets)
    most_told h = run_many (summary_course rules) is_course some first next Appends Appends-nil Appends-trans octets_buffering old new h.0

-- what a fault says of it
pub stop_told : (rules : Rules) → 0 < record_length_of rules.layout → (first next : Option (List ℕ)) (old new : View (Option (List ℕ))) (fault : RunFault) → IsSummaryStop rules first next old new fault
    → IfSome first (SummaryStopped rules old new fault)
stop_told rules some None next old new fault h = tt
stop_told rules some (Some octets) next old new fault h = record {
  cut = rw (lines_whole rules octets) (cut_told rules some (Some octets) next old new fault h);
  memory = λ e. let stop : IsSummaryStop rules (Some octets) next old new NoMemory = subst (IsSummaryStop rules (Some octets) next old new) e h in stop.1;
  too_many = λ e. most_told rules some (Some octets) next old new (subst (IsSummaryStop rules (Some octets) next old new) e h);
}
