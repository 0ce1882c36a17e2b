-- A listing goes along its course; and how it ended in the words of the whole recording.
use Rattle.std.proofs.Common.{◌≡◌, ◌<◌, ◌+◌, ℕ, cond, List, [], ◌∷◌, ◌++◌, length, refl, sym, ap, subst, ◌∙◌, append-nil, length-append, add-zero, arith, inl, inr, Option, None, Some, IfSome, IfOk, IfErr, Result, Ok, Err}
use Rattle.std.proofs.lemmas.List.{map-append}
use Rattle.std.proofs.lemmas.List.Sums.{sum_by-append}
use Rattle.std.specs.List.{concat, count_by}
use Rattle.std.specs.Io.KnownBytes.{Appends}
use Rattle.std.proofs.KnownBytes.{Appends-nil, Appends-trans}
use Rattle.tm_devices.specs.Devices.{raised}
use Rattle.tm_frame.specs.declared.layout.LayoutParts.{LayoutParts}
use Rattle.tm_frame.specs.Layout.{record_length_of}
use Rattle.tm_faults.specs.declared.run.RunFault.{RunFault}
use Rattle.tm_faults.specs.declared.run.RunFault.TheVariants.{Read, Write, Report, ShortRecording, TooMany, NoMemory}
use Rattle.tm_output.specs.declared.command.Ending.{Ending}
use Rattle.tm_output.specs.declared.command.Ending.TheVariants.{Close, StopAfter}
use Rattle.tm_tool.specs.declared.listing.Listed.{Listed}
use Rattle.tm_tool.specs.Courses.{RecordCourse, HasRun, IsStoppedAt, devices_at, pieces_ended, whole}
use Rattle.tm_tool.specs.Endings.{Suffices}
use Rattle.tm_output.specs.Faults.{CausedByDevice, FaultsCounted, RunCaused}
use Rattle.tm_output.specs.Outputs.{AppendsCut, View, line_piece, line_pieces, octets_buffering, outs, view}
use Rattle.tm_output.specs.Records.{record_count, records}
use Rattle.tm_tool.specs.Listing.{IsListed, IsListing, IsListingStop, ListingStopped, end_lines, is_good_record, listing, listing_course, record_line, record_lines, rest_lines}
use Rattle.tm_tool.specs.code.Listed.{Lists, counts_good, ListingState, ListsRecords, RefusesLine, listed_behind}
use Rattle.tm_tool.specs.code.RecordLoop.{StepStopped}
use Rattle.tm_tool.proofs.Courses.{Along, IsCourse, all_read, pieces_in, run_cut, run_many}
use Rattle.tm_output.proofs.LinePieces.{lines_lines, lines_out, no_memory, same_cut}
use Rattle.tm_output.proofs.PieceLemmas.{took_none}
use Rattle.tm_output.proofs.RecordLemmas.{always, count_all, records_all, told}

pub record_lines-append : (layout : LayoutParts) (seen : ℕ) (a b : List (List ℕ))
    → record_lines layout seen (a ++ b) ≡ record_lines layout seen a ++ record_lines layout (seen + length a) b
record_lines-append layout seen [] b = ap (λ (n : ℕ). record_lines layout n b) (sym (add-zero seen))
record_lines-append layout seen (r ∷ a) b =
    let count : seen + 1 + length a ≡ seen + length (r ∷ a) = omega arith in
    rw (record_lines-append layout (seen + 1) a b, count) refl

module _ (layout : LayoutParts) (done : ℕ) (ending : Ending) where
  one_line_more : (rs : List (List ℕ)) (one : List ℕ)
      → line_pieces (record_lines layout done (rs ++ one ∷ [])) ≡ line_pieces (record_lines layout done rs) ++ line_piece (record_line layout (done + length rs) one) ∷ []
  one_line_more rs one =
      ap line_pieces (record_lines-append layout done rs (one ∷ [])) ∙ map-append line_piece (record_lines layout done rs) (record_line layout (done + length rs) one ∷ [])

  no_end : (e : Ending) (start count : ℕ) → Suffices e start count → (seen rest : ℕ) → line_pieces (end_lines e seen rest) ≡ []
  no_end (StopAfter n) start count enough seen rest = refl
  no_end _ start count enough seen rest = absurd enough

  pub is_course : IsCourse (listing_course layout done ending)
  is_course = record { none = refl; more = one_line_more; enough = λ start count enough rs rest. no_end ending start count enough (done + length rs) rest }

  listed_more : (listed : Listed) (rs : List (List ℕ)) (one : List ℕ) → listed_behind layout listed (rs ++ one ∷ []) ≡ listed_behind layout (listed_behind layout listed rs) (one ∷ [])
  listed_more listed rs one =
      let count : listed.records + length (rs ++ one ∷ []) ≡ listed.records + length rs + length (one ∷ []) = omega (arith, length-append rs (one ∷ [])) in
      let all = sum_by-append (λ r. cond (is_good_record layout r) 1 0) rs (one ∷ []) in
      let good : listed.good + count_by (is_good_record layout) (rs ++ one ∷ []) ≡ listed.good + count_by (is_good_record layout) rs + count_by (is_good_record layout) (one ∷ []) = omega (arith, all) in
      rw (count, good) refl

  pub along : (old : ListingState) → old.listed ≡ record { records = done; good = 0 }
      → Along Appends octets_buffering (listing_course layout done ending) (ListsRecords layout) (RefusesLine layout) (λ (s : ListingState). s.view)
      (λ (s : ListingState). s.listed.records) old
  along old first = record {
    is = is_course;
    none = (rw (add-zero old.listed.records, add-zero old.listed.good) refl, took_none Appends Appends-nil Appends-trans old.view);
    more = λ rs one mid new before line. (
      line.0 ∙ ap (λ (l : Listed). listed_behind layout l (one ∷ [])) before.0 ∙ sym (listed_more old.listed rs one),
      rw (record_lines-append layout old.listed.records rs (one ∷ []))
          (lines_lines old.view mid.view new.view _ _ before.1 (rw (ap (λ (l : Listed). l.records) before.0) at line.1)),
    );
    took = λ rs new took. rw (ap (λ (l : Listed). l.records) first) at took.1;
    stopped = λ rs one mid new fault before stop.
        let seen : mid.listed.records ≡ done + length rs = ap (λ (l : Listed). l.records) before.0 ∙ ap (λ (l : Listed). l.records + length rs) first in
        subst (λ (n : ℕ). StepStopped Appends octets_buffering mid.listed.records mid.view new.view (line_piece (record_line layout n one) ∷ []) fault) seen stop;
  }

module _ (layout : LayoutParts) where
  abbrev listing_whole : RecordCourse ℕ
  listing_whole = listing_course layout 0 Close

  -- the lines of a recording are its pieces
  lines_whole : (octets : List ℕ) → line_pieces (listing layout octets) ≡ whole listing_whole octets
  unfolding listing
  lines_whole octets =
      let count : 0 + length (records (record_length_of layout) octets) ≡ length (records (record_length_of layout) octets) = omega arith in
      rw count (map-append line_piece _ _)

  module _ (first next : Option (List ℕ)) where
    -- all was listed
    has_listed : (some : 0 < record_length_of layout) (old new : View (Option (List ℕ))) (listed : Listed)
        → HasRun Appends octets_buffering listing_whole first next old new (counts_good layout listed) → IsListing layout first next old.out new.out listed
    has_listed some old new listed h =
        let all = all_read 0 h.ended in
        let pieces = pieces_in listing_whole (is_course layout 0 Close) some first next h.read h.rest h.passed h.ended in
        let text : concat (listing layout (concat h.read ++ h.rest)) ≡ outs (pieces_ended listing_whole h.read (length h.rest)) =
        sym (lines_out (listing layout (concat h.read ++ h.rest))) ∙ ap outs (lines_whole (concat h.read ++ h.rest) ∙ pieces) in
        let lines : IsListed layout first next old.out new.out listed.records = record {
          read = concat h.read ++ h.rest;
          octets = all.octets.octets;
          ended = all.ended;
          written = rw text h.took.whole.0;
          count_is = h.holds.0 ∙ sym (count_all (record_length_of layout) h.read h.rest all.octets.sized all.short);
        } in
        let good = h.holds.1 ∙ ap (count_by (is_good_record layout)) (sym (records_all (record_length_of layout) h.read h.rest all.octets.sized all.short)) in
        record { lines = lines; good_is = good }

    -- where the loop stops, the listing stops; and no line takes memory
    has_stopped : (failures failures' : ℕ) (old new : Option (List ℕ)) (out_failures out_failures' : ℕ) (fault : RunFault)
        → IsStoppedAt Appends octets_buffering listing_whole first next (view old None out_failures 0) (view new None out_failures' 0) fault
        → RunCaused failures failures' (view old None out_failures 0) (view new None out_failures' 0) fault
        → IsListingStop layout first next (view old None out_failures 0) (view new None out_failures' 0) fault × CausedByDevice failures failures' out_failures out_failures' fault
    has_stopped failures failures' old new out_failures out_failures' Read h counts = (h, (counts.0, counts.1.0))
    has_stopped failures failures' old new out_failures out_failures' Write h counts = (h, (counts.0, counts.1.0))
    has_stopped failures failures' old new out_failures out_failures' TooMany h counts = (h, (counts.0, counts.1.0))
    has_stopped failures failures' old new out_failures out_failures' Report h counts = let no : 0 ≡ raised 0 = counts.1.1 in cc
    has_stopped failures failures' old new out_failures out_failures' ShortRecording h counts = absurd (omega (arith, h.few))
    has_stopped failures failures' old new out_failures out_failures' NoMemory (inl h) counts =
        absurd (no_memory (record_line layout (0 + length h.read) h.one ∷ []) (h.stopped.memory refl))
    has_stopped failures failures' old new out_failures out_failures' NoMemory (inr h) counts =
        absurd (no_memory (rest_lines (0 + length h.read) (length h.rest)) (h.stopped.memory refl))

    -- so a whole recording is listed
    pub lists_whole : (some : 0 < record_length_of layout) (failures failures' : ℕ) (old new : Option (List ℕ)) (out_failures out_failures' : ℕ) (r : Result Listed RunFault)
        → Lists layout (devices_at first failures (view old None out_failures 0)) (devices_at next failures' (view new None out_failures' 0)) r
        → IfOk r (IsListing layout first next old new) × IfErr r (IsListingStop layout first next (view old None out_failures 0) (view new None out_failures' 0))
        × FaultsCounted failures failures' out_failures out_failures' r
    lists_whole some failures failures' old new out_failures out_failures' (Ok listed) (inl h) =
        (has_listed some (view old None out_failures 0) (view new None out_failures' 0) listed h.0, tt, (h.1.0, h.1.1.0))
    lists_whole some failures failures' old new out_failures out_failures' (Err fault) (inl h) =
        let (stopped, counts) = has_stopped failures failures' old new out_failures out_failures' fault h.0 h.1 in (tt, stopped, counts)
    lists_whole some failures failures' old new out_failures out_failures' (Ok listed) (inr h) = absurd (cc)
    lists_whole some failures failures' old new out_failures out_failures' (Err fault) (inr h) = grind (arith, h)

-- ---- of a recording that tells its octets

-- these are all octets of a source that tells them
pub listed_told : (layout : LayoutParts) (first next old new : Option (List ℕ)) (n : ℕ)
    → 0 < record_length_of layout → IsListed layout first next old new n
    → IfSome first (λ octets. Appends old new (concat (listing layout octets)) × (n ≡ record_count (record_length_of layout) octets))
listed_told layout first next old new n some h =
    told _ h.read first next h.octets (λ left end. rw (end h.ended, append-nil) (h.written, h.count_is))

module _ (layout : LayoutParts) (some : 0 < record_length_of layout) (first next : Option (List ℕ)) (old new : View (Option (List ℕ))) where
  cut_of : (fault : RunFault) → IsStoppedAt Appends octets_buffering (listing_whole layout) first next old new fault
      → IfSome first (λ octets. AppendsCut Appends old new (whole (listing_whole layout) octets))
  cut_of = run_cut (listing_whole layout) (is_course layout 0 Close) some first next Appends Appends-nil Appends-trans octets_buffering old new

  -- whatever the fault, there is one place up to which the lines were written
  stopped_cut : (fault : RunFault) → IsListingStop layout first next old new fault → IfSome first (λ octets. AppendsCut Appends old new (whole (listing_whole layout) octets))
  stopped_cut Read h = cut_of Read h
  stopped_cut Write h = cut_of Write h
  stopped_cut TooMany h = cut_of TooMany h
  stopped_cut NoMemory h = always first (λ octets. same_cut old new _ h.1)
  stopped_cut _ h = absurd h

-- what a fault says of a recording that tells its octets
pub stop_told : (layout : LayoutParts) (first next : Option (List ℕ)) (old new : View (Option (List ℕ))) (fault : RunFault)
    → 0 < record_length_of layout → IsListingStop layout first next old new fault → IfSome first (ListingStopped layout old new fault)
stop_told layout None next old new fault some h = tt
stop_told layout (Some octets) next old new fault some h = record {
  cut = rw (lines_whole layout octets) (stopped_cut layout some (Some octets) next old new fault h);
  memory = λ e. (rw e at h).1;
  too_many = λ e.
      run_many (listing_whole layout) (is_course layout 0 Close) some (Some octets) next Appends Appends-nil Appends-trans octets_buffering old new (rw e at h);
}
