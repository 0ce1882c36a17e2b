-- Runs that are stopped and resumed, each through a checkpoint of its own version, write what one run writes, but for the gaps that are lost.
use Rattle.std.proofs.Common.{◌≡◌, ⊎_elim, ◌<◌, ◌≤◌, ◌+◌, ◌^◌, ℕ, suc, if◌then◌else◌, Bool, true, false, List, [], ◌∷◌, ◌++◌, length, drop, refl, sym, ap, subst, ◌∙◌, append_assoc, append-nil, length-append, arith, Ok, Err, ◌==◌, ◌||◌, ◌&&◌, not, ◌-◌, take, length-take, take-append-drop}
use Rattle.std.specs.List.{list_any}
use Rattle.std.proofs.lemmas.Bool.{cases_Bool, ne_eqb}
use Rattle.std.proofs.lemmas.List.{length-map}
use Rattle.std.proofs.lemmas.List.Sums.{sum_by-cons}
use Rattle.std.proofs.Math.Seq.{drop-append_seam, take-append_seam}
use Rattle.tm_frame.specs.Fault.{frame_reading_of}
use Rattle.tm_frame.specs.Layout.{record_length_of}
use Rattle.tm_packet.specs.Merge.{Entries, no_entries}
use Rattle.tm_items.specs.Among.{is_master_gap}
use Rattle.tm_items.specs.Item.{Item, MasterGap, seen_of}
use Rattle.tm_frame.specs.Rules.{IsLimit, Rules, chooses}
use Rattle.tm_reassembly.specs.Items.{empty}
use Rattle.tm_reassembly.specs.OlderForms.{without_master, first_good_record, is_gap_at, without_gaps_at}
use Rattle.tm_reassembly.specs.Readings.{FrameReading}
use Rattle.tm_reassembly.specs.Recording.{readings}
use Rattle.tm_reassembly.specs.State.{State}
use Rattle.tm_reassembly.specs.Valid.{AllOctets, HasShape, IsValidState}
use Rattle.tm_bits.proofs.Each.{Each, Each-append, Each-weaken}
use Rattle.tm_reassembly.proofs.WithoutGaps.{and-false, without-append, without-but, without-no, without-none}
use Rattle.tm_reassembly.proofs.OlderForms.{without-first, few-left-out, items-within}
use Rattle.tm_reassembly.proofs.Raw.{items-join}
use Rattle.tm_output.specs.declared.command.Ending.{Ending}
use Rattle.tm_output.specs.declared.command.Ending.TheVariants.{Close, StopAfter}
use Rattle.tm_output.specs.Outputs.{Piece}
use Rattle.tm_output.specs.Pieces.{Texts, noted, pieces_of}
use Rattle.tm_output.specs.Records.{records, rest_of}
use Rattle.tm_checkpoint.specs.declared.version.Version.{Version}
use Rattle.tm_checkpoint.specs.declared.version.Version.TheVariants.{Three}
use Rattle.tm_checkpoint.specs.Checkpoints.{form_of, kept_in, kept_state, resumed, spelled_in, work_without_master, tells}
use Rattle.tm_checkpoint.specs.Works.{IsWork, JobState, Work, new_job}
use Rattle.tm_checkpoint.proofs.CheckpointLemmas.{older_again}
use Rattle.tm_tool.specs.LostGaps.{AllTell, lost_gaps, done_at, lost_gap_at, older_count, item_pieces_without_gaps, run_pieces_without_gaps}
use Rattle.tm_tool.specs.RecordingPieces.{records_for, end_pieces, further, items_of, pieces, record_pieces, worked}
use Rattle.tm_tool.specs.Resuming.{Follows, KeepsJob, Stop, done_after, done_in_all, in_one, work_left, resumed_pieces, run_pieces, AllOfToday}
use Rattle.tm_tool.proofs.ForgottenCount.{ends_same}
use Rattle.tm_tool.proofs.Running.{IsValid, pieces-append, records-counted, worked-append}
use Rattle.tm_tool.proofs.WorkValid.{begun-work, worked-work}

-- ---- the records that are taken at stops

-- how many records an ending takes
pub records_for-counted : (ending : Ending) (done more : List (List ℕ)) → length (done ++ records_for ending more) ≡ done_after ending (length done) (length (done ++ more))
records_for-counted (StopAfter n) done more =
    let left : length (done ++ more) - length done ≡ length more = omega (arith, length-append done more) in
    rw (length-append done (take n more), length-take n more, left) refl
records_for-counted _ done more = refl

-- what an ending takes comes first, and a closed end takes all
records_for-front : (ending : Ending) (more : List (List ℕ)) → (others : List (List ℕ)) × (more ≡ records_for ending more ++ others) × (ending ≡ Close → others ≡ [])
records_for-front (StopAfter n) more = (drop n more, sym (take-append-drop n more), λ (e : StopAfter n ≡ Close). cc)
records_for-front _ more = ([], sym (append-nil more), λ e. refl)

module _ (size : ℕ) (ending : Ending) (last : List ℕ) where
  -- the records that are taken after those that are done
  abbrev pub taken : (done : List (List ℕ)) (stops : List Stop) → Follows size last done stops → List (List ℕ)
  taken done [] (more, is) = records_for ending more
  taken done (stop ∷ stops) (more, is, keeps, rest) = records_for stop.ending more ++ taken (done ++ records_for stop.ending more) stops rest

  -- the last recording begins with the records that are done, and with all that are taken; a closed end takes all of them
  pub whole : (done : List (List ℕ)) (stops : List Stop) (h : Follows size last done stops)
      → (others : List (List ℕ)) × (records size last ≡ (done ++ taken done stops h) ++ others) × (ending ≡ Close → others ≡ [])
  whole done [] (more, is) =
      let (others, split, all) = records_for-front ending more in
      (others, is ∙ ap (λ (l : List (List ℕ)). done ++ l) split ∙ sym (append_assoc done (records_for ending more) others), all)
  whole done (stop ∷ stops) (more, is, keeps, rest) =
      let (others, split, all) = whole (done ++ records_for stop.ending more) stops rest in
      (others, simp append_assoc (simp append_assoc at split), all)

  -- how many they are
  counted : (done : List (List ℕ)) (stops : List Stop) (h : Follows size last done stops)
      → done_in_all size ending last (length done) stops ≡ length (done ++ taken done stops h)
  counted done [] (more, is) = rw is (sym (records_for-counted ending done more))
  counted done (stop ∷ stops) (more, is, keeps, rest) =
      let here : done_after stop.ending (length done) (length (records size stop.recording)) ≡ length (done ++ records_for stop.ending more) =
      rw is (sym (records_for-counted stop.ending done more)) in
      rw (here, counted (done ++ records_for stop.ending more) stops rest, append_assoc done (records_for stop.ending more) (taken (done ++ records_for stop.ending more) stops rest)) refl

-- all of them, in one run
pub records_for_all : (size : ℕ) (ending : Ending) (last : List ℕ) (stops : List Stop) (h : Follows size last [] stops)
    → records_for (in_one ending (done_in_all size ending last 0 stops)) (records size last) ≡ taken size ending last [] stops h
records_for_all size Close last stops h =
    let (others, split, all) = whole size Close last [] stops h in
    rw (split, all refl) (append-nil (taken size Close last [] stops h))
records_for_all size ending last stops h =
    let (others, split, all) = whole size ending last [] stops h in
    rw (split, counted size ending last [] stops h) (take-append_seam (taken size ending last [] stops h) others)

-- ---- items but for gaps

-- numbers from k on
abbrev AllFrom : ℕ → List ℕ → Type 0
AllFrom k ns = Each (λ n. k ≤ n) ns

none-early : (k seen : ℕ) (ns : List ℕ) → AllFrom k ns → seen < k → list_any (λ n. seen == n) ns ≡ false
none-early k seen [] h less = refl
none-early k seen (n ∷ ns) h less =
    ap (λ (b : Bool). b || list_any (λ m. seen == m) ns) (ne_eqb seen n (λ e. let low = h.0 in omega arith)) ∙ none-early k seen ns h.1 less

-- no item before k is one of those gaps
without-early : (k : ℕ) (ns : List ℕ) (xs : List Item) → AllFrom k ns → Each (λ x. seen_of x < k) xs → without_gaps_at ns xs ≡ xs
without-early k ns xs h less =
    without-none ns xs
    (Each-weaken (λ x. seen_of x < k) (λ x. is_gap_at ns x ≡ false) xs (λ x e. ap (λ (b : Bool). is_master_gap x && b) (none-early k (seen_of x) ns h e) ∙ and-false (is_master_gap x)) less)

good-from : (number : ℕ) (rs : List FrameReading) → AllFrom number (first_good_record number rs)
good-from number [] = tt
good-from number (Err fault ∷ rs) = Each-weaken (λ n. number + 1 ≤ n) (λ n. number ≤ n) (first_good_record (number + 1) rs) (λ n e. omega arith) (good-from (number + 1) rs)
good-from number (Ok f ∷ rs) = (omega arith, tt)

good-one : (number : ℕ) (rs : List FrameReading) → length (first_good_record number rs) ≤ 1
good-one number [] = omega arith
good-one number (Err fault ∷ rs) = good-one (number + 1) rs
good-one number (Ok f ∷ rs) = omega arith

-- a gap of the master channel leaves the entries as they are
gap-noted : (lost : List ℕ) (entries : Entries) (x : Item) → is_gap_at lost x ≡ true → noted entries x ≡ entries
unfolding noted
gap-noted lost entries (MasterGap seen expected found missing) e = refl
gap-noted lost entries x e = absurd (cc)

-- the pieces but for those gaps are those of the items but for them
pub without-pieces : {A : Type 0} (text : Texts A) (lost : List ℕ) (entries : Entries) (xs : List Item)
    → item_pieces_without_gaps text lost entries xs ≡ pieces_of text entries (without_gaps_at lost xs)
without-pieces text lost entries [] = refl
without-pieces text lost entries (x ∷ xs) =
    ⊎_elim (λ (e : is_gap_at lost x ≡ true). rw (e, without-pieces text lost (noted entries x) xs, gap-noted lost entries x e) refl)
    (λ (e : is_gap_at lost x ≡ false). rw (e, without-pieces text lost (noted entries x) xs) refl) (cases_Bool (is_gap_at lost x))

-- ---- the work that a version keeps

without-state : (rules : Rules) (s : State) → IsValidState rules s → IsValidState rules (without_master s)
without-state rules s v =
    let shape : HasShape rules.max_packet (chooses rules) (without_master s) =
    record { eight_channels = v.shape.eight_channels; only_chosen = v.shape.only_chosen; tails = v.shape.tails } in
    record { limit = v.limit; records = v.records; master = tt; shape = shape; counts = v.counts; within = v.within }

kept-work : (v : Version) (w : Work) → IsWork w → IsWork (kept_in v w)
kept-work Three w h = h
kept-work _ w h = record { eight = h.eight; state = without-state w.rules w.state h.state; entries = h.entries }

kept-counted : (v : Version) (s : State) → (kept_state v s).records ≡ s.records
kept-counted Three s = refl
kept-counted _ s = refl

lost-from : (settings : Rules) (last : List ℕ) (v : Version) (done : ℕ) → AllFrom done (lost_gap_at settings last v done)
lost-from settings last Three done = tt
lost-from settings last _ done = good-from done (readings settings.layout (drop done (records (record_length_of settings.layout) last)))

-- what it gives of items
module _ (w : Work) (valid : IsValid w) (last : List ℕ) (done : ℕ) (count : w.state.records ≡ done) (t others : List (List ℕ))
    (is : drop done (records (record_length_of w.rules.layout) last) ≡ t ++ others) where
  without-lost : items_of (work_without_master w) t
      ≡ without_gaps_at (first_good_record done (readings w.rules.layout (drop done (records (record_length_of w.rules.layout) last)))) (items_of w t)
  without-lost =
      without-first w.rules w.state t others valid
      ∙ ap (λ (n : ℕ). without_gaps_at (first_good_record n (readings w.rules.layout (t ++ others))) (items_of w t)) count
      ∙ ap (λ (rs : List (List ℕ)). without_gaps_at (first_good_record done (readings w.rules.layout rs)) (items_of w t)) (sym is)

  items-kept : (v : Version) → items_of (kept_in v w) t ≡ without_gaps_at (lost_gap_at w.rules last v done) (items_of w t)
  items-kept Three = sym (without-no (items_of w t))
  items-kept _ = without-lost

ends-kept : {A : Type 0} (text : Texts A) (ending : Ending) (v : Version) (w : Work) (t : List (List ℕ)) (rest : ℕ) → IsValid w
    → end_pieces text ending (worked (kept_in v w) t) rest ≡ end_pieces text ending (worked w t) rest
ends-kept text ending Three w t rest valid = refl
ends-kept text ending _ w t rest valid = ends_same text ending w t rest valid

-- ---- all runs

middle-octets : (done more others : List (List ℕ)) → AllOctets ((done ++ more) ++ others) → AllOctets more
middle-octets [] [] others all = tt
middle-octets [] (rs ∷ more) others all = (all.0, middle-octets [] more others all.1)
middle-octets (rs ∷ done) more others all = middle-octets done more others all.1

no_end : {A : Type 0} (text : Texts A) (ending : Ending) (w : Work) (rest : ℕ) → KeepsJob ending → end_pieces text ending w rest ≡ []
no_end text Close w rest keeps = absurd keeps
no_end text _ w rest keeps = refl

same_end : {A : Type 0} (text : Texts A) (ending : Ending) (count : ℕ) (w : Work) (rest : ℕ) → end_pieces text (in_one ending count) w rest ≡ end_pieces text ending w rest
same_end text Close count w rest = refl
same_end text _ count w rest = refl

module _ {A : Type 0} (head : Bool → List (Piece A)) (none : head false ≡ []) (text : Texts A) (ending : Ending) (last : List ℕ) (settings : Rules)
    (octets : AllOctets (records (record_length_of settings.layout) last)) (few : length (records (record_length_of settings.layout) last) < 2 ^ 32) where
  abbrev size : ℕ
  size = record_length_of settings.layout

  abbrev work : State → Entries → Work
  work s e = record { rules = settings; state = s; entries = e }

  -- a run of it
  module _ (s : State) (e : Entries) (done : List (List ℕ)) (count : s.records ≡ length done) (recording : List ℕ) (more : List (List ℕ)) (is : records size recording ≡ done ++ more) where
    further_is : further (work s e) recording ≡ more
    further_is = rw (count, is) (drop-append_seam done more)

    pieces_is : (end : Ending) → pieces text end (work s e) recording
        ≡ record_pieces text (work s e) (records_for end more) ++ end_pieces text end (worked (work s e) (records_for end more)) (length (rest_of size recording))
    unfolding pieces
    pieces_is end = rw further_is refl

  -- the lost gaps are later than what is done
  all-from : (done : List (List ℕ)) (stops : List Stop) → Follows size last done stops → AllFrom (length done) (lost_gaps settings last (length done) stops)
  all-from done [] h = tt
  all-from done (s ∷ stops) (more, is, keeps, rest) =
      let c : List (List ℕ) = records_for s.ending more in
      let now : done_after s.ending (length done) (length (records size s.recording)) ≡ length (done ++ c) =
      rw is (sym (records_for-counted s.ending done more)) in
      let k : ℕ = length (done ++ c) in
      let long : length done ≤ k = omega (arith, length-append done c) in
      let here : List ℕ = lost_gap_at settings last s.version k in
      let later : List ℕ = lost_gaps settings last k stops in
      rw now (Each-weaken (λ n. k ≤ n) (λ n. length done ≤ n) (here ++ later) (λ n e. omega (arith, long))
      (Each-append (λ n. k ≤ n) here later (lost-from settings last s.version k) (all-from (done ++ c) stops rest)))

  chain : (s : State) (e : Entries) (done : List (List ℕ)) (fresh : Bool) (stops : List Stop) (h : Follows size last done stops) → AllTell settings stops
      → s.records ≡ length done → IsWork (work s e)
      → resumed_pieces head text ending last settings (record { work = work s e; fresh = fresh }) stops
      ≡ head fresh ++ (pieces_of text e (without_gaps_at (lost_gaps settings last (length done) stops) (items_of (work s e) (taken size ending last done stops h)))
      ++ end_pieces text ending (worked (work s e) (taken size ending last done stops h)) (length (rest_of size last)))
  chain s e done fresh [] (more, is) told count v =
      rw (pieces_is s e done count last more is ending, without-no (items_of (work s e) (records_for ending more))) refl
  chain s e done fresh (one ∷ stops) (more, is, keeps, rest) told count v =
      let c : List (List ℕ) = records_for one.ending more in
      let t : List (List ℕ) = taken size ending last (done ++ c) stops rest in
      let k : ℕ = length (done ++ c) in
      let w : Work = work s e in
      let next : Work = worked (work s e) c in
      let kept : Work = kept_in one.version next in
      let (others, split, all) = whole size ending last (done ++ c) stops rest in
      let behind : records size last ≡ (done ++ c) ++ (t ++ others) = split ∙ append_assoc (done ++ c) t others in
      let long : length (records size last) ≡ length done + length c + length (t ++ others) =
      ap (λ (l : List (List ℕ)). length l) behind ∙ length-append (done ++ c) (t ++ others) ∙ ap (λ (n : ℕ). n + length (t ++ others)) (length-append done c) in
      let next_work : IsWork next =
      worked-work w c v (middle-octets done c (t ++ others) (subst AllOctets behind octets)) (omega (arith, count, few, long)) in
      let next_count : next.state.records ≡ k =
      records-counted w c ∙ ap (λ (n : ℕ). n + length c) count ∙ sym (length-append done c) in
      let lost : List ℕ = lost_gap_at settings last one.version k in
      let later : List ℕ = lost_gaps settings last k stops in
      let now : done_after one.ending (length done) (length (records size one.recording)) ≡ k = rw is (sym (records_for-counted one.ending done more)) in
      let end : List (Piece A) = end_pieces text ending (worked next t) (length (rest_of size last)) in
      -- the run up to the stop
      let here : run_pieces head text one.ending (record { work = w; fresh = fresh }) one.recording ≡ head fresh ++ record_pieces text w c =
      rw (pieces_is s e done count one.recording more is one.ending, no_end text one.ending next (length (rest_of size one.recording)) keeps)
      (rw (append-nil (record_pieces text w c)) refl) in
      let again : resumed settings (spelled_in one.version (work_left one.ending w one.recording)) ≡ Ok (record { work = kept; fresh = false }) =
      rw (further_is s e done count one.recording more is) (older_again one.version next next_work told.0) in
      -- the runs after it
      let items_kept : items_of kept t ≡ without_gaps_at lost (items_of next t) =
      items-kept next next_work.state last k next_count t others (ap (drop k) behind ∙ drop-append_seam (done ++ c) (t ++ others)) one.version in
      let there : resumed_pieces head text ending last settings (record { work = kept; fresh = false }) stops
      ≡ pieces_of text next.entries (without_gaps_at (lost ++ later) (items_of next t)) ++ end =
      chain (kept_state one.version next.state) next.entries (done ++ c) false stops rest told.1
      (kept-counted one.version next.state ∙ next_count) (kept-work one.version next next_work)
      ∙ rw (none, ends-kept text ending one.version next t (length (rest_of size last)) next_work.state, items_kept)
      (rw (without-but lost later (items_of next t)) refl) in
      -- for one run
      let early : without_gaps_at (lost ++ later) (items_of w c) ≡ items_of w c =
      without-early k (lost ++ later) (items_of w c)
      (Each-append (λ n. length (done ++ c) ≤ n) lost later (lost-from settings last one.version k) (all-from (done ++ c) stops rest))
      (Each-weaken (λ x. (s.records ≤ seen_of x) × (seen_of x < s.records + length (readings settings.layout c))) (λ x. seen_of x < length (done ++ c)) (items_of w c)
      (λ x h. let a = h.1 in omega (arith, a, count, length-append done c, length-map c (frame_reading_of settings.layout))) (items-within settings s c)) in
      let in_one_run : pieces_of text e (without_gaps_at (lost ++ later) (items_of w (c ++ t))) ++ end_pieces text ending (worked w (c ++ t)) (length (rest_of size last))
      ≡ record_pieces text w c ++ (pieces_of text next.entries (without_gaps_at (lost ++ later) (items_of next t)) ++ end) =
      rw (worked-append w v.state c t, items-join settings s c t v.state, without-append (lost ++ later) (items_of w c) (items_of next t), early)
      (rw (pieces-append text e (items_of w c) (without_gaps_at (lost ++ later) (items_of next t)))
      (append_assoc (record_pieces text w c) (pieces_of text next.entries (without_gaps_at (lost ++ later) (items_of next t))) end)) in
      rw (here, again, there, now, in_one_run)
      (append_assoc (head fresh) (record_pieces text w c) (pieces_of text next.entries (without_gaps_at (lost ++ later) (items_of next t)) ++ end))

  -- from a new job
  pub mixed : (stops : List Stop) → length settings.channels ≡ 8 → IsLimit settings.max_packet → Follows size last [] stops → AllTell settings stops
      → resumed_pieces head text ending last settings (new_job settings) stops
      ≡ run_pieces_without_gaps head text (lost_gaps settings last 0 stops) (in_one ending (done_in_all size ending last 0 stops))
      (new_job settings) last
  unfolding run_pieces_without_gaps
  mixed stops eight range h told =
      let w : Work = (new_job settings).work in
      let t : List (List ℕ) = taken size ending last [] stops h in
      chain empty no_entries [] true stops h told refl (begun-work settings eight range)
      ∙ rw (records_for_all size ending last stops h, without-pieces text (lost_gaps settings last 0 stops) no_entries (items_of w t))
      (rw (same_end text ending (done_in_all size ending last 0 stops) (worked w t) (length (rest_of size last))) refl)

-- ---- how many are left out

lost-one : (settings : Rules) (last : List ℕ) (v : Version) (done : ℕ) → length (lost_gap_at settings last v done) ≤ (if not (form_of v).with_master then 1 else 0)
lost-one settings last Three done = omega arith
lost-one settings last _ done = good-one done (readings settings.layout (drop done (records (record_length_of settings.layout) last)))

-- for each stop of an older version one at most
lost-few : (settings : Rules) (last : List ℕ) (done : ℕ) (stops : List Stop) → length (lost_gaps settings last done stops) ≤ older_count stops
lost-few settings last done [] = omega arith
lost-few settings last done (s ∷ stops) =
    let now : ℕ = done_at settings done s in
    let sum : older_count (s ∷ stops) ≡ (if not (form_of s.version).with_master then 1 else 0) + older_count stops =
    sum_by-cons (λ x. if not (form_of x.version).with_master then 1 else 0) s stops in
    let joined = length-append (lost_gap_at settings last s.version now) (lost_gaps settings last now stops) in
    omega (arith, sum, lost-one settings last s.version now, lost-few settings last now stops)

length-pieces : {A : Type 0} (text : Texts A) (entries : Entries) (xs : List Item) → length (pieces_of text entries xs) ≡ length xs
length-pieces text entries [] = refl
length-pieces text entries (x ∷ xs) = ap (λ (n : ℕ). suc n) (length-pieces text (noted entries x) xs)

pub few : {A : Type 0} (head : Bool → List (Piece A)) (text : Texts A) (ending : Ending) (last : List ℕ) (settings : Rules) (job : JobState) (stops : List Stop)
    → IsValid job.work
    → length (run_pieces head text ending job last) ≤ length (run_pieces_without_gaps head text (lost_gaps settings last 0 stops) ending job last) + older_count stops
unfolding run_pieces_without_gaps pieces
few head text ending last settings job stops valid =
    let rs : List (List ℕ) = records_for ending (further job.work last) in
    let lost : List ℕ = lost_gaps settings last 0 stops in
    let left = few-left-out job.work.rules job.work.state rs lost valid in
    let least : length lost ≤ older_count stops = lost-few settings last 0 stops in
    rw (without-pieces text lost job.work.entries (items_of job.work rs)) (simp (length-append, length-pieces) (omega (arith, left)))

-- ---- checkpoints of today's version lose no gap

all-tell : (settings : Rules) (stops : List Stop) → AllOfToday stops → AllTell settings stops
all-tell settings [] h = tt
all-tell settings (stop ∷ stops) h = (ap (λ (v : Version). tells v settings) h.0, all-tell settings stops h.1)

none-lost : (settings : Rules) (last : List ℕ) (done : ℕ) (stops : List Stop) → AllOfToday stops → lost_gaps settings last done stops ≡ []
none-lost settings last done [] h = refl
none-lost settings last done (stop ∷ stops) h =
    ap (λ (v : Version). lost_gap_at settings last v (done_at settings done stop) ++ lost_gaps settings last (done_at settings done stop) stops) h.0
    ∙ none-lost settings last (done_at settings done stop) stops h.1

-- one run, with nothing left out
same-run : {A : Type 0} (head : Bool → List (Piece A)) (text : Texts A) (last : List ℕ) (one : Ending) (job : JobState)
    → run_pieces_without_gaps head text [] one job last ≡ run_pieces head text one job last
unfolding run_pieces_without_gaps pieces
same-run {A} head text last one job =
    let rs : List (List ℕ) = records_for one (further job.work last) in
    ap (λ (ps : List (Piece A)). head job.fresh ++ (ps ++ end_pieces text one (worked job.work rs) (length (rest_of (record_length_of job.work.rules.layout) last))))
    (without-pieces text [] job.work.entries (items_of job.work rs) ∙ ap (pieces_of text job.work.entries) (without-no (items_of job.work rs)))

pub joined : {A : Type 0} (head : Bool → List (Piece A)) (none : head false ≡ []) (text : Texts A) (ending : Ending) (last : List ℕ) (settings : Rules)
    → AllOctets (records (record_length_of settings.layout) last) → length (records (record_length_of settings.layout) last) < 2 ^ 32
    → (stops : List Stop) → length settings.channels ≡ 8 → IsLimit settings.max_packet → Follows (record_length_of settings.layout) last [] stops
    → AllOfToday stops → resumed_pieces head text ending last settings (new_job settings) stops
    ≡ run_pieces head text (in_one ending (done_in_all (record_length_of settings.layout) ending last 0 stops)) (new_job settings) last
joined head none text ending last settings octets few stops eight range h today =
    rw (mixed head none text ending last settings octets few stops eight range h (all-tell settings stops today))
    (rw (none-lost settings last 0 stops today) (same-run head text last _ _))
