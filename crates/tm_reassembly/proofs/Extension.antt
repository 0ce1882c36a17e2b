-- More records leave each ended run as it is and only lengthen the last; so verdicts are settled over records.
use Rattle.std.proofs.Common.{◌≡◌, ℕ, suc, zero, ◌+◌, ◌≤◌, Bool, true, false, ◌&&◌, Option, Some, None, List, [], ◌∷◌, ◌++◌, length, refl, sym, ap, subst, ◌∙◌, ⊎_elim, arith, append_assoc, length-append, leb}
use Rattle.std.specs.List.{slice_get}
use Rattle.std.proofs.lemmas.List.{append-nil}
use Rattle.std.proofs.lemmas.Bool.{cases_lt, lt-leb, le-leb, and_right}
use Rattle.tm_reassembly.specs.State.{State, Last, Tail}
use Rattle.tm_reassembly.specs.Readings.{FrameReading}
use Rattle.tm_reassembly.specs.Chain.{ChainMember, Run, Runs, stem_of, stem_with, chain, frames, member_of, has_frame_gap, runs, runs_after, with_member, cut_before}
use Rattle.tm_reassembly.specs.code.Fits.{AllReadingsFit, PlaceFits, PlacesFit, IsPlaced}
use Rattle.tm_bits.proofs.Each.{Each, Each-append, Each-split, Each-at, Each-weaken}
use Rattle.tm_reassembly.specs.Verdict.{Verdict, verdict, completed_at_once, Grow, GrowFrom, IsSettledIn, is_whole}
use Rattle.tm_reassembly.specs.Parts.{text, reach_of, begins_packet}
use Rattle.tm_items.specs.OnePacket.{packet_length}
use Rattle.tm_items.proofs.Reaching.{packet_length-settled, packet_length-unsettled}
use Rattle.tm_reassembly.proofs.Settled.{open-settled, agreement-settled, long-settled, whole-settled}
use Rattle.tm_reassembly.proofs.Split.{breaker-settled}
use Rattle.tm_frame.specs.declared.layout.LayoutParts.{LayoutParts}
use Rattle.tm_reassembly.specs.Recording.{readings}
use Rattle.tm_reassembly.proofs.Fits.{readings-append, readings-fit}
use Rattle.tm_reassembly.proofs.Records.{frames-fit}

-- one more member in front
grow-member : (m : ChainMember) (r : Run) (rs : List Run) (q : Run) (qs : List Run) → GrowFrom r rs (q ∷ qs)
    → GrowFrom (record { members = m ∷ r.members; end = r.end }) rs (record { members = m ∷ q.members; end = q.end } ∷ qs)
grow-member m r [] q qs h = (h.0, ap (λ (ms : List ChainMember). m ∷ ms) h.1, h.2)
grow-member m r (next ∷ rs) q qs h = (ap (λ (z : Run). record { members = m ∷ z.members; end = z.end }) h.0, h.1)

abbrev GrowRuns : Runs → Runs → Type 0
GrowRuns a b = GrowFrom a.current a.others (b.current ∷ b.others)

grow-with : (gap vca : Bool) (m : ChainMember) (a b : Runs) → GrowRuns a b → GrowRuns (cut_before gap m (with_member vca m a)) (cut_before gap m (with_member vca m b))
grow-with true true m a b h = (refl, (refl, h))
grow-with true false m a b h = (refl, grow-member m a.current a.others b.current b.others h)
grow-with false true m a b h = (refl, h)
grow-with false false m a b h = grow-member m a.current a.others b.current b.others h

grow-after : (before : Option ℕ) (ms more : List ChainMember) → GrowRuns (runs_after before ms) (runs_after before (ms ++ more))
grow-after before [] more = ((runs_after before more).current.members, refl, refl)
grow-after before (m ∷ ms) more =
    grow-with (has_frame_gap before m) m.is_vca m _ _ (grow-after (Some m.count) ms more)

frames-append : (c k : ℕ) (rs qs : List FrameReading) → frames c k (rs ++ qs) ≡ frames c k rs ++ frames c (k + length rs) qs
frames-append c k [] qs = ap (λ (n : ℕ). frames c n qs) (omega arith)
frames-append c k (r ∷ rs) qs =
    ap (λ (ms : List ChainMember). member_of c k r ++ ms)
    (frames-append c (k + 1) rs qs ∙ ap (λ (n : ℕ). frames c (k + 1) rs ++ frames c n qs) (omega arith))
    ∙ sym (append_assoc (member_of c k r) (frames c (k + 1) rs) (frames c (k + length (r ∷ rs)) qs))

chain-append : (s : State) (c : ℕ) (rs qs : List FrameReading) → chain s c (rs ++ qs) ≡ chain s c rs ++ frames c (s.records + length rs) qs
chain-append s c rs qs =
    ap (λ (ms : List ChainMember). stem_of (slice_get s.channels c) ++ ms) (frames-append c s.records rs qs)
    ∙ sym (append_assoc (stem_of (slice_get s.channels c)) (frames c s.records rs) _)

pub runs-grow : (layout : LayoutParts) (s : State) (c : ℕ) (a b : List (List ℕ)) → Grow (runs (chain s c (readings layout a))) (runs (chain s c (readings layout (a ++ b))))
runs-grow layout s c a b =
    subst (λ (ms : List ChainMember). Grow (runs (chain s c (readings layout a))) (runs ms))
    (sym (ap (chain s c) (readings-append layout a b) ∙ chain-append s c (readings layout a) (readings layout b))) (grow-after None (chain s c (readings layout a)) _)

-- the run at a place among the runs, and what it becomes
abbrev Become : Run → List Run → ℕ → Type 0
Become r qs i = (q : Run) × (more : List ChainMember) × (slice_get qs i ≡ Some q) × (q.members ≡ r.members ++ more)

grown-at : (first : Run) (rs qs : List Run) (i : ℕ) (r : Run) → GrowFrom first rs qs → slice_get (first ∷ rs) i ≡ Some r → Become r qs i
grown-at first [] [] i r h e = absurd h
grown-at first [] (q ∷ qs) zero r h e = (q, h.0, refl, (let same : first ≡ r = cc in h.1 ∙ ap (λ (z : Run). z.members ++ h.0) same))
grown-at first [] (q ∷ qs) (suc i) r h e = absurd (cc)
grown-at first (next ∷ rs) [] i r h e = absurd h
grown-at first (next ∷ rs) (q ∷ qs) zero r h e = (q, [], refl, (let same : q ≡ r = cc in ap (λ (z : Run). z.members) same ∙ sym (append-nil r.members)))
grown-at first (next ∷ rs) (q ∷ qs) (suc i) r h e = grown-at next rs qs i r h.1 e

-- the places of a run's frames lie in their fields
fit-stem : (x : Option (Option Last)) → PlacesFit (stem_of x)
fit-stem None = tt
fit-stem (Some None) = tt
fit-stem (Some (Some last)) = with_tail last.tail
  where
    with_tail : (t : Option Tail) → PlacesFit (stem_with last.count t ∷ [])
    with_tail None = (tt, tt)
    with_tail (Some t) = (omega arith, tt)

pub chain-fit : (s : State) (c : ℕ) (rs : List FrameReading) → AllReadingsFit rs → PlacesFit (chain s c rs)
chain-fit s c rs fits =
    Each-append IsPlaced (stem_of (slice_get s.channels c)) (frames c s.records rs) (fit-stem (slice_get s.channels c))
    (Each-weaken (λ m. (s.records ≤ m.number) × IsPlaced m) IsPlaced (frames c s.records rs) (λ m p. p.1) (frames-fit c s.records rs fits))

abbrev RunsFit : List Run → Type 0
RunsFit rs = Each (λ r. PlacesFit r.members) rs

abbrev Fit : Runs → Type 0
Fit rs = PlacesFit rs.current.members × RunsFit rs.others

fit-with : (gap vca : Bool) (m : ChainMember) (rs : Runs) → PlaceFits m.place (length m.field) → Fit rs → Fit (cut_before gap m (with_member vca m rs))
fit-with true true m rs h k = (tt, (tt, k))
fit-with true false m rs h k = (tt, ((h, k.0), k.1))
fit-with false true m rs h k = (tt, k)
fit-with false false m rs h k = ((h, k.0), k.1)

runs-fit : (before : Option ℕ) (ms : List ChainMember) → PlacesFit ms → Fit (runs_after before ms)
runs-fit before [] h = (tt, tt)
runs-fit before (m ∷ ms) h =
    fit-with (has_frame_gap before m) m.is_vca m _ h.0 (runs-fit (Some m.count) ms h.1)

pub run-places : (s : State) (c : ℕ) (rs : List FrameReading) → AllReadingsFit rs → (i : ℕ) (r : Run) → slice_get (runs (chain s c rs)) i ≡ Some r
    → PlacesFit r.members
run-places s c rs fits i r at =
    let all = runs-fit None (chain s c rs) (chain-fit s c rs fits) in Each-at (λ r. PlacesFit r.members) (runs (chain s c rs)) i r (all.0, all.1) at

verdict_by : {a b c d e f l m : Bool} → a ≡ d → b ≡ e → l ≡ m → c ≡ f
    → ◌≡◌ {A = Verdict} (record { opened = a; agreed = b; long = l; completed = c }) (record { opened = d; agreed = e; long = m; completed = f })
verdict_by p q l r = rw (p, q, l, r)

move_more : (before between later more : List ChainMember) (f m : ChainMember)
    → (before ++ f ∷ (between ++ m ∷ later)) ++ more ≡ before ++ f ∷ (between ++ m ∷ (later ++ more))
move_more before between later more f m =
    append_assoc before (f ∷ (between ++ m ∷ later)) more
    ∙ ap (λ (ms : List ChainMember). before ++ f ∷ ms) (append_assoc between (m ∷ later) more)

module _ (limit : ℕ) where
  verdict-now : (start : List ℕ) (between : List ChainMember) (m : ChainMember) (later : List ChainMember) → PlacesFit between → PlaceFits m.place (length m.field)
      → verdict limit start between m later ≡ verdict limit start between m []
  verdict-now start between m later h k =
      verdict_by
      (ap (λ (b : Bool). begins_packet limit start && b) (open-settled limit start between m later h))
      (agreement-settled limit start between m later k)
      (long-settled limit start between m later)
      (whole-settled limit start between m later)

  pub verdict-settled : (start : List ℕ) (between : List ChainMember) (m : ChainMember) (later more : List ChainMember) → PlacesFit between → PlaceFits m.place (length m.field)
      → verdict limit start between m (later ++ more) ≡ verdict limit start between m later
  verdict-settled start between m later more h k =
      verdict-now start between m (later ++ more) h k ∙ sym (verdict-now start between m later h k)

  -- a packet that ends in its own frame
  pub at-once-settled : (start : List ℕ) (later : List ChainMember)
      → completed_at_once limit start later ≡ (begins_packet limit start && leb (packet_length start) (length start))
  at-once-settled start later =
      ⊎_elim
      (λ less.
      let reach : leb (reach_of start later) (length start) ≡ false = lt-leb (reach_of start later) (length start) (packet_length-unsettled start (text later) less) in
      and_right (is_whole limit start later) _ reach
      ∙ sym (and_right (begins_packet limit start) _ (lt-leb (packet_length start) (length start) less)))
      (λ whole. settled whole (packet_length-settled start (text later) whole))
      (cases_lt (length start) (packet_length start))
    where
      both : (b : Bool) → ((b && true) && true) ≡ (b && true)
      both true = refl
      both false = refl

      settled : packet_length start ≤ length start → reach_of start later ≡ packet_length start
          → completed_at_once limit start later ≡ (begins_packet limit start && leb (packet_length start) (length start))
      settled whole e =
          let len : length (start ++ text later) ≡ length start + length (text later) = length-append start (text later) in
          let enough : leb (packet_length start) (length (start ++ text later)) ≡ true = le-leb _ _ (omega arith) in
          let here : leb (packet_length start) (length start) ≡ true = le-leb _ _ whole in
          rw (e, breaker-settled limit (packet_length start) (length start) later whole, enough, here) (both (begins_packet limit start))

-- over records
pub verdicts-stay : (layout : LayoutParts) (s : State) (c : ℕ) (a b : List (List ℕ)) (i : ℕ) (r : Run) → slice_get (runs (chain s c (readings layout a))) i ≡ Some r
    → (before between later : List ChainMember) (f m : ChainMember) → r.members ≡ before ++ f ∷ (between ++ m ∷ later)
    → IsSettledIn (runs (chain s c (readings layout (a ++ b)))) i before f between m later
verdicts-stay layout s c a b i r at before between later f m split =
    let first : Runs = runs_after None (chain s c (readings layout a)) in
    let grown : Become r (runs (chain s c (readings layout (a ++ b)))) i = grown-at first.current first.others _ i r (runs-grow layout s c a b) at in
    let all : PlacesFit (before ++ f ∷ (between ++ m ∷ later)) =
    subst PlacesFit split (run-places s c (readings layout a) (readings-fit layout a) i r at) in
    let ahead : PlacesFit (between ++ m ∷ later) = (Each-split IsPlaced before (f ∷ (between ++ m ∷ later)) all).1.1 in
    let apart = Each-split IsPlaced between (m ∷ later) ahead in (
      grown.0,
      grown.1,
      grown.2,
      grown.3 ∙ ap (λ (ms : List ChainMember). ms ++ grown.1) split ∙ move_more before between later grown.1 f m,
      λ limit start. verdict-settled limit start between m later grown.1 apart.0 apart.1.0,
    )
