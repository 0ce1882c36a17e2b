-- Pieces that are written one after the other, and where writing stops.
use Rattle.std.proofs.Common.{◌≡◌, ℕ, true, List, [], ◌∷◌, ◌++◌, refl, sym, ap, ◌∙◌, append_assoc, append-nil, inl, inr}
use Rattle.std.specs.Io.KnownBytes.{Appends}
use Rattle.std.proofs.KnownBytes.{Appends-nil, Appends-trans}
use Rattle.tm_devices.specs.Devices.{raised, AppendsPrefix}
use Rattle.tm_faults.specs.declared.run.RunFault.{RunFault}
use Rattle.tm_faults.specs.declared.run.RunFault.TheVariants.{Write, Report, NoMemory}
use Rattle.tm_output.specs.code.Outlets.{PutStopped}
use Rattle.tm_output.specs.Outputs.{Piece, View, outs, reports, Cut, SameCounts, CausedByOutput, TakesMemory, AppendsPieces, Took, StopsAtPiece, Stopped, Buffering}

module _ {A : Type 0} where
  pub outs-append : (ps qs : List (Piece A)) → outs (ps ++ qs) ≡ outs ps ++ outs qs
  outs-append [] qs = refl
  outs-append (p ∷ ps) qs = ap (λ (l : List A). p.out ++ l) (outs-append ps qs) ∙ sym (append_assoc p.out (outs ps) (outs qs))

  pub reports-append : (ps qs : List (Piece A)) → reports (ps ++ qs) ≡ reports ps ++ reports qs
  reports-append [] qs = refl
  reports-append (p ∷ ps) qs = ap (λ (l : List ℕ). p.report ++ l) (reports-append ps qs) ∙ sym (append_assoc p.report (reports ps) (reports qs))

  -- nothing of them
  pub cut_none : (ps : List (Piece A)) → Cut ps [] []
  cut_none [] = (refl, refl)
  cut_none (p ∷ ps) = inl (p.out, refl, refl)

  -- all of them
  pub cut_all : (ps : List (Piece A)) → Cut ps (outs ps) (reports ps)
  cut_all [] = (refl, refl)
  cut_all (p ∷ ps) = inr (inr (outs ps, reports ps, refl, refl, cut_all ps))

  -- some whole pieces, and a cut of the others
  pub cut_after : (done more : List (Piece A)) (out : List A) (report : List ℕ) → Cut more out report → Cut (done ++ more) (outs done ++ out) (reports done ++ report)
  cut_after [] more out report h = h
  cut_after (p ∷ done) more out report h =
      inr (inr (outs done ++ out, reports done ++ report, append_assoc p.out (outs done) out, append_assoc p.report (reports done) report, cut_after done more out report h))

  -- a cut of the first pieces
  pub cut_more : (ps qs : List (Piece A)) (out : List A) (report : List ℕ) → Cut ps out report → Cut (ps ++ qs) out report
  cut_more [] qs out report h = rw (h.0, h.1) (cut_none qs)
  cut_more (p ∷ ps) qs out report (inl h) = inl h
  cut_more (p ∷ ps) qs out report (inr (inl h)) = inr (inl h)
  cut_more (p ∷ ps) qs out report (inr (inr h)) = inr (inr (h.0, h.1, h.2, h.3, cut_more ps qs h.0 h.1 h.4))

-- `out` may be anything that grows by nothing, and by one list after another
module _ {A K : Type 0} (grows : K → K → List A → Type 0) (grows-nil : (k : K) → grows k k [])
    (grows-trans : (j k l : K) (xs ys : List A) → grows j k xs → grows k l ys → grows j l (xs ++ ys)) where
  pub pieces_none : (v : View K) → AppendsPieces grows v v []
  pieces_none v = (grows-nil v.out, Appends-nil v.report)

  pub pieces_pieces : (old mid new : View K) (ps qs : List (Piece A)) → AppendsPieces grows old mid ps → AppendsPieces grows mid new qs
      → AppendsPieces grows old new (ps ++ qs)
  pieces_pieces old mid new ps qs a b = (
    rw (outs-append ps qs) (grows-trans old.out mid.out new.out (outs ps) (outs qs) a.0 b.0),
    rw (reports-append ps qs) (Appends-trans old.report mid.report new.report (reports ps) (reports qs) a.1 b.1),
  )

  pub took_none : (v : View K) → Took grows v v []
  took_none v = record { whole = pieces_none v; counts = (refl, refl) }

  pub took_took : (old mid new : View K) (ps qs : List (Piece A)) → Took grows old mid ps → Took grows mid new qs → Took grows old new (ps ++ qs)
  took_took old mid new ps qs a b = record {
    whole = pieces_pieces old mid new ps qs a.whole b.whole;
    counts = (b.counts.0 ∙ a.counts.0, b.counts.1 ∙ a.counts.1);
  }

  caused_after : (old mid new : View K) (fault : RunFault) → SameCounts old mid → CausedByOutput mid new fault → CausedByOutput old new fault
  caused_after old mid new Write s c = (c.0 ∙ ap raised s.0, c.1 ∙ s.1)
  caused_after old mid new Report s c = (c.0 ∙ s.0, c.1 ∙ ap raised s.1)
  caused_after old mid new NoMemory s c = (c.0 ∙ s.0, c.1 ∙ s.1)
  caused_after old mid new _ s c = absurd c

  -- some pieces were written whole, writing stopped in one of the next, and more would have followed
  stops_in : {stop : View K → Piece A → Type 0} (old mid : View K) (ps qs rs : List (Piece A)) → AppendsPieces grows old mid ps
      → StopsAtPiece grows stop mid qs → StopsAtPiece grows stop old (ps ++ (qs ++ rs))
  stops_in old mid ps qs rs whole h = record {
    done = ps ++ h.done;
    next = h.next;
    more = h.more ++ rs;
    split = rw h.split (simp append_assoc);
    mid = h.mid;
    whole = pieces_pieces old mid h.mid ps h.done whole h.whole;
    stopped = h.stopped;
  }

  pub stops_after : {stop : View K → Piece A → Type 0} (old mid : View K) (ps qs : List (Piece A)) → Took grows old mid ps
      → StopsAtPiece grows stop mid qs → StopsAtPiece grows stop old (ps ++ qs)
  stops_after old mid ps qs a h = rw append-nil at (stops_in old mid ps qs [] a.whole h)

  pub took_stopped : (buffering : Buffering) (old mid new : View K) (ps qs : List (Piece A)) → Took grows old mid ps → (fault : RunFault)
      → Stopped grows buffering mid new qs fault → Stopped grows buffering old new (ps ++ qs) fault
  took_stopped buffering old mid new ps qs a fault b =
      let (out, report, cut, outs_new, reports_new) = b.cut in record {
        cut = (
          outs ps ++ out,
          reports ps ++ report,
          cut_after ps qs out report cut,
          grows-trans old.out mid.out new.out (outs ps) out a.whole.0 outs_new,
          Appends-trans old.report mid.report new.report (reports ps) report a.whole.1 reports_new,
        );
        cause = caused_after old mid new fault a.counts b.cause;
        memory = λ e. stops_after old mid ps qs a (b.memory e);
        refused = λ e f. stops_after old mid ps qs a (b.refused e f);
      }

  pub stopped_more : (buffering : Buffering) (old new : View K) (ps qs : List (Piece A)) (fault : RunFault) → Stopped grows buffering old new ps fault
      → Stopped grows buffering old new (ps ++ qs) fault
  stopped_more buffering old new ps qs fault b =
      let (out, report, cut, outs_new, reports_new) = b.cut in record {
        cut = (out, report, cut_more ps qs out report cut, outs_new, reports_new);
        cause = b.cause;
        memory = λ e. stops_in old old [] ps qs (pieces_none old) (b.memory e);
        refused = λ e f. stops_in old old [] ps qs (pieces_none old) (b.refused e f);
      }

  -- it stopped in the only piece
  stops_here : {stop : View K → Piece A → Type 0} (old mid : View K) (p : Piece A) → AppendsPieces grows old mid [] → stop mid p
      → StopsAtPiece grows stop old (p ∷ [])
  stops_here old mid p none h = record { done = []; next = p; more = []; split = refl; mid = mid; whole = none; stopped = h }

  -- there was no memory for a piece
  pub no_room : (buffering : Buffering) (old new : View K) (p : Piece A) → AppendsPieces grows old new [] → SameCounts old new
      → TakesMemory buffering p → Stopped grows buffering old new (p ∷ []) NoMemory
  no_room buffering old new p none counts wanted = record {
    cut = ([], [], inl (p.out, refl, refl), none.0, none.1);
    cause = counts;
    memory = λ e. stops_here old new p none (refl, wanted);
    refused = λ e. absurd (cc);
  }

  -- all pieces were written, and then a call failed without any
  pub took_failed : (buffering : Buffering) (old mid new : View K) (ps : List (Piece A)) (fault : RunFault) → Took grows old mid ps → Stopped grows buffering mid new [] fault
      → Stopped grows buffering old new ps fault
  took_failed buffering old mid new ps fault a b =
      rw (append-nil ps) at (took_stopped buffering old mid new ps [] a fault b)

  -- writing stopped in what belongs to `out`
  pub stopped_put : (buffering : Buffering) (old new : View K) (p : Piece A) (fault : RunFault)
      → PutStopped grows buffering old.out new.out old.out_failures new.out_failures p.out fault → Appends old.report new.report [] → new.report_failures ≡ old.report_failures
      → Stopped grows buffering old new (p ∷ []) fault
  stopped_put buffering old new p Write h kept report =
      let (some, rest, parts, proper, grown) = h.1 in record {
        cut = (some, [], inl (rest, parts, refl), grown, kept);
        cause = (h.0, report);
        memory = λ e. absurd (cc);
        refused = λ e f. stops_here old old p (pieces_none old) (h.1, kept);
      }
  stopped_put buffering old new p NoMemory h kept report =
      let (made, some, counts, grown) = h in no_room buffering old new p (grown, kept) (counts, report) (inl (made, some))
  stopped_put buffering old new p _ h kept report = absurd h

-- ---- one piece

module _ {A K : Type 0} (grows : K → K → List A → Type 0) (old new : View K) (p : Piece A) where
  -- both of its parts were written
  pub took_piece : grows old.out new.out p.out → Appends old.report new.report p.report → SameCounts old new → Took grows old new (p ∷ [])
  took_piece a b counts = record {
    whole = (rw (append-nil p.out) a, rw (append-nil p.report) b);
    counts = counts;
  }

  -- writing stopped in the text for the report
  pub stopped_lines : (buffering : Buffering) → grows old.out new.out p.out → AppendsPrefix old.report new.report p.report
      → new.out_failures ≡ old.out_failures → new.report_failures ≡ raised old.report_failures → Stopped grows buffering old new (p ∷ []) Report
  stopped_lines buffering whole prefix out report =
      let (some, rest, parts, proper, grown) = prefix in record {
        cut = (p.out, some, inr (inl (rest, refl, parts)), whole, grown);
        cause = (out, report);
        memory = λ e. absurd (cc);
        refused = λ e. absurd (cc);
      }

-- ---- flushes

module _ {A K : Type 0} (grows : K → K → List A → Type 0) (old new : View K) (a : grows old.out new.out []) (b : Appends old.report new.report []) where
  -- only what may wait for a flush can be refused by one
  pub flush_out : (buffering : Buffering) → buffering.flush ≡ true → new.out_failures ≡ raised old.out_failures → new.report_failures ≡ old.report_failures
      → Stopped grows buffering old new [] Write
  flush_out buffering waits out report = record {
    cut = ([], [], (refl, refl), a, b);
    cause = (out, report);
    memory = λ e. absurd (cc);
    refused = λ e f. absurd (cc);
  }

  pub flushed : SameCounts old new → Took grows old new []
  flushed counts = record { whole = (a, b); counts = counts }
