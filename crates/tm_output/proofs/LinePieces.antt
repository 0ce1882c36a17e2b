-- Lines that are written one after the other to one output, and where writing stops.
use Rattle.std.proofs.Common.{false, sym, ⊎_elim, ◌≡◌, ℕ, true, List, [], ◌∷◌, ◌++◌, refl, ap, Option, None, Result, Ok, Err}
use Rattle.std.specs.List.{concat}
use Rattle.std.specs.Io.KnownBytes.{Appends, Keeps}
use Rattle.std.proofs.KnownBytes.{Appends-kept, Appends-nil, Appends-trans}
use Rattle.std.proofs.lemmas.List.{map-append}
use Rattle.std.specs.Result.{OnErr}
use Rattle.tm_devices.specs.Devices.{AppendsPrefix, CountsFailures, raised}
use Rattle.tm_faults.specs.declared.run.RunFault.TheVariants.{Write}
use Rattle.tm_output.specs.Outputs.{WantsMemory, octets_buffering, AppendsCut, Piece, Stopped, Took, View, Buffering, line_piece, line_pieces, outs, view}
use Rattle.tm_output.proofs.PieceLemmas.{cut_none, flush_out, stopped_put, took_failed, took_took}

pub lines_out : (ls : List (List ℕ)) → outs (line_pieces ls) ≡ concat ls
lines_out [] = refl
lines_out (l ∷ ls) = ap (λ (x : List ℕ). l ++ x) (lines_out ls)

-- a call of the drain failed in it
pub line_stopped : {before after : Option (List ℕ)} {failures failures' : ℕ} (line : List ℕ) {buffering : Buffering}
    → AppendsPrefix before after line → failures' ≡ raised failures
    → Stopped Appends buffering (view before None failures 0) (view after None failures' 0) (line_piece line ∷ []) Write
line_stopped line {buffering} prefix counts =
    stopped_put Appends Appends-nil Appends-trans buffering _ _ (line_piece line) Write (counts, prefix) tt refl

-- pieces were written, and then a flush failed
pub flush_stopped : {old : View (Option (List ℕ))} {mid new : Option (List ℕ)} {failures failures' : ℕ} {ps : List (Piece ℕ)}
    → Took Appends old (view mid None failures 0) ps → Keeps mid new → (buffering : Buffering) → buffering.flush ≡ true → failures' ≡ raised failures
    → Stopped Appends buffering old (view new None failures' 0) ps Write
flush_stopped {old = old} {mid = mid} {new = new} {ps = ps} took kept buffering waits counts =
    took_failed Appends Appends-nil Appends-trans buffering old _ _ ps Write took
    (flush_out Appends _ _ (Appends-kept mid mid new [] (Appends-nil mid) kept) tt buffering waits counts refl)

pub flush_stopped_by : {T E : Type 0} {old : View (Option (List ℕ))} {mid : Option (List ℕ)} {failures : ℕ} {ps : List (Piece ℕ)}
    (new : Option (List ℕ)) (failures' : ℕ) → Took Appends old (view mid None failures 0) ps → Keeps mid new
    → (buffering : Buffering) → buffering.flush ≡ true → (r : Result T E) → CountsFailures failures failures' r
    → OnErr r (Stopped Appends buffering old (view new None failures' 0) ps Write)
flush_stopped_by new failures' took kept buffering waits (Ok x) counts = tt
flush_stopped_by new failures' took kept buffering waits (Err e) counts = flush_stopped took kept buffering waits counts

module _ (old new : View (Option (List ℕ))) where
  -- nothing was written
  pub same_cut : (ps : List (Piece ℕ)) → new ≡ old → AppendsCut Appends old new ps
  same_cut ps same = rw same ([], [], cut_none ps, Appends-nil old.out, Appends-nil old.report)

-- ---- lines after lines

module _ (old mid new : View (Option (List ℕ))) (xs ys : List (List ℕ)) where
  pub lines_lines : Took Appends old mid (line_pieces xs) → Took Appends mid new (line_pieces ys) → Took Appends old new (line_pieces (xs ++ ys))
  lines_lines a b = rw (map-append line_piece xs ys) (took_took Appends Appends-nil Appends-trans old mid new (line_pieces xs) (line_pieces ys) a b)

-- ---- no line has a text for the report

line_report : (ls : List (List ℕ)) (done : List (Piece ℕ)) (next : Piece ℕ) (more : List (Piece ℕ)) → line_pieces ls ≡ done ++ next ∷ more → next.report ≡ []
line_report [] [] next more e = absurd (cc)
line_report [] (d ∷ done) next more e = absurd (cc)
line_report (l ∷ ls) [] next more e = let same : line_piece l ≡ next = cc in ap (λ (p : Piece ℕ). p.report) (sym same)
line_report (l ∷ ls) (d ∷ done) next more e = line_report ls done next more (cc)

-- so none takes memory
pub no_memory : {old new : View (Option (List ℕ))} (ls : List (List ℕ)) → WantsMemory Appends octets_buffering old new (line_pieces ls) → ⊥
no_memory ls wants =
    ⊎_elim (λ made. let made_is : false ≡ true = made.0 in cc) (λ (some : wants.next.report ≡ [] → ⊥). some (line_report ls wants.done wants.next wants.more wants.split)) wants.stopped.1
