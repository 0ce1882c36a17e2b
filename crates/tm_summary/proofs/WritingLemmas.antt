-- Lines that are written one after the other, and where writing stops.
use Rattle.std.proofs.Common.{◌≡◌, ◌<◌, ◌≤◌, ◌+◌, ℕ, zero, suc, List, [], ◌∷◌, ◌++◌, length, append-nil, add-one, refl, arith, ⊎_elim, Option, Bool, true, false, get_or, ltb, lt-ltb, map, sym, ap, ◌∙◌}
use Rattle.std.specs.Prelude.{filter, if◌then◌else◌}
use Rattle.std.specs.List.{flat_map}
use Rattle.std.specs.Io.KnownBytes.{Appends}
use Rattle.std.proofs.KnownBytes.{Appends-nil, Appends-trans}
use Rattle.std.proofs.lemmas.Bool.{cases_lt}
use Rattle.std.proofs.lemmas.List.{get_or_default, map-append}
use Rattle.std.proofs.lemmas.List.Concat.{flat_map-append}
use Rattle.tm_devices.specs.declared.device.Drain as drain
use Rattle.tm_faults.specs.declared.run.RunFault.{RunFault}
use Rattle.tm_output.specs.Outputs.{Piece, Stopped, Took, View, line_piece, line_pieces, octets_buffering}
use Rattle.tm_output.specs.Seen.{out_alone}
use Rattle.tm_output.proofs.PieceLemmas.{stopped_more, took_stopped, took_took}
use Rattle.tm_frame.specs.Channels.{is_chosen}
use Rattle.tm_summary.specs.declared.application.ApplicationCounts.{ApplicationCounts}
use Rattle.tm_summary.specs.declared.channel.ChannelCounts.{ChannelCounts}
use Rattle.tm_summary.specs.declared.channel.Loss.{Loss}
use Rattle.tm_summary.specs.Adding.{no_application, no_loss}
use Rattle.tm_summary.specs.Lines.{application_lines, channel_line, channel_lines, channel_lines_of, fault_at, fault_line, fault_lines, line_if, line_of_key, loss_line, loss_lines, loss_reason_at, master_line, places_counted, recording_line, summary_lines}
use Rattle.tm_summary.specs.SummaryNumbers.{SummaryNumbers, below}

abbrev pub TookLines : View (Option (List ℕ)) → View (Option (List ℕ)) → List (List ℕ) → Type 0
TookLines old new lines = Took Appends old new (line_pieces lines)

abbrev pub StoppedLines : View (Option (List ℕ)) → View (Option (List ℕ)) → List (List ℕ) → RunFault → Type 0
StoppedLines old new lines fault = Stopped Appends octets_buffering old new (line_pieces lines) fault

-- the lines of the numbers below one were written, to a drain whose own number is the same
abbrev pub TookBelow : {W : Type 0} → drain.Ghosts W → W → W → (ℕ → List (List ℕ)) → ℕ → Type 0
TookBelow w old new f n = (w.fixed new ≡ w.fixed old) × TookLines (out_alone w old) (out_alone w new) (flat_map f (below n))

-- ---- pieces, and then others

pub then_took : {u v w : View (Option (List ℕ))} {ps qs : List (Piece ℕ)} → Took Appends u v ps → Took Appends v w qs → Took Appends u w (ps ++ qs)
then_took {u} {v} {w} {ps} {qs} a b = took_took Appends Appends-nil Appends-trans u v w ps qs a b

pub then_stopped : {u v w : View (Option (List ℕ))} {ps qs : List (Piece ℕ)} {fault : RunFault} → Took Appends u v ps
    → Stopped Appends octets_buffering v w qs fault → Stopped Appends octets_buffering u w (ps ++ qs) fault
then_stopped {u} {v} {w} {ps} {qs} {fault} a b = took_stopped Appends Appends-nil Appends-trans octets_buffering u v w ps qs a fault b

pub stopped_first : {u v : View (Option (List ℕ))} {ps : List (Piece ℕ)} {fault : RunFault} (qs : List (Piece ℕ))
    → Stopped Appends octets_buffering u v ps fault → Stopped Appends octets_buffering u v (ps ++ qs) fault
stopped_first {u} {v} {ps} {fault} qs h = stopped_more Appends Appends-nil Appends-trans octets_buffering u v ps qs fault h

-- ---- the lines of the places of a list, by what stands there, whatever stands for a place that isn't there

pieces_more : (f : ℕ → List (List ℕ)) (n : ℕ) → line_pieces (flat_map f (below (suc n))) ≡ line_pieces (flat_map f (below n)) ++ line_pieces (f n)
pieces_more f n = simp (flat_map-append, append-nil, map-append)

module _ {A : Type 0} (F : ℕ → A → List (List ℕ)) (xs : List A) (d : A) where
  abbrev pub lines_at : ℕ → List (List ℕ)
  lines_at n = F n (get_or xs n d)

  module _ {old now new : View (Option (List ℕ))} (n : ℕ) (inside : n < length xs) (e : A)
      {Same : Type 0} (done : Same × TookLines old now (flat_map lines_at (below n))) where
    pub place_more : {Kept : Type 0} → Kept → TookLines now new (F n (get_or xs n e)) → Kept × TookLines old new (flat_map lines_at (below (n + 1)))
    place_more kept one = (kept, rw (add-one n, pieces_more lines_at n) (then_took done.1 (rw (get_or_default xs n e d inside) at one)))

    pub place_stopped : {fault : RunFault} (m : ℕ) → n < m → StoppedLines now new (F n (get_or xs n e)) fault
        → StoppedLines old new (flat_map lines_at (below m)) fault
    place_stopped zero h stopped = absurd (omega arith)
    place_stopped (suc m) h stopped =
        rw (pieces_more lines_at m)
        (⊎_elim
        (λ (less : n < m). stopped_first (line_pieces (lines_at m)) (place_stopped m less stopped))
        (λ (more : m ≤ n).
        let same : m ≡ n = omega (arith, h, more) in
        rw same (then_stopped done.1 (rw (get_or_default xs n e d inside) at stopped)))
        (cases_lt n m))

-- of a fault, of a reason, and of an application
abbrev pub fault_lines_of : ℕ → ℕ → List (List ℕ)
fault_lines_of place records = line_if (ltb 0 records) (fault_line (fault_at place) records)

abbrev pub loss_lines_of : ℕ → ℕ → Loss → List (List ℕ)
loss_lines_of channel place l = line_if (ltb 0 l.parts) (loss_line channel (loss_reason_at place) l)

abbrev pub application_lines_of : ℕ → ApplicationCounts → List (List ℕ)
application_lines_of key a = line_if (ltb 0 a.packets) (line_of_key key a)

-- ---- a line for each place for which something is counted

shown_first : (b : Bool) (line : ℕ → List ℕ) (place : ℕ) (places : List ℕ)
    → line_if b (line place) ++ map line places ≡ map line (if b then place ∷ places else places)
shown_first true line place places = refl
shown_first false line place places = refl

shown : (test : ℕ → Bool) (line : ℕ → List ℕ) (places : List ℕ)
    → flat_map (λ place. line_if (test place) (line place)) places ≡ map line (filter test places)
shown test line [] = refl
shown test line (place ∷ places) =
    ap (λ (lines : List (List ℕ)). line_if (test place) (line place) ++ lines) (shown test line places)
    ∙ shown_first (test place) line place (filter test places)

lines_shown : (n : ℕ) (counted : ℕ → ℕ) (line : ℕ → List ℕ)
    → map line (places_counted n counted) ≡ flat_map (λ place. line_if (ltb 0 (counted place)) (line place)) (below n)
unfolding places_counted
lines_shown n counted line = sym (shown (λ place. ltb 0 (counted place)) line (below n))

pub faults_shown : (faults : List ℕ) → fault_lines faults ≡ flat_map (lines_at fault_lines_of faults 0) (below 8)
unfolding fault_lines
faults_shown faults = lines_shown 8 (λ place. get_or faults place 0) (λ place. fault_line (fault_at place) (get_or faults place 0))

pub losses_shown : (channel : ℕ) (losses : List Loss) → loss_lines channel losses ≡ flat_map (lines_at (loss_lines_of channel) losses no_loss) (below 7)
unfolding loss_lines
losses_shown channel losses =
    lines_shown 7 (λ place. (get_or losses place no_loss).parts) (λ place. loss_line channel (loss_reason_at place) (get_or losses place no_loss))

pub applications_shown : (applications : List ApplicationCounts)
    → application_lines applications ≡ flat_map (lines_at application_lines_of applications no_application) (below 16384)
unfolding application_lines
applications_shown applications =
    lines_shown 16384 (λ key. (get_or applications key no_application).packets) (λ key. line_of_key key (get_or applications key no_application))

-- a channel that is chosen and had a good frame
pub channel_has : (chosen : List Bool) (channel : ℕ) (c : ChannelCounts) → is_chosen chosen channel ≡ true → 0 < c.frames
    → channel_lines_of chosen channel c ≡ channel_line channel c ∷ loss_lines channel c.losses
channel_has chosen channel c is some = rw (is, lt-ltb 0 c.frames some) refl

-- ---- the five parts of a summary, one after the other

pub summary_pieces : (chosen : List Bool) (records : ℕ) {m n : SummaryNumbers} → m ≡ n → line_pieces (summary_lines chosen records n)
    ≡ (line_piece (recording_line records n.good n.bad n.rest) ∷ [])
    ++ (line_pieces (fault_lines m.faults)
    ++ ((line_piece (master_line m.master_gaps m.master_missing) ∷ [])
    ++ (line_pieces (channel_lines chosen m.channels)
    ++ line_pieces (application_lines m.applications))))
summary_pieces chosen records {m} {n} same = rw same (simp map-append)
