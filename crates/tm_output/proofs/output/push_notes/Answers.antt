use Rattle.std.proofs.Common.{◌≡◌, ◌<◌, ℕ, List, None, append_assoc, ap, arith, length, sym, ◌∙◌}
use Rattle.std.specs.Prelude.{slice_get}
use Rattle.std.proofs.Math.Bool.{or_assoc}
use Rattle.std.proofs.lemmas.List.{drop_more}
use Rattle.std.proofs.lemmas.Option.{get_or_from_slice_get, slice_get_cases}
use Rattle.tm_lines.specs.Lines.{note_lines}
use Rattle.tm_output.specs.Totals.{notes_tell_loss}
use Rattle.tm_output.proofs.output.push_notes.Goals.{in-Some+in_default-push_note, in_default}
use Rattle.tm_output.proofs.output.push_notes.Goals as goal

none_past : {X : Type 0} (xs : List X) (i : ℕ) → i < length xs → slice_get xs i ≡ None → ⊥
none_past xs i within none = grind (arith, slice_get_cases)

pub loop-i-preserved : goal.loop-i-preserved
loop-i-preserved c =
    elim c.match-get.branch [
      | in-Some+in_default-push_note w ↦
          let is = get_or_from_slice_get c.args.notes.now c.loop-i.i w.in-Some.note w.in-Some.note (sym c.get.ensures ∙ w.in-Some.is) in
          let more = drop_more c.args.notes.now c.loop-i.i w.in-Some.note (omega arith) in
          let lines = ap (note_lines c.args.seen c.args.channel c.args.apid) more in
          let losses = ap notes_tell_loss more in
          record {
            lines = rw (w.lines-is, w.in_default-push_note.ensures, append_assoc) (rw (lines, is) at c.loop-i.invariant.lines);
            lost = rw (w.lost-is, w.tells_loss-lost.ensures, or_assoc) (rw (losses, is) at c.loop-i.invariant.lost);
          }
      | in_default w ↦ absurd (none_past c.args.notes.now c.loop-i.i (omega arith) (sym c.get.ensures ∙ w.in_default.is))
    ]
