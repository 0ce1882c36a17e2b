-- The lines of the first notes follow what was there, and it is known whether one of them tells a loss.
use Rattle.std.proofs.Common.{◌≡◌, ◌++◌, ◌||◌, drop}
use Rattle.tm_lines.specs.Lines.{note_lines}
use Rattle.tm_output.specs.Totals.{notes_tell_loss}
use Rattle.tm_output.proofs.output.push_notes.Given as goal

abbrev pub invariant-loop-i : goal.invariant-loop-i
invariant-loop-i l = record {
  lines : l.lines.items ++ note_lines l.seen l.channel l.apid (drop l.i l.notes) ≡ l.initial.lines.items ++ note_lines l.seen l.channel l.apid l.notes;
  lost : l.lost || notes_tell_loss (drop l.i l.notes) ≡ notes_tell_loss l.notes;
}
