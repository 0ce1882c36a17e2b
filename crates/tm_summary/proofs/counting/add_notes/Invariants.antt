-- With the notes that are left the numbers are those with all.
use Rattle.std.proofs.Common.{◌≡◌, drop}
use Rattle.tm_summary.specs.Tallies.{noted_numbers}
use Rattle.tm_summary.proofs.counting.add_notes.Given as goal

abbrev pub invariant-loop-i : goal.invariant-loop-i
invariant-loop-i l = noted_numbers l.counts l.key (drop l.i l.notes) ≡ noted_numbers l.initial.counts l.key l.notes
