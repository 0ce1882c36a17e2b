-- So many places were added, and there is memory for the others.
use Rattle.std.proofs.Common.{◌≡◌, ◌+◌, ◌-◌, ◌++◌, ◌≤◌, None}
use Rattle.std.specs.Prelude.{replicate, vec_capacity, vec_len}
use Rattle.tm_feed.proofs.choice.add_places.Given as goal

abbrev pub invariant-loop-added : goal.invariant-loop-added
invariant-loop-added l = record {
  items : l.rows.items ≡ l.fn.rows.items ++ replicate l._added None;
  room : vec_len l.rows + (l.missing - l._added) ≤ vec_capacity l.rows;
}
