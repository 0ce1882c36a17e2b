use Rattle.std.proofs.Common.{refl, ◌∙◌}
use Rattle.tm_output.proofs.PieceLemmas.{stopped_lines}
use Rattle.tm_output.specs.Pieces.{unclosed_piece}
use Rattle.tm_output.proofs.output.Output.write_unclosed.Goals as goal

pub returns-in-Err-clause-written : goal.returns-in-Err-clause-written
unfolding unclosed_piece
returns-in-Err-clause-written g c =
    let line = rw c.of_key-pair.ensures at (c.as_slice.ensures ∙ c.format_note.ensures) in
    let prefix = rw line at c.in-Err.ensures.prefix in
    stopped_lines g.O.Outlet.grows _ _ _ g.O.Outlet.buffering (g.met.O.Outlet.grows_nil _) prefix refl c.in-Err.ensures.counts
