-- These applications have their place, and nothing is held of them.
use Rattle.std.proofs.Common.{◌≡◌}
use Rattle.std.specs.Prelude.{vec_len}
use Rattle.tm_split_files.specs.code.Buffers.{AreEmptyOf}
use Rattle.tm_split_files.proofs.files.empty_buffers.Given as goal

abbrev pub invariant-loop-application : goal.invariant-loop-application
invariant-loop-application l =
    (vec_len l.held ≡ l.application)
    × AreEmptyOf l.application l.held.items
