-- Nothing is held for the applications so far, unless one couldn't be written. For each is held what was held before, or nothing.
use Rattle.std.specs.Prelude.{OnOk}
use Rattle.tm_split_files.specs.code.Buffers.{AreEmptyOf, AreKeptOrEmpty}
use Rattle.tm_split_files.proofs.files.Folder.write_all_held.Given as goal

abbrev pub invariant-loop-application : goal.invariant-loop-application
invariant-loop-application g l = OnOk l.done (AreEmptyOf l.application l.held) × AreKeptOrEmpty l.initial.held l.held
