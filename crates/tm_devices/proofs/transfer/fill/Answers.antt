use Rattle.std.proofs.Common.{length, ◌-◌, subst, sym, ◌∙◌, rules}
use Rattle.std.specs.Io.KnownBytes.{Consumes}
use Rattle.std.proofs.KnownBytes.{Consumes-trans}
use Rattle.tm_devices.proofs.Parts.{take_filled}
use Rattle.tm_devices.proofs.transfer.fill.Goals as goal

pub loop-filled-preserved : goal.loop-filled-preserved
loop-filled-preserved g c =
    let (within, read, same) = c.loop-filled.invariant in
    let from = c.loop-filled.filled in
    let part = take_filled from (length c.loop-filled.buffer - from) c.in_ok-n.n c.loop-filled.buffer c.read.new.buffer within c.in_ok-n.ensures.bound in
    (search rules, subst (Consumes _ _) (sym part) (Consumes-trans _ _ _ _ _ read c.in_ok-n.ensures.octets.0), c.in_ok-n.ensures.counts ∙ same)
