use Rattle.std.proofs.Common.{ap, ◌∙◌}
use Rattle.tm_packet.specs.Header.{Fields}
use Rattle.tm_output.specs.Shelves.{shelf_buffering, shelved_of}
use Rattle.tm_output.proofs.ShelfLemmas.{shelf_stopped}
use Rattle.tm_output.proofs.outlet.PacketShelfOutlet.write.Goals as goal

pub returns-in-Err-clause-stopped : goal.returns-in-Err-clause-stopped
unfolding shelved_of
returns-in-Err-clause-stopped g c =
    let application = c.application.ensures.value ∙ ap (λ (h : Fields). h.application) c.requires in
    shelf_stopped shelf_buffering _ _ _ _ _ _ (rw application at c.in-Err.ensures.prefix) c.in-Err.ensures.counts
