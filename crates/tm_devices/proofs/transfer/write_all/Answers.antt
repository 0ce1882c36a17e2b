use Rattle.tm_devices.proofs.Parts.{prefix_after}
use Rattle.tm_devices.proofs.transfer.write_all.Goals as goal

pub returns-clause-prefix : goal.returns-clause-prefix
returns-clause-prefix g c =
    prefix_after c.write_rest.result _ _ _ _ _ c.in_ok-n.ensures.octets c.write_rest.ensures.prefix c.write_rest.ensures.some
