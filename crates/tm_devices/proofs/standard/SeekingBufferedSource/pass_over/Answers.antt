use Rattle.tm_devices.proofs.Moving.{passes_untold}
use Rattle.tm_devices.proofs.standard.SeekingBufferedSource.pass_over.Goals as goal

pub returns-in-Ok-clause-octets : goal.returns-in-Ok-clause-octets
returns-in-Ok-clause-octets g c = passes_untold c.in-Ok.did c.args.octets
