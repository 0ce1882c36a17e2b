use Rattle.std.proofs.Common.{◌==◌, ap}
use Rattle.tm_devices.proofs.Holding.{taken_of_buffer}
use Rattle.tm_devices.proofs.standard.BufferedBufferedSource.consume.Goals as goal

pub returns-clause-octets : goal.returns-clause-octets
returns-clause-octets g c =
    let taken = c.consume.ensures in
    taken_of_buffer _ _ c.args.octets _ _ _ _ (ap (λ n. n == 0) taken.capacity) taken.buffer (ap g.R.Read.remaining taken.inner)
