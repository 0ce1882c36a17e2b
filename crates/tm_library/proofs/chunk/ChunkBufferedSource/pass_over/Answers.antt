use Rattle.std.proofs.Common.{replicate, arith}
use Rattle.std.proofs.lemmas.List.{length-replicate}
use Rattle.tm_library.proofs.Zeros.{zeros_first}
use Rattle.tm_library.proofs.chunk.ChunkBufferedSource.pass_over.Goals as goal

pub returns-clause-octets : goal.returns-clause-octets
returns-clause-octets c = (
  replicate c.args.octets 0,
  length-replicate c.args.octets 0,
  zeros_first c.args.octets c.args.self.now.done c.args.self.now.octets.now (grind arith),
)
