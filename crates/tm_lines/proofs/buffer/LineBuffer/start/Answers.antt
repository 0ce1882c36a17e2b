use Rattle.std.proofs.Common.{length, ap, arith}
use Rattle.tm_lines.proofs.BufferLemmas.{last_set}
use Rattle.tm_lines.proofs.buffer.LineBuffer.start.Goals as goal

pub returns-clause-text : goal.returns-clause-text
returns-clause-text c = last_set c.self.inside.octets 319 10 (omega arith)

pub returns-clause-len : goal.returns-clause-len
returns-clause-len c = ap length (last_set c.self.inside.octets 319 10 (omega arith))
