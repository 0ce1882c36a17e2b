use Rattle.std.proofs.Common.{rules, arith}
use Rattle.tm_tests.specs.Stored.{stored}
use Rattle.tm_tests.proofs.Stored.{put_front}
use Rattle.tm_tests.proofs.memory.MemoryShelf.leave.Goals as goal

pub returns-clause-left : goal.returns-clause-left
returns-clause-left c =
    put_front (stored c.args.self.now.puts.items) (stored c.keep.new.self.puts.items) c.args.application c.args.octets.now c.args.self.now.leaves (omega arith)
    (c.keep.ensures.kept (search rules))
