use Rattle.std.proofs.Common.{◌-◌, arith}
use Rattle.tm_lines.proofs.BufferLemmas.{prepend_more}
use Rattle.tm_lines.proofs.buffer.LineBuffer.prepend_text.Goals as goal

pub loop-i-preserved : goal.loop-i-preserved
loop-i-preserved g c =
    prepend_more c.loop-i.octets c.self.inside.octets c.args.text.now (c.self.inside.begin - g.row.N) c.loop-i.i c.loop-i.invariant (omega arith) (omega arith)
