use Rattle.tm_lines.proofs.LineLemmas.{beginning_before}
use Rattle.tm_lines.proofs.buffer.LineBuffer.prepend_beginning.Goals as goal

pub returns-clause-text : goal.returns-clause-text
returns-clause-text c = cc (beginning_before c.args.seen c.args.channel c.args.first c.args.self.now)
