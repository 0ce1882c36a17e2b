use Rattle.std.proofs.Common.{rules}
use Rattle.tm_lines.proofs.BufferLemmas.{kept_before}
use Rattle.tm_lines.proofs.buffer.LineBuffer.repeat_beginning.Goals as goal

pub returns-in-Some : goal.returns-in-Some
returns-in-Some c = search (rules, kept_before)
