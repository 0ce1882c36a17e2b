use Rattle.std.proofs.Common.{arith}
use Rattle.tm_files.proofs.FileLemmas.{short_whole}
use Rattle.tm_files.proofs.files.read_short.Goals as goal

pub returns-else-len-gt-MOST_OCTETS-clause-whole : goal.returns-else-len-gt-MOST_OCTETS-clause-whole
returns-else-len-gt-MOST_OCTETS-clause-whole g c =
    let read = rw c.take.ensures.inner at c.in_ok-read_to_end.ensures.bytes in
    short_whole (g.R.Read.remaining c.args.reader) c.take.result.limit c.new-octets.result.items c.read_to_end.new.buf.items c.new-octets.ensures.items read
    (omega (arith, c.take.ensures.limit, c.len.ensures, c.if-len-gt-MOST_OCTETS.false))
