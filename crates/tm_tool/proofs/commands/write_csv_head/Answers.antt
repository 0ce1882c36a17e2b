use Rattle.std.proofs.Common.{rules}
use Rattle.tm_tool.proofs.HeadedRuns.{flush_failed}
use Rattle.tm_tool.proofs.commands.write_csv_head.Goals as goal

pub returns-clause-stopped : goal.returns-clause-stopped
returns-clause-stopped g c =
    let put = c.in_default-write_all.ensures in
    flush_failed _ _ _ c.in-Fields.definition c.in-Fields.field-1 c.in-Fields.is (search rules) (rw (c.as_slice.ensures.value, c.in-Ok.ensures) at put.whole) put.counts c.flush.ensures.octets c.in-Err-flush.ensures.counts
