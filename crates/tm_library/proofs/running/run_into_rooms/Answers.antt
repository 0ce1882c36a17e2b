use Rattle.std.proofs.Common.{refl, sym, ◌∙◌}
use Rattle.tm_library.proofs.ChunkLemmas.{gave, holds, refused, written_first}
use Rattle.tm_library.proofs.running.run_into_rooms.Goals as goal

pub returns-in-Ok : goal.returns-in-Ok
returns-in-Ok c =
    let ok = c.in-Ok.ensures in
    let (took, count, kept, totals) = gave c.args.command c.args.chunk.last c.args.job _ _ c.requires ok.sound _ _ _ _ _ _ _ c.chunk_ending-ending.ensures ok.ran in
    let rooms = c.run_and_count.new in
    record {
      out = rw (c.out-in-Ok-2-1.given.1.1 (sym (ok.same_out ∙ c.new-out.ensures.same_octets)), c.length.ensures)
          (holds rooms.out.octets.now rooms.out.overflow.now.items _ rooms.out.filled rooms.out.within rooms.out.full (written_first _ _ _ _ _ c.new-out.ensures.filled c.new-out.ensures.overflow took.0));
      report = rw (c.report-in-Ok-2-1.given.1.1 (sym (ok.same_report ∙ c.new-report.ensures.same_octets)), c.length-in-Ok.ensures)
          (holds rooms.report.octets.now rooms.report.overflow.now.items _ rooms.report.filled rooms.report.within rooms.report.full (written_first _ _ _ _ _ c.new-report.ensures.filled c.new-report.ensures.overflow took.1));
      records = count;
      kept = kept;
      totals = totals;
      refused = tt;
    }

pub returns-clause-refused : goal.returns-clause-refused
returns-clause-refused c =
    let stop = c.in-Err in
    let told = refused c.args.command c.args.chunk.last c.args.job _ _ c.requires stop.ensures.sound _ _ _ _ stop.fault stop.ensures.stopped stop.fault refl in
    rw c.into.ensures told
