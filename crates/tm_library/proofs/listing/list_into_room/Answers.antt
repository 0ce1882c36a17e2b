use Rattle.std.proofs.Common.{refl, sym, ◌∙◌}
use Rattle.tm_output.specs.declared.command.Command.TheVariants.{Extract}
use Rattle.tm_library.proofs.ChunkLemmas.{gave, holds, lists_lines, lists_refused, written_first}
use Rattle.tm_library.proofs.listing.list_into_room.Goals as goal

pub returns-in-Ok : goal.returns-in-Ok
returns-in-Ok c =
    let room = c.list_with_job.new.out in
    let ok = c.in-Ok.ensures in
    let lists = ok.lists in
    let (took, count, kept, totals) = gave Extract c.args.chunk.last c.args.job _ _ c.requires lists.sound _ _ _ _ _ _ _ c.chunk_ending-ending.ensures lists.ran in
    let lines = lists_lines c.args.job.work c.args.chunk.octets.now c.args.chunk.done c.requires lists.sound.1 c.args.chunk.last _ c.chunk_ending-ending.ensures _ _ _ _ lists.listed in
    record {
      out = rw (c.out-1.given.1.1 (sym (ok.same ∙ c.new-room.ensures.same_octets)), c.length.ensures)
          (holds room.octets.now room.overflow.now.items _ room.filled room.within room.full
          (written_first _ _ _ _ _ c.new-room.ensures.filled c.new-room.ensures.overflow lines));
      report = refl;
      records = count;
      kept = kept;
      totals = totals;
      refused = tt;
    }

pub returns-clause-refused : goal.returns-clause-refused
returns-clause-refused c =
    let lists = c.in-Err.ensures.lists in
    rw c.into.ensures
    (lists_refused c.args.job.work c.args.chunk.octets.now c.args.chunk.done c.requires lists.sound.1 c.args.chunk.last _ c.chunk_ending-ending.ensures _ _ _
    c.args.job.fresh c.in-Err.fault lists.stopped)
