use Rattle.std.proofs.Common.{refl}
use Rattle.tm_summary.proofs.WritingLemmas.{stopped_first, summary_pieces, then_stopped, then_took}
use Rattle.tm_summary.proofs.writing.write_summary.Goals as goal

pub returns-in-Err-clause-written : goal.returns-in-Err-clause-written
returns-in-Err-clause-written g c = rw (summary_pieces c.args.chosen.now c.args.records {n = c.args.counts.now} refl) (stopped_first _ c.in-Err.ensures.written)

pub returns-in-Err-write_faults-clause-written : goal.returns-in-Err-write_faults-clause-written
returns-in-Err-write_faults-clause-written g c =
    rw (summary_pieces c.args.chosen.now c.args.records c.counts.view_is)
    (then_stopped c.in_default.ensures.written (stopped_first _ c.in-Err-write_faults.ensures.written))

pub returns-in-Err-write_master-clause-written : goal.returns-in-Err-write_master-clause-written
returns-in-Err-write_master-clause-written g c =
    rw (summary_pieces c.args.chosen.now c.args.records c.counts.view_is)
    (then_stopped c.in_default.ensures.written (then_stopped c.in_default-write_faults.ensures.written (stopped_first _ c.in-Err-write_master.ensures.written)))

pub returns-in-Err-write_channels-clause-written : goal.returns-in-Err-write_channels-clause-written
returns-in-Err-write_channels-clause-written g c =
    rw (summary_pieces c.args.chosen.now c.args.records c.counts.view_is)
    (then_stopped c.in_default.ensures.written
    (then_stopped c.in_default-write_faults.ensures.written (then_stopped c.in_default-write_master.ensures.written (stopped_first _ c.in-Err-write_channels.ensures.written))))

pub returns-in-Err-write_applications-clause-written : goal.returns-in-Err-write_applications-clause-written
returns-in-Err-write_applications-clause-written g c =
    rw (summary_pieces c.args.chosen.now c.args.records c.counts.view_is, ← c.as_slice.ensures.value)
    (then_stopped c.in_default.ensures.written
    (then_stopped c.in_default-write_faults.ensures.written
    (then_stopped c.in_default-write_master.ensures.written (then_stopped c.in_default-write_channels.ensures.written c.in-Err-write_applications.ensures.written))))

pub returns-in-Ok-clause-written : goal.returns-in-Ok-clause-written
returns-in-Ok-clause-written g c =
    rw (summary_pieces c.args.chosen.now c.args.records c.counts.view_is, ← c.as_slice.ensures.value)
    (then_took c.in_default.ensures.written
    (then_took c.in_default-write_faults.ensures.written
    (then_took c.in_default-write_master.ensures.written (then_took c.in_default-write_channels.ensures.written c.in-Ok.ensures.written))))
