use Rattle.std.proofs.Common.{ap}
use Rattle.tm_packet.specs.Merge.{Entries}
use Rattle.tm_checkpoint.specs.Works.{work_of}
use Rattle.tm_tool.specs.code.Stepping.{run_state}
use Rattle.tm_tool.proofs.RunEnds.{still_taken, then_refused}
use Rattle.tm_tool.proofs.recording.OutputRecordHandler.flush_all.Goals as goal

pub returns-clause-taken : goal.returns-clause-taken
returns-clause-taken g c =
    still_taken g.O.Outlet.grows g.met.O.Outlet.grows_nil g.met.O.Outlet.grows_trans g.O.Outlet.buffering _ _ _ c.flush.result c.flush.ensures.written
    (ap (λ (e : Entries). work_of c.args._progress.now e) c.flush.ensures.tracker) c.flush.ensures.totals

pub returns-clause-refused : goal.returns-clause-refused
returns-clause-refused g c =
    then_refused g.O.Outlet.grows g.met.O.Outlet.grows_nil g.met.O.Outlet.grows_trans g.O.Outlet.buffering _
    (run_state g.O.Outlet g.V.Drain c.args._progress.now c.args.self.now) (run_state g.O.Outlet g.V.Drain c.args._progress.now c.flush.new.self) c.flush.result c.flush.ensures.written
