use Rattle.std.proofs.Common.{◌∙◌, refl}
use Rattle.std.proofs.lemmas.Result.{on_ok_weaker}
use Rattle.tm_checkpoint.specs.Works.{work_of}
use Rattle.tm_tool.proofs.RunEnds.{stopped_items, wrote_groups}
use Rattle.tm_tool.proofs.Sinks.{took_all, stopped_among}
use Rattle.tm_tool.proofs.recording.end.Goals as goal

pub returns-in-Ok-clause-same : goal.returns-in-Ok-clause-same
returns-in-Ok-clause-same g c =
    let all = took_all g.O.Outlet.grows g.met.O.Outlet.grows_nil g.met.O.Outlet.grows_trans g.O.Outlet.text g.O.Outlet.buffering _ _ _ c.in-Ok.ensures.accepted in
    c.write_all_unclosed.ensures.same ∙ all.same

pub returns-in-Ok-clause-written : goal.returns-in-Ok-clause-written
returns-in-Ok-clause-written g c =
    let all = took_all g.O.Outlet.grows g.met.O.Outlet.grows_nil g.met.O.Outlet.grows_trans g.O.Outlet.text g.O.Outlet.buffering _ _ _ c.in-Ok.ensures.accepted in
    rw c.in-Close.is
    (wrote_groups g.O.Outlet.grows g.met.O.Outlet.grows_nil g.met.O.Outlet.grows_trans g.O.Outlet.buffering (g.O.Outlet.text (g.O.Outlet.fixed c.args.output.now.outlet.now)) (work_of c.args.reassembly.now c.args.output.now.tracker.now) c.args.rest _ _
    c.close.new.sink.tracker.now c.records-records.result all.took all.noted_is c.records-records.ensures _ c.write_all_unclosed.result c.write_all_unclosed.ensures.written)

pub returns-in-Err-Sink-clause-same : goal.returns-in-Err-Sink-clause-same
returns-in-Err-Sink-clause-same g c =
    (stopped_among g.O.Outlet.grows g.met.O.Outlet.grows_nil g.met.O.Outlet.grows_trans g.O.Outlet.text g.O.Outlet.buffering _ _ _ _
    (rw c.in-Err-Sink.field-0-is at c.in-Err-Sink.ensures.refused).1).same

pub returns-in-Err-Sink-clause-written : goal.returns-in-Err-Sink-clause-written
returns-in-Err-Sink-clause-written g c =
    let all = stopped_among g.O.Outlet.grows g.met.O.Outlet.grows_nil g.met.O.Outlet.grows_trans g.O.Outlet.text g.O.Outlet.buffering _ _ _ _ (rw c.in-Err-Sink.field-0-is at c.in-Err-Sink.ensures.refused).1 in
    rw c.in-Close.is
    (stopped_items g.O.Outlet.grows g.met.O.Outlet.grows_nil g.met.O.Outlet.grows_trans g.O.Outlet.buffering (g.O.Outlet.text (g.O.Outlet.fixed c.args.output.now.outlet.now)) (work_of c.args.reassembly.now c.args.output.now.tracker.now) c.args.rest _ _ c.in-Err-Sink.fault all.stopped)

pub returns-in-Ok-clause-counted : goal.returns-in-Ok-clause-counted
returns-in-Ok-clause-counted g c =
    let all = took_all g.O.Outlet.grows g.met.O.Outlet.grows_nil g.met.O.Outlet.grows_trans g.O.Outlet.text g.O.Outlet.buffering _ _ _ c.in-Ok.ensures.accepted in
    rw c.in-Close.is
    (on_ok_weaker c.write_all_unclosed.result (λ h. h ∙ rw (all.noted_is, all.totals_is) refl) c.write_all_unclosed.ensures.counted)
