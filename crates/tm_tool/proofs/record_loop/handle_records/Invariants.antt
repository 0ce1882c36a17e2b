-- The records that were read after those that are done are taken, and no call failed.
use Rattle.std.proofs.Common.{◌≡◌, ◌-◌, ◌^◌, length}
use Rattle.tm_tool.specs.code.RecordLoop.{HasTaken, Reached}
use Rattle.tm_tool.proofs.record_loop.handle_records.Given as goal

abbrev pub invariant-loop-ending : goal.invariant-loop-ending
invariant-loop-ending g l = record {
  same : g.K.RecordHandler.fixed l.progress l.handler ≡ g.K.RecordHandler.fixed l.fn.progress l.fn.handler;
  ready : g.K.RecordHandler.ready l.progress;
  exact : length l.buffer ≡ length l.fn.buffer;
  reads : g.R.BufferedSource.failures l.recording ≡ g.R.BufferedSource.failures l.fn.recording;
  done : l.done ≡ g.K.RecordHandler.count (g.K.RecordHandler.known l.fn.progress l.fn.handler);
  reached : Reached l.ending (g.K.RecordHandler.count (g.K.RecordHandler.known l.fn.progress l.fn.handler)) (g.K.RecordHandler.count (g.K.RecordHandler.known l.progress l.handler));
  taken : HasTaken (g.K.RecordHandler.takes (g.K.RecordHandler.fixed l.fn.progress l.fn.handler)) (length l.fn.buffer) (g.K.RecordHandler.count (g.K.RecordHandler.known l.fn.progress l.fn.handler))
      (g.R.BufferedSource.left l.fn.recording) (g.R.BufferedSource.left l.recording)
      (g.K.RecordHandler.known l.fn.progress l.fn.handler) (g.K.RecordHandler.known l.progress l.handler) (g.K.RecordHandler.count (g.K.RecordHandler.known l.progress l.handler));
}

abbrev pub decreases-loop-ending : goal.decreases-loop-ending
decreases-loop-ending g l = 2 ^ 32 - g.K.RecordHandler.count (g.K.RecordHandler.known l.progress l.handler)
