-- These records were passed over, and no call failed.
use Rattle.std.proofs.Common.{◌≡◌, length}
use Rattle.tm_tool.specs.code.RecordLoop.{HasPassed}
use Rattle.tm_tool.proofs.record_loop.skip_records.Given as goal

abbrev pub invariant-loop-passed : goal.invariant-loop-passed
invariant-loop-passed g l = record {
  exact : length l.buffer ≡ length l.fn.buffer;
  reads : g.R.BufferedSource.failures l.recording ≡ g.R.BufferedSource.failures l.fn.recording;
  passed : HasPassed (length l.fn.buffer) l._passed (g.R.BufferedSource.left l.fn.recording) (g.R.BufferedSource.left l.recording);
}
