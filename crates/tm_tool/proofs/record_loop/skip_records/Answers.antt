use Rattle.std.proofs.Common.{◌≡◌, ◌+◌, length, take, refl, ap, ◌∙◌, arith, take_all, length-take-le}
use Rattle.tm_devices.specs.Devices.{raised}
use Rattle.tm_tool.proofs.Passing.{passing_first, passing_more, passing_fails, passing_ends}
use Rattle.tm_tool.proofs.record_loop.skip_records.Goals as goal

pub loop-passed-init : goal.loop-passed-init
loop-passed-init g c =
    let (same, reads) = c.in_ok-pass_at_once.ensures.left c.if-branch.false in
    record { exact = refl; reads = reads; passed = rw same (passing_first _ _) }

pub returns-in_default : goal.returns-in_default
returns-in_default g c =
    let inv = c.loop-passed.invariant in
    let (part, got, short) = c.in_default.ensures.part in (
      passing_fails _ _ _ _ _ part inv.passed got c.args.count (omega arith) (omega (arith, short, inv.exact)),
      c.in_default.ensures.counts ∙ ap raised inv.reads,
    )

pub returns-then-octets-buffer : goal.returns-then-octets-buffer
returns-then-octets-buffer g c =
    let inv = c.loop-passed.invariant in
    let size : length (take c.in-Ok.octets c.fill.new.buffer) ≡ c.in-Ok.octets = length-take-le c.in-Ok.octets c.fill.new.buffer c.in-Ok.ensures.bound in (
      passing_ends _ _ _ _ _ _ inv.passed c.in-Ok.ensures.octets c.args.count (omega arith)
          (omega (arith, size, inv.exact)) (c.in-Ok.ensures.end (omega arith)),
      c.in-Ok.ensures.counts ∙ inv.reads,
    )

pub loop-passed-preserved : goal.loop-passed-preserved
loop-passed-preserved g c =
    let inv = c.loop-passed.invariant in
    let got = rw (take_all c.in-Ok.octets c.fill.new.buffer (omega arith)) at c.in-Ok.ensures.octets in
    let passed = passing_more _ _ _ _ _ c.fill.new.buffer inv.passed got (c.loop-passed._passed + 1) refl (omega (arith, inv.exact)) in
    record { exact = omega (arith, inv.exact); reads = c.in-Ok.ensures.counts ∙ inv.reads; passed = passed }
