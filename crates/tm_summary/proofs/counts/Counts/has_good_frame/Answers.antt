use Rattle.std.proofs.Common.{◌≡◌, arith}
use Rattle.tm_summary.proofs.counts.Counts.has_good_frame.Goals as goal

pub returns : goal.returns
returns c =
    let all : c.loop-channel.channel ≡ 8 = omega arith in
    rw all at c.loop-channel.invariant
