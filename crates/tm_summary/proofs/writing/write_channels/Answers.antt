use Rattle.std.proofs.Common.{◌≡◌, ◌∙◌, arith}
use Rattle.tm_summary.specs.Adding.{no_channel}
use Rattle.tm_summary.specs.Lines.{channel_lines, channel_lines_of}
use Rattle.tm_summary.proofs.WritingLemmas.{place_more, place_stopped}
use Rattle.tm_summary.proofs.writing.write_channels.Goals as goal

pub loop-channel-preserved : goal.loop-channel-preserved
loop-channel-preserved g c =
    place_more (channel_lines_of c.args.chosen.now) c.args.channels.now no_channel c.loop-channel.channel (omega arith) _
    c.loop-channel.invariant (c.in_default.ensures.same ∙ c.loop-channel.invariant.0) c.in_default.ensures.written

pub returns-in-Err-clause-written : goal.returns-in-Err-clause-written
unfolding channel_lines
returns-in-Err-clause-written g c =
    place_stopped (channel_lines_of c.args.chosen.now) c.args.channels.now no_channel c.loop-channel.channel (omega arith) _
    c.loop-channel.invariant 8 (omega arith) c.in-Err.ensures.written

pub returns-clause-written : goal.returns-clause-written
unfolding channel_lines
returns-clause-written g c =
    let all : c.loop-channel.channel ≡ 8 = omega arith in
    rw all at c.loop-channel.invariant.1
