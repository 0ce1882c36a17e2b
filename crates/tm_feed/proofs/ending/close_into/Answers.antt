use Rattle.std.proofs.Common.{refl}
use Rattle.tm_reassembly.specs.Items.{closing}
use Rattle.tm_feed.specs.code.Sinking.{sink_state}
use Rattle.tm_feed.proofs.EndLemmas.{closing_taken}
use Rattle.tm_feed.proofs.TakeLemmas.{all_taken}
use Rattle.tm_feed.proofs.ending.close_into.Goals as goal

pub unreachable-requires : goal.unreachable-requires
unreachable-requires c =
    closing_taken c.args.reassembly.now c.requires.going c.args.rest (sink_state c.args.sink.now) c.requires.empty c.requires.none c.requires.room sink_state
    c.args.sink.now c.close.new.sink c.in-Err.field-0 refl c.in-Err.ensures.refused

pub returns : goal.returns
returns c =
    all_taken (sink_state c.args.sink.now) (sink_state c.close.new.sink) (closing c.args.reassembly.now.state c.args.rest) c.in-Ok.ensures.accepted
