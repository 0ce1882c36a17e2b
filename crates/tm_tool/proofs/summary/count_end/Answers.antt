use Rattle.std.proofs.Common.{◌∙◌}
use Rattle.tm_summary.proofs.Taken.{took_tally}
use Rattle.tm_checkpoint.specs.Works.{work_of}
use Rattle.tm_tool.proofs.SummaryEnds.{end_counted, end_taken}
use Rattle.tm_tool.proofs.summary.count_end.Goals as goal

pub unreachable-requires : goal.unreachable-requires
unreachable-requires c = end_taken c.args.reassembly.now _ _ _ _ c.requires.going c.in-Err.ensures.refused

pub returns-clause-same : goal.returns-clause-same
returns-clause-same c =
    let all = took_tally _ _ _ c.in-Ok.ensures.accepted in
    (c.add_open.ensures.same.0 ∙ all.same_tracker, c.add_open.ensures.same.1 ∙ all.same_counts)

pub returns-clause-counted : goal.returns-clause-counted
returns-clause-counted c =
    let all = took_tally _ _ _ c.in-Ok.ensures.accepted in
    end_counted (work_of c.args.reassembly.now c.args.counting.now.tracker.now) _ _ _ _ c.args.rest all.fit all.noted_is all.counted_is c.add_open.ensures.counted
