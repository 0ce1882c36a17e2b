use Rattle.std.proofs.Common.{rules, arith}
use Rattle.tm_tool.proofs.RunPieces.{ran_split}
use Rattle.tm_tool.proofs.job.split_and_count.Goals as goal

pub returns-in-Ok : goal.returns-in-Ok
returns-in-Ok g c = record {
  sound = search rules;
  same_report = search rules;
  ran = grind (arith, ran_split);
  fresh = search rules;
  flushed_report = search rules;
  stopped = tt;
  counts = search rules;
}
