use Rattle.std.proofs.Common.{◌∙◌, ap, refl, rules, arith}
use Rattle.std.proofs.lemmas.Grind.{common_steps}
use Rattle.tm_checkpoint.specs.Works.{JobState}
use Rattle.tm_faults.specs.declared.run.RunFault.TheVariants.{Write}
use Rattle.tm_output.specs.Outputs.{octets_buffering}
use Rattle.tm_output.specs.Seen.{out_alone}
use Rattle.tm_output.proofs.LinePieces.{flush_stopped}
use Rattle.tm_tool.proofs.SummaryEnds.{lines_stopped, summed_up}
use Rattle.tm_tool.proofs.summary.sum_up.Goals as goal

pub returns-in-Err : goal.returns-in-Err
returns-in-Err g c =
    let begun = ap (λ (j : JobState). j.work.rules) (c.job.view_is ∙ c.in-Ok.ensures) in
    let sums = c.in-Err.ensures.sums (out_alone g.W.Drain c.args.out.now) in
    record { shown = tt; flushed = tt; same = refl; stopped = rw begun at sums.0; counts = sums.1 }

pub returns-in-Err-write_summary : goal.returns-in-Err-write_summary
returns-in-Err-write_summary g c =
    let begun = ap (λ (j : JobState). j.work) (c.job.view_is ∙ c.in-Ok.ensures) in
    record {
      shown = tt;
      flushed = tt;
      same = search rules;
      stopped = lines_stopped c.args.settings.now _ _ _ begun _ _ c.in-Ok-count_into.ensures.sums.0 _ c.channels-channels.ensures _ _ _ _ c.in-Err-write_summary.fault c.in-Err-write_summary.ensures.written;
      counts = grind (arith, common_steps);
    }

pub returns-in-Ok-flush : goal.returns-in-Ok-flush
returns-in-Ok-flush g c =
    let begun = ap (λ (j : JobState). j.work) (c.job.view_is ∙ c.in-Ok.ensures) in
    record {
      shown = summed_up c.args.settings.now _ _ _ begun _ _ c.in-Ok-count_into.ensures.sums.0 _ c.channels-channels.ensures _ _ _ _ _ c.in_default-write_summary.ensures.written c.flush.ensures.octets
          _ _ c.has_good_frame.ensures c.tells_loss.ensures;
      flushed = search rules;
      same = search rules;
      stopped = tt;
      counts = grind (arith, common_steps);
    }

pub returns : goal.returns
returns g c =
    let begun = ap (λ (j : JobState). j.work) (c.job.view_is ∙ c.in-Ok.ensures) in
    record {
      shown = tt;
      flushed = tt;
      same = search rules;
      stopped = lines_stopped c.args.settings.now _ _ _ begun _ _ c.in-Ok-count_into.ensures.sums.0 _ c.channels-channels.ensures _ _ _ _ Write
          (flush_stopped c.in_default-write_summary.ensures.written c.flush.ensures.octets octets_buffering refl c.in-Err-flush.ensures.counts);
      counts = grind (arith, common_steps);
    }
