use Rattle.std.proofs.Common.{ℕ, ◌<◌, refl, inl, inr, subst, rules, arith}
use Rattle.std.proofs.lemmas.Grind.{common_steps}
use Rattle.std.specs.Io.KnownBytes.{Appends}
use Rattle.std.proofs.KnownBytes.{Appends-nil, Appends-trans}
use Rattle.tm_tool.proofs.HeadedRuns.{head_stopped, head_took}
use Rattle.tm_tool.proofs.RunPieces.{ran_behind}
use Rattle.tm_tool.proofs.job.run_and_count.Goals as goal

pub returns-in-Ok : goal.returns-in-Ok
returns-in-Ok g c =
    let some = subst (λ (n : ℕ). 0 < n) c.job.invariant.exact c.job.invariant.some in
    record {
      sound = rw (← c.job.view_is) (c.job.invariant.going.1, some);
      same_out = search rules;
      same_report = search rules;
      ran = rw (← c.job.view_is, c.make_counted.ensures.records, c.make_counted.ensures.kept, c.make_counted.ensures.totals)
          (ran_behind Appends Appends-nil Appends-trans _ _ _ _ c.job.invariant.going.1 some _ _ _ _ _ _ _ _ _ _
          (head_took _ c.args.command c.job.inside.fresh c.in_default.ensures.whole) c.in-Ok.ensures.runs.0);
      fresh = search rules;
      flushed_out = search rules;
      flushed_report = search rules;
      stopped = tt;
      counts = search rules;
    }

pub returns-in-Err : goal.returns-in-Err
returns-in-Err g c =
    let some = subst (λ (n : ℕ). 0 < n) c.job.invariant.exact c.job.invariant.some in
    record {
      sound = rw (← c.job.view_is) (c.job.invariant.going.1, some);
      same_out = search rules;
      same_report = search rules;
      ran = tt;
      fresh = tt;
      flushed_out = tt;
      flushed_report = tt;
      stopped = rw (← c.job.view_is)
          (inl (record { some = c.in-Err.ensures.stopped.0; unread = refl; stopped = head_stopped _ c.args.command _ _ c.in-Err.ensures.stopped }));
      counts = grind (arith, common_steps);
    }

pub returns-in-Err-run_command : goal.returns-in-Err-run_command
returns-in-Err-run_command g c =
    let some = subst (λ (n : ℕ). 0 < n) c.job.invariant.exact c.job.invariant.some in
    record {
      sound = rw (← c.job.view_is) (c.job.invariant.going.1, some);
      same_out = search rules;
      same_report = search rules;
      ran = tt;
      fresh = tt;
      flushed_out = tt;
      flushed_report = tt;
      stopped = rw (← c.job.view_is)
          (inr (record { mid = _; headed = head_took _ c.args.command c.job.inside.fresh c.in_default.ensures.whole; stopped = c.in-Err-run_command.ensures.runs.0 }));
      counts = grind (arith, common_steps);
    }
