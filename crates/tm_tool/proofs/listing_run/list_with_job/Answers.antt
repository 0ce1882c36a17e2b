use Rattle.std.proofs.Common.{ℕ, ◌<◌, subst, rules}
use Rattle.std.specs.Io.KnownBytes.{Appends}
use Rattle.std.proofs.KnownBytes.{Appends-nil, Appends-trans}
use Rattle.tm_output.proofs.PieceLemmas.{took_none}
use Rattle.tm_tool.proofs.RunPieces.{ran_behind}
use Rattle.tm_tool.proofs.listing_run.list_with_job.Goals as goal

pub returns-in-Ok-clause-lists : goal.returns-in-Ok-clause-lists
returns-in-Ok-clause-lists g c =
    let some = subst (λ (n : ℕ). 0 < n) c.job.invariant.exact c.job.invariant.some in
    let both = c.in-Ok.ensures.runs in
    record {
      sound = rw (← c.job.view_is) (c.job.invariant.going.1, some);
      listed = rw (← c.job.view_is, c.make_counted.ensures.records) both.lines;
      ran = rw (← c.job.view_is, c.make_counted.ensures.records, c.make_counted.ensures.kept, c.make_counted.ensures.totals)
          (ran_behind Appends Appends-nil Appends-trans _ _ _ _ c.job.invariant.going.1 some _ _ _ _ _ _ _ _ _ _ (took_none Appends Appends-nil Appends-trans _) both.run);
      fresh = search rules;
      stopped = tt;
      counts = (both.same, both.counts);
    }
