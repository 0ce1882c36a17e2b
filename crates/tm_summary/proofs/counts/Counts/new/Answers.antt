use Rattle.std.proofs.Common.{ap, length, refl, ◌∙◌}
use Rattle.tm_summary.proofs.Tables.{length-no_applications}
use Rattle.tm_summary.proofs.WithOne.{nothing_counted}
use Rattle.tm_summary.proofs.counts.Counts.new.Goals as goal

pub returns : goal.returns
returns c = nothing_counted _ _ c.none.ensures c.in_ok-applications.ensures

pub invariant_of-result : goal.invariant_of-result
invariant_of-result c = (refl, refl, ap length c.in_ok-applications.ensures ∙ length-no_applications)
