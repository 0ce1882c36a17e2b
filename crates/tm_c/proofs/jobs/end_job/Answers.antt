use Rattle.std.proofs.Common.{refl, ap, ◌∙◌}
use Rattle.tm_feed.specs.declared.job.Fed.{Fed}
use Rattle.tm_c.specs.Jobs.{progress_of}
use Rattle.tm_c.proofs.jobs.end_job.Goals as goal

pub returns : goal.returns
returns c =
    let end = c.end-given in
    let did : Fed = record { used = 0; events = end.result.0; octets = 0; stop = end.result.1 } in
    let told = c.progress_of.ensures ∙ ap (progress_of did) c.records.ensures in
    (did, refl, refl, told, end.ensures.gave, end.ensures.stopped)
