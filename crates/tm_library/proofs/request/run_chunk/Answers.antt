use Rattle.std.proofs.Common.{◌≡◌, ap, nat_lt}
use Rattle.std.proofs.lemmas.Result.{err_from_is_err_and}
use Rattle.tm_output.specs.declared.totals.Totals.{Totals}
use Rattle.tm_library.specs.Chunks.{size_of}
use Rattle.tm_library.proofs.ChunkLemmas.{has_rules}
use Rattle.tm_library.proofs.RefusalLemmas.{run_told}
use Rattle.tm_library.proofs.request.run_chunk.Goals as goal

pub give-requires : goal.give-requires
give-requires c =
    rw (has_rules c.args.settings.now c.args.request.checkpoint.now c.in_ok-job.job c.in_ok-job.ensures.ok.1) c.layout-layout.ensures

pub returns-in-Err-clause-refused : goal.returns-in-Err-clause-refused
returns-in-Err-clause-refused c =
    run_told c.args.settings.now c.args.request.checkpoint.now c.args.request.octets.now c.in_ok-job.job c.in-Err.refusal
    c.in_ok-job.ensures.ok c.in-Err.ensures.refused

pub returns-clause-answer : goal.returns-clause-answer
returns-clause-answer c =
    let job = c.in_ok-job in
    let rules = has_rules c.args.settings.now c.args.request.checkpoint.now job.job job.ensures.ok.1 in
    let size : c.record_length-size.result ≡ size_of job.job.work = rw (rules, ← c.layout-layout.ensures) c.record_length-size.ensures.value in
    let kept = rw c.in-Ok.ensures.kept at c.in_ok-keep.ensures.octets in
    let used = rw size at c.used_octets.ensures.value in
    let good = ap (λ (t : Totals). nat_lt 0 t.good) c.in-Ok.ensures.totals in
    let lost = ap (λ (t : Totals). t.has_losses) c.in-Ok.ensures.totals in
    (job.job, job.ensures.ok, assumption (kept, used, good, lost, c.in-Ok.ensures))

pub returns-in_err-job-clause-refused : goal.returns-in_err-job-clause-refused
returns-in_err-job-clause-refused c =
    let p = err_from_is_err_and c.from_residual.result c.from_residual.ensures.1 in
    rw (p.1, p.2) (c.in_err-job.ensures.refused c.args.request.octets.now)
