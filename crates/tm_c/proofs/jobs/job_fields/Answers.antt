use Rattle.std.proofs.Common.{sym, ap, ◌∙◌}
use Rattle.tm_handle.specs.declared.handle.Handle.{Handle}
use Rattle.tm_c.proofs.jobs.job_fields.Goals as goal
use Rattle.tm_c.proofs.jobs.job_fields.Goals.{in-Some, in-None}

pub returns-clause-taken : goal.returns-clause-taken
returns-clause-taken c = elim c.match-into_loose.branch [
  | in-Some w ↦
      let had = sym (ap (λ (h : Handle). h.job) c.replace.ensures.value) ∙ w.in-Some.ensures.0 in
      let has = ap (λ (h : Handle). h.job) w.handle-is ∙ w.of_loose.ensures.0 in
      rw had (w.fields_job.new.job, has, rw (w.answer-is, w.line-is, ← w.as_mut.ensures.value) w.fields_job.ensures)
  | in-None w ↦
      let had = sym (ap (λ (h : Handle). h.job) c.replace.ensures.value) ∙ w.in-None.ensures.0 in
      let has = ap (λ (h : Handle). h.job) (w.handle-is ∙ c.replace.ensures.after) ∙ c.empty.ensures.0 in
      rw had (has, w.answer-is ∙ w.no_fields.ensures.answer, rw w.line-is w.no_fields.ensures.line)
]
