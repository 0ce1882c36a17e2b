use Rattle.std.proofs.Common.{inl, inr, refl, ap, ◌∙◌}
use Rattle.tm_handle.specs.declared.handle.Handle.{Handle}
use Rattle.tm_c.specs.Jobs.{opened_with}
use Rattle.tm_c.proofs.jobs.job_open.Goals as goal
use Rattle.tm_c.proofs.jobs.job_open.Goals.{in-Ok, in-Err}

pub returns-clause-opened : goal.returns-clause-opened
returns-clause-opened c = elim c.match-make_job.branch [
  | in-Ok w ↦
      let kept = ap (λ (h : Handle). h.job) w.handle-is ∙ w.of.ensures in
      let told = w.answer-is ∙ w.opened_with.ensures ∙ ap opened_with (w.records-records.ensures ∙ ap (λ j. j.work.state.records) w.deref.ensures) in
      inl (w.in-Ok.job.value, w.in-Ok.ensures.ok, kept, told, (refl, rw w.line-is w.write_text.ensures.1))
  | in-Err w ↦
      let kept = ap (λ (h : Handle). h.job) w.handle-is in
      inr (kept, (w.in-Err.refusal, w.in-Err.ensures.refused, rw (w.line-is, w.answer-is) w.tell.ensures))
]
