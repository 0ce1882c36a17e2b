use Rattle.std.proofs.Common.{◌≡◌, ◌∙◌, arith}
use Rattle.tm_summary.specs.Adding.{no_application}
use Rattle.tm_summary.proofs.WritingLemmas.{application_lines_of, applications_shown, place_more, place_stopped}
use Rattle.tm_summary.proofs.writing.write_applications.Goals as goal

pub loop-key-preserved : goal.loop-key-preserved
loop-key-preserved g c =
    place_more application_lines_of c.args.applications.now no_application c.loop-key.key (omega arith) _
    c.loop-key.invariant (c.in_default.ensures.same ∙ c.loop-key.invariant.0) c.in_default.ensures.written

pub returns-in-Err-clause-written : goal.returns-in-Err-clause-written
returns-in-Err-clause-written g c =
    rw (applications_shown c.args.applications.now) (place_stopped application_lines_of c.args.applications.now no_application c.loop-key.key (omega arith) _
    c.loop-key.invariant 16384 (omega arith) c.in-Err.ensures.written)

pub returns-clause-written : goal.returns-clause-written
returns-clause-written g c =
    let all : c.loop-key.key ≡ 16384 = omega arith in
    rw (applications_shown c.args.applications.now) (rw all at c.loop-key.invariant.1)
