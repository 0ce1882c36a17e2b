use Rattle.std.proofs.Common.{◌≡◌, ◌∙◌, arith}
use Rattle.tm_summary.proofs.WritingLemmas.{fault_lines_of, faults_shown, place_more, place_stopped}
use Rattle.tm_summary.proofs.writing.write_faults.Goals as goal

pub loop-place-preserved : goal.loop-place-preserved
loop-place-preserved g c =
    place_more fault_lines_of c.args.faults.now 0 c.loop-place.place (omega arith) _
    c.loop-place.invariant (c.in_default.ensures.same ∙ c.loop-place.invariant.0) c.in_default.ensures.written

pub returns-in-Err-clause-written : goal.returns-in-Err-clause-written
returns-in-Err-clause-written g c =
    rw (faults_shown c.args.faults.now) (place_stopped fault_lines_of c.args.faults.now 0 c.loop-place.place (omega arith) _
    c.loop-place.invariant 8 (omega arith) c.in-Err.ensures.written)

pub returns-clause-written : goal.returns-clause-written
returns-clause-written g c =
    let all : c.loop-place.place ≡ 8 = omega arith in
    rw (faults_shown c.args.faults.now) (rw all at c.loop-place.invariant.1)
