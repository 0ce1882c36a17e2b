use Rattle.std.proofs.Common.{◌≡◌, ◌∙◌, arith}
use Rattle.tm_summary.specs.Adding.{no_loss}
use Rattle.tm_summary.proofs.WritingLemmas.{loss_lines_of, losses_shown, place_more, place_stopped}
use Rattle.tm_summary.proofs.writing.write_losses.Goals as goal

pub loop-place-preserved : goal.loop-place-preserved
loop-place-preserved g c =
    place_more (loss_lines_of c.args.channel) c.args.losses.now no_loss c.loop-place.place (omega arith) _
    c.loop-place.invariant (c.in_default.ensures.same ∙ c.loop-place.invariant.0) c.in_default.ensures.written

pub returns-in-Err-clause-written : goal.returns-in-Err-clause-written
returns-in-Err-clause-written g c =
    rw (losses_shown c.args.channel c.args.losses.now) (place_stopped (loss_lines_of c.args.channel) c.args.losses.now no_loss c.loop-place.place (omega arith) _
    c.loop-place.invariant 7 (omega arith) c.in-Err.ensures.written)

pub returns-clause-written : goal.returns-clause-written
returns-clause-written g c =
    let all : c.loop-place.place ≡ 7 = omega arith in
    rw (losses_shown c.args.channel c.args.losses.now) (rw all at c.loop-place.invariant.1)
