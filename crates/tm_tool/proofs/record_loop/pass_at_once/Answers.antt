use Rattle.std.proofs.Common.{◌*◌, ap, ◌∙◌, arith}
use Rattle.tm_tool.proofs.Passing.{passed_over, passing_refused}
use Rattle.tm_tool.proofs.record_loop.pass_at_once.Goals as goal

pub returns-in-Ok-clause-passed : goal.returns-in-Ok-clause-passed
returns-in-Ok-clause-passed g c is =
    let (octets, long, got) = rw is at c.in-Ok.ensures.octets in
    (passed_over _ _ _ _ octets (long ∙ c.in-Some.ensures.1 ∙ ap (λ n. n * c.args.size) c.from.ensures) got, c.in-Ok.ensures.counts)

pub returns-in-Err-clause-failed : goal.returns-in-Err-clause-failed
returns-in-Err-clause-failed g c =
    (passing_refused _ _ _ _ c.requires.some (omega (arith, c.if-count-eq0.false)) c.in-Err.ensures.octets, c.in-Err.ensures.counts)
