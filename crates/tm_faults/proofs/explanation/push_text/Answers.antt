use Rattle.tm_faults.proofs.ShownText.{shown_by_characters, shown_by_octets}
use Rattle.tm_faults.proofs.explanation.push_text.Goals as goal

pub returns-in-Ok : goal.returns-in-Ok
returns-in-Ok c = rw (shown_by_characters _ _ c.in-Ok.ensures.cases.0 c.in-Ok.ensures.cases.1) at c.push_characters.ensures

pub returns-in-Err : goal.returns-in-Err
returns-in-Err c = rw (shown_by_octets _ c.in-Err.ensures.cases.0) at c.push_escaped.ensures.appended
