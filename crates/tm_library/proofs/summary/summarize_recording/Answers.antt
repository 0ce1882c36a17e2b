use Rattle.std.proofs.Common.{◌<◌, arith, Some}
use Rattle.tm_frame.specs.Layout.{record_length_of}
use Rattle.tm_frame.specs.Rules.{Rules}
use Rattle.tm_output.proofs.RecordLemmas.{records_counted}
use Rattle.tm_tool.proofs.SummaryEnds.{stop_told}
use Rattle.tm_library.proofs.RefusalLemmas.{refused_by}
use Rattle.tm_library.proofs.summary.summarize_recording.Goals as goal

pub returns-clause-refused : goal.returns-clause-refused
returns-clause-refused c =
    let rules : Rules = c.args.settings.now in
    let octets = c.args.octets.now in
    let some : 0 < record_length_of rules.layout =
    rw (← c.layout.ensures, ← c.record_length.ensures.value) (omega (arith, c.record_length.ensures.some)) in
    let told = stop_told rules some (Some octets) _ _ _ c.in-Err.fault c.in-Err.ensures.stopped in
    rw c.into.ensures (refused_by rules octets c.in-Err.fault (λ e. omega (arith, told.too_many e, records_counted (record_length_of rules.layout) some octets)))
