use Rattle.std.proofs.Common.{◌≡◌, length, rules}
use Rattle.tm_frame.specs.Layout.{record_length_of}
use Rattle.tm_tool.specs.code.Extractors.{work_in}
use Rattle.tm_tool.proofs.SummaryEnds.{counting_stopped}
use Rattle.tm_tool.proofs.summary.count_into.Goals as goal

pub returns-in-Err : goal.returns-in-Err
returns-in-Err g c =
    let exact : length c.as_mut_slice.result.now ≡ record_length_of c.args.extractor.now.reassembly.rules.layout = search rules in
    record { sums = counting_stopped (work_in c.args.extractor.now) _ _ _ _ _ _ c.in-Err.fault c.requires.first (rw exact at c.in-Err.ensures.stopped) }
