use Rattle.tm_summary.specs.Lines.{recording_line}
use Rattle.tm_summary.proofs.lines.format_recording.Goals as goal

pub returns : goal.returns
unfolding recording_line
returns c = cc
