use Rattle.tm_summary.specs.Lines.{application_line}
use Rattle.tm_summary.proofs.lines.format_application.Goals as goal

pub returns : goal.returns
unfolding application_line
returns c = cc
