use Rattle.tm_summary.specs.Lines.{loss_line}
use Rattle.tm_summary.proofs.lines.format_loss.Goals as goal

pub returns : goal.returns
unfolding loss_line
returns c = cc
