use Rattle.tm_summary.specs.Lines.{channel_line}
use Rattle.tm_summary.proofs.lines.format_channel.Goals as goal

pub returns : goal.returns
unfolding channel_line
returns c = cc
