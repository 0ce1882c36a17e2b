use Rattle.tm_summary.proofs.WithOne.{frame_counted, item_counted, note_counted}
use Rattle.tm_summary.proofs.laws.counting.Goals as goal

pub returns : goal.returns
returns c = record { frame = frame_counted; item = item_counted; note = note_counted }
