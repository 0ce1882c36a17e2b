use Rattle.tm_reassembly.proofs.OneHeld.{one-held}
use Rattle.tm_reassembly.proofs.OneOpen.{one-open}
use Rattle.tm_reassembly.proofs.laws.at_most_one.Goals as goal

pub returns : goal.returns
returns c = record { open_starts = one-open; held_tails = one-held }
