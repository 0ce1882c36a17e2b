use Rattle.tm_reassembly.proofs.Settled.{own-long-settled}
use Rattle.tm_reassembly.proofs.Extension.{at-once-settled, runs-grow, verdicts-stay}
use Rattle.tm_reassembly.proofs.laws.settled_verdict.Goals as goal

pub returns : goal.returns
returns c = record { runs_grow = runs-grow; later_frame = verdicts-stay; own_frame = at-once-settled; own_long = own-long-settled }
