use Rattle.tm_reassembly.proofs.PartsInText.{holder-is, breaker-is}
use Rattle.tm_reassembly.proofs.Split.{holder-settled}
use Rattle.tm_reassembly.proofs.laws.part_ends.Goals as goal

pub returns : goal.returns
returns c = record { last_octet = holder-is; broken_off = breaker-is; own_frame = holder-settled }
