use Rattle.tm_summary.proofs.Summed.{faults_added, lost_added, octets_added, packets_added, parts_added}
use Rattle.tm_summary.proofs.laws.sums.Goals as goal

pub returns : goal.returns
returns c = record { faults = faults_added; parts = parts_added; lost = lost_added; packets = packets_added; octets = octets_added }
