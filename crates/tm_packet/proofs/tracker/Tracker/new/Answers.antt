use Rattle.tm_packet.proofs.States.{valid_empty}
use Rattle.tm_packet.proofs.tracker.Tracker.new.Goals as goal

-- src/tracker.rt:89:26
pub invariant_of-result : goal.invariant_of-result
invariant_of-result c = valid_empty _ c.in-Ok.ensures
