use Rattle.std.proofs.KnownBytes.{Appends-nil}
use Rattle.tm_output.proofs.RowLemmas.{others_none}
use Rattle.tm_output.proofs.outlet.PacketRowsOutlet.write_span.Goals as goal

pub returns-clause-whole : goal.returns-clause-whole
returns-clause-whole g c = rw (others_none _ _ _ _ c.requires.joined) (Appends-nil _)
