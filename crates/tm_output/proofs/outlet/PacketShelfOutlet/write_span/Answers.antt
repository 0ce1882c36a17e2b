use Rattle.tm_output.specs.code.ShelfLaws.{shelves_nil}
use Rattle.tm_output.proofs.SpanLemmas.{none_joined}
use Rattle.tm_output.proofs.outlet.PacketShelfOutlet.write_span.Goals as goal

pub returns-clause-whole : goal.returns-clause-whole
returns-clause-whole g c = rw (none_joined _ c.requires.joined) (shelves_nil _)
