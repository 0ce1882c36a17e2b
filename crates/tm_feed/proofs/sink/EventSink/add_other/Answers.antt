use Rattle.tm_items.specs.Sinks.{item_of}
use Rattle.tm_feed.proofs.SinkLemmas.{other_taken}
use Rattle.tm_feed.proofs.sink.EventSink.add_other.Goals as goal

pub returns-in-Ok-clause-taken : goal.returns-in-Ok-clause-taken
returns-in-Ok-clause-taken c = other_taken _ _ (item_of c.args.item) c.requires (rw c.other_event.ensures at c.in-Ok.ensures.put)
