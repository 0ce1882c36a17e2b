use Rattle.std.proofs.Common.{arith, rules}
use Rattle.tm_tool.proofs.ListingLemmas.{lists_whole}
use Rattle.tm_tool.proofs.listing.list_recording.Goals as goal

pub returns : goal.returns
returns g c =
    let told = lists_whole _ _ _ (grind (arith, c.layout.type_inv)) _ _ _ _ _ _ _ c.list_all.ensures.runs in
    record {
      shown = rw (← c.layout.ensures) told.0;
      flushed = search rules;
      same = search rules;
      stopped = rw (← c.layout.ensures) told.1;
      counts = told.2;
    }
