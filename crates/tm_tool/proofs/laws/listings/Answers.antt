use Rattle.tm_tool.proofs.ListingLemmas.{listed_told, stop_told}
use Rattle.tm_tool.proofs.laws.listings.Goals as goal

pub returns : goal.returns
returns c = record { listed = listed_told; stopped = stop_told }
