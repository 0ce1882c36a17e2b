use Rattle.std.proofs.Common.{refl}
use Rattle.tm_output.specs.Outputs.{octets_buffering}
use Rattle.tm_output.proofs.LinePieces.{flush_stopped}
use Rattle.tm_tool.proofs.listing.ListingRecordHandler.flush_all.Goals as goal

pub returns-in-Err-clause-refused : goal.returns-in-Err-clause-refused
returns-in-Err-clause-refused g c = λ before one took. flush_stopped took.1 c.in-Err.ensures.octets octets_buffering refl c.in-Err.ensures.counts
