use Rattle.std.proofs.Common.{◌≡◌, ◌∙◌, inl, refl}
use Rattle.tm_output.specs.Outputs.{octets_buffering}
use Rattle.tm_output.proofs.LinePieces.{line_stopped}
use Rattle.tm_tool.specs.Listing.{record_line}
use Rattle.tm_tool.proofs.listing_run.ListingRunRecordHandler.handle_record.Goals as goal

pub returns-in-Err-write_all-clause-refused : goal.returns-in-Err-write_all-clause-refused
unfolding record_line
returns-in-Err-write_all-clause-refused g c =
    let line : c.as_slice.result.now ≡ record_line c.args.progress.now.rules.layout c.args.progress.now.state.records c.args.octets.now =
    c.as_slice.ensures ∙ c.make_reading_line-good.ensures.line ∙ rw (c.records.ensures, c.read-reading.ensures) refl in
    inl (line_stopped _ {buffering = octets_buffering} (rw line at c.in-Err-write_all.ensures.prefix) c.in-Err-write_all.ensures.counts)
