use Rattle.std.proofs.Common.{refl, rules, ◌∙◌}
use Rattle.tm_output.specs.Outputs.{Took, line_pieces, octets_buffering}
use Rattle.std.specs.Io.KnownBytes.{Appends}
use Rattle.tm_tool.specs.Listing.{end_lines}
use Rattle.tm_output.specs.Seen.{out_alone}
use Rattle.tm_output.proofs.LinePieces.{flush_stopped_by, line_stopped}
use Rattle.tm_tool.proofs.listing.write_end_line.Goals as goal

pub returns-in_err-write_all-clause-stopped : goal.returns-in_err-write_all-clause-stopped
returns-in_err-write_all-clause-stopped g c =
    let line = c.as_slice.ensures ∙ c.format_short.ensures in
    let stopped = line_stopped _ {buffering = octets_buffering} (rw line at c.in_err-write_all.ensures.prefix) c.in_err-write_all.ensures.counts in
    search (rules, stopped)

pub returns-clause-stopped : goal.returns-clause-stopped
returns-clause-stopped g c =
    let mid : Took Appends (out_alone g.W.Drain c.args.out.now) (out_alone g.W.Drain c.match-ending.out) (line_pieces (end_lines c.args.ending c.args.seen c.args.octets)) = search rules in
    flush_stopped_by _ _ mid c.flush.ensures.octets octets_buffering refl c.flush.result c.flush.ensures.counts
