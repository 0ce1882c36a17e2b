use Rattle.std.proofs.Common.{◌≡◌, ◌∙◌, refl, sym, true, rules}
use Rattle.std.specs.Prelude.{◌==◌}
use Rattle.std.proofs.KnownBytes.{Appends-nil}
use Rattle.tm_output.proofs.RowLemmas.{some_tabled, tabled_is}
use Rattle.tm_output.proofs.outlet.write_row.Goals as goal

pub returns-in-Err-clause-stopped : goal.returns-in-Err-clause-stopped
returns-in-Err-clause-stopped g c =
    let wanted : (c.args.packet.now.header.application == c.args.application) ≡ true = search rules in
    let row =
    tabled_is g.R.RowWriter.form (g.R.RowWriter.fields c.args.rows.now) c.args.application c.args.packet.now.seen c.args.packet.now.channel c.args.packet.now.first c.args.packet.now.place _ _ c.args.packet.now.octets.now (g.R.RowWriter.last c.write.new.self) c.args.packet.now.header
    c.requires.header wanted c.application.ensures.value c.count.ensures.value c.in-Ok.ensures.ok in
    (c.in-Err.ensures.counts, rw (c.row.ensures ∙ sym row) at c.in-Err.ensures.prefix)

pub returns-in-Err-NoMemory-clause-stopped : goal.returns-in-Err-NoMemory-clause-stopped
returns-in-Err-NoMemory-clause-stopped g c =
    let wanted : (c.args.packet.now.header.application == c.args.application) ≡ true = search rules in
    let some =
    some_tabled g.R.RowWriter.form (g.R.RowWriter.fields c.args.rows.now) c.args.application c.args.packet.now.seen c.args.packet.now.channel c.args.packet.now.first c.args.packet.now.place c.args.packet.now.octets.now c.args.packet.now.header
    c.requires.header wanted (λ less. cc (c.write.ensures.short less)) in
    (refl, some, refl, Appends-nil _)
