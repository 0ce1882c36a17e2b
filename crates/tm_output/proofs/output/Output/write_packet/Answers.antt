use Rattle.std.proofs.Common.{◌∙◌, refl}
use Rattle.std.proofs.KnownBytes.{Appends-nil}
use Rattle.tm_output.proofs.PieceLemmas.{stopped_put, took_piece}
use Rattle.tm_output.proofs.TotalsLemmas.{quiet_counted}
use Rattle.tm_output.proofs.output.Output.write_packet.Goals as goal

pub returns-in-Err-clause-written : goal.returns-in-Err-clause-written
returns-in-Err-clause-written g c =
    stopped_put g.O.Outlet.grows g.met.O.Outlet.grows_nil g.met.O.Outlet.grows_trans g.O.Outlet.buffering _ _ _ c.in-Err.fault c.in-Err.ensures.stopped (Appends-nil _) refl

pub returns-clause-written : goal.returns-clause-written
returns-clause-written g c =
    let none = c.note_if_quiet.ensures.quiet c.if-not-note_if_quiet.false in
    let whole = c.in_default.ensures.whole in
    took_piece g.O.Outlet.grows _ _ _ whole.0 (rw none (Appends-nil _)) (whole.1, refl)

pub returns-clause-counted : goal.returns-clause-counted
returns-clause-counted g c =
    let packet = c.args.packet.now in
    c.add_quiet.ensures
    ∙ quiet_counted _ c.args.self.now.tracker.now _ packet.seen packet.channel packet.first packet.place packet.octets.now _
    (c.note_if_quiet.ensures.quiet c.if-not-note_if_quiet.false) c.gives-given.ensures
