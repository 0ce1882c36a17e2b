use Rattle.std.proofs.Common.{◌∙◌, inr, refl}
use Rattle.std.proofs.KnownBytes.{Appends-nil}
use Rattle.tm_output.proofs.PacketLemmas.{none_both}
use Rattle.tm_output.proofs.PieceLemmas.{no_room, stopped_put}
use Rattle.tm_output.proofs.TotalsLemmas.{reported_counted}
use Rattle.tm_output.proofs.output.Output.write_reported.Goals as goal

pub returns-in_default-clause-written : goal.returns-in_default-clause-written
returns-in_default-clause-written g c =
    no_room g.O.Outlet.grows g.met.O.Outlet.grows_nil g.met.O.Outlet.grows_trans _ _ _ _ (g.met.O.Outlet.grows_nil _, Appends-nil _) (refl, refl)
    (inr (λ none. c.in_default.ensures.memory (none_both _ _ none).0))

pub returns-in_default-remark-clause-written : goal.returns-in_default-remark-clause-written
returns-in_default-remark-clause-written g c =
    no_room g.O.Outlet.grows g.met.O.Outlet.grows_nil g.met.O.Outlet.grows_trans _ _ _ _ (g.met.O.Outlet.grows_nil _, Appends-nil _) (refl, refl)
    (inr (λ none. c.in_default-remark.ensures.memory (none_both _ _ none).1))

pub returns-in-Err-clause-written : goal.returns-in-Err-clause-written
returns-in-Err-clause-written g c =
    stopped_put g.O.Outlet.grows g.met.O.Outlet.grows_nil g.met.O.Outlet.grows_trans g.O.Outlet.buffering _ _ _ c.in-Err.fault c.in-Err.ensures.stopped (Appends-nil _) refl

pub returns-clause-counted : goal.returns-clause-counted
returns-clause-counted g c =
    let packet = c.args.packet.now in
    c.add_packet.ensures
    ∙ reported_counted _ c.args.self.now.tracker.now _ packet.seen packet.channel packet.first packet.place packet.octets.now _ _ _
    c.gives-given.ensures c.in-Ok-remark.ensures.said c.in-Ok.ensures.lost
