use Rattle.std.proofs.Common.{arith, refl, inl}
use Rattle.tm_items.proofs.Leads.{leads_take}
use Rattle.tm_items.proofs.Fronts.{front-next}
use Rattle.tm_items.proofs.sink.Sink.take_front.Goals as goal

pub slice_bounds-packet-end : goal.slice_bounds-packet-end
slice_bounds-packet-end g c =
    let s = c.args.span in
    let next = front-next c.args.limit s.seen s.channel s.place c.loop-header.at _ s.octets.now _ c.in-Some.header refl c.loop-header.invariant.2 c.in-Some.ensures c.length-length.ensures in
    next.whole

pub take-requires : goal.take-requires
take-requires g c =
    let s = c.args.span in
    let next = front-next c.args.limit s.seen s.channel s.place c.loop-header.at _ s.octets.now _ c.in-Some.header refl c.loop-header.invariant.2 c.in-Some.ensures c.length-length.ensures in
    record { fits = (c.requires.channel, next.one) }

pub returns-in-Err-clause-refused : goal.returns-in-Err-clause-refused
returns-in-Err-clause-refused g c =
    let s = c.args.span in
    let next = front-next c.args.limit s.seen s.channel s.place c.loop-header.at _ s.octets.now _ c.in-Some.header refl c.loop-header.invariant.2 c.in-Some.ensures c.length-length.ensures in
    c.loop-header.invariant.0.refused _ _ (rw next.items (inl c.in-Err.ensures.refused))

pub loop-header-preserved : goal.loop-header-preserved
loop-header-preserved g c =
    let s = c.args.span in
    let next = front-next c.args.limit s.seen s.channel s.place c.loop-header.at _ s.octets.now _ c.in-Some.header refl c.loop-header.invariant.2 c.in-Some.ensures c.length-length.ensures in
    (leads_take c.loop-header.invariant.0 _ _ _ next.items c.in_default-take.ensures.accepted, omega (arith, next.longer, c.loop-header.invariant.1), next.inside)
