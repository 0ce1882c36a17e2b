use Rattle.std.proofs.Common.{List, arith, refl, sym, subst}
use Rattle.tm_items.specs.Item.{Item}
use Rattle.tm_items.specs.Giving.{Gives}
use Rattle.tm_items.specs.Sinks.{RefusesOne}
use Rattle.tm_items.proofs.Leads.{RefusesOne-left, gives_behind}
use Rattle.tm_reassembly.proofs.ReadField.{read_front}
use Rattle.tm_reassembly.proofs.packets.read_field.Goals as goal

pub overflow_add-end : goal.overflow_add-end
overflow_add-end g c =
    let read = read_front c.args.limit c.args.site.seen c.args.site.channel c.args.field.now c.args.place c.in-Ok.many _ c.requires.field.2 refl c.in-Ok.ensures.length in
    omega (arith, read.inside, c.requires.field.1)

pub give_unread-requires-clause-field : goal.give_unread-requires-clause-field
give_unread-requires-clause-field g c =
    let read = read_front c.args.limit c.args.site.seen c.args.site.channel c.args.field.now c.args.place c.in-Ok.many _ c.requires.field.2 refl c.in-Ok.ensures.length in
    (c.requires.field.0, c.requires.field.1, read.inside)

pub give_unread-requires-clause-none : goal.give_unread-requires-clause-none
give_unread-requires-clause-none g c =
    let read = read_front c.args.limit c.args.site.seen c.args.site.channel c.args.field.now c.args.place c.in-Ok.many _ c.requires.field.2 refl c.in-Ok.ensures.length in
    read.none

pub returns-in-Ok-clause-given : goal.returns-in-Ok-clause-given
returns-in-Ok-clause-given g c =
    let read = read_front c.args.limit c.args.site.seen c.args.site.channel c.args.field.now c.args.place c.in-Ok.many _ c.requires.field.2 refl c.in-Ok.ensures.length in
    subst (λ (xs : List Item). Gives g.S.Sink c.args.sink.now c.give_unread.new.sink xs c.give_unread.result) (sym read.items)
    (gives_behind g.S.Sink _ _ _ _ _ c.give_unread.result c.in-Ok.ensures.accepted c.give_unread.ensures.given)

pub returns-in-Ok-clause-left : goal.returns-in-Ok-clause-left
returns-in-Ok-clause-left g c =
    let read = read_front c.args.limit c.args.site.seen c.args.site.channel c.args.field.now c.args.place c.in-Ok.many _ c.requires.field.2 refl c.in-Ok.ensures.length in
    rw read.left at c.give_unread.ensures.left

pub returns-in-Err-clause-given : goal.returns-in-Err-clause-given
returns-in-Err-clause-given g c =
    let read = read_front c.args.limit c.args.site.seen c.args.site.channel c.args.field.now c.args.place _ _ c.requires.field.2 refl refl in
    subst (λ (xs : List Item). RefusesOne g.S.Sink.takes g.S.Sink.refuses (g.S.Sink.known c.args.sink.now) xs c.in-Err.fault (g.S.Sink.known c.take_front.new.self))
    (sym read.items) (RefusesOne-left g.S.Sink.takes g.S.Sink.refuses _ _ _ _ _ c.in-Err.ensures.refused)
