use Rattle.std.proofs.Common.{◌∙◌, List, Ok, Err, refl, sym, ap, subst, arith}
use Rattle.tm_items.specs.Item.{Item}
use Rattle.tm_frame.specs.Rules.{chooses}
use Rattle.tm_items.specs.Sinks.{TakesAll, RefusesOne}
use Rattle.tm_reassembly.proofs.OneRecord.{open_slot, items_slot, after_slot, items_good, items_unchosen, after_unchosen, limit_slot, items_bad_record, after_bad_record, refused_bad_record, chosen_as}
use Rattle.tm_items.proofs.Leads.{RefusesOne-left, gives_behind}
use Rattle.tm_reassembly.proofs.reassembly.add_record.Goals as goal

pub add_frame-requires-clause-open : goal.add_frame-requires-clause-open
add_frame-requires-clause-open g c = open_slot c.args.rules.now c.args.seen c.args.master.now c.args.states.now c.requires.state c.requires.limit _ _ (omega arith)

pub returns-in-Err-give_master_gap-clause-given : goal.returns-in-Err-give_master_gap-clause-given
returns-in-Err-give_master_gap-clause-given g c = λ octets reads.
    let e = reads ∙ c.in-Ok.is in
    let r = items_good c.args.rules.now c.args.seen c.args.master.now c.args.states.now c.requires.state c.requires.limit octets c.in-Ok.frame e c.master_count-count.result c.master_count-count.ensures in
    subst (λ (xs : List Item). RefusesOne g.S.Sink.takes g.S.Sink.refuses (g.S.Sink.known c.args.sink.now) xs c.in-Err-give_master_gap.fault (g.S.Sink.known c.give_master_gap.new.sink)) r.1
    (RefusesOne-left g.S.Sink.takes g.S.Sink.refuses _ _ _ r.0 _ c.in-Err-give_master_gap.ensures.given)

pub returns-in-Ok-add_frame-clause-given : goal.returns-in-Ok-add_frame-clause-given
returns-in-Ok-add_frame-clause-given g c = λ octets reads.
    let e = reads ∙ c.in-Ok.is in
    let is_chosen = chosen_as c.channel-channel.result c.rules.view_is c.has.ensures c.if-not-has.false in
    subst (λ (xs : List Item). TakesAll g.S.Sink.takes (g.S.Sink.known c.args.sink.now) xs (g.S.Sink.known c.add_frame.new.sink))
    (items_slot c.args.rules.now c.args.seen c.args.master.now c.args.states.now c.requires.state c.requires.limit octets c.in-Ok.frame e c.master_count-count.result c.master_count-count.ensures c.channel-channel.result c.index-states-channel.result c.channel-channel.ensures.value is_chosen)
    (gives_behind {T = Unit {0}} g.S.Sink _ _ _ _ _ (Ok tt) c.in_default.ensures.given c.in-Ok-add_frame.ensures.given)

pub returns-in-Err-add_frame-clause-given : goal.returns-in-Err-add_frame-clause-given
returns-in-Err-add_frame-clause-given g c = λ octets reads.
    let e = reads ∙ c.in-Ok.is in
    let is_chosen = chosen_as c.channel-channel.result c.rules.view_is c.has.ensures c.if-not-has.false in
    subst (λ (xs : List Item). RefusesOne g.S.Sink.takes g.S.Sink.refuses (g.S.Sink.known c.args.sink.now) xs c.in-Err-add_frame.fault (g.S.Sink.known c.add_frame.new.sink))
    (items_slot c.args.rules.now c.args.seen c.args.master.now c.args.states.now c.requires.state c.requires.limit octets c.in-Ok.frame e c.master_count-count.result c.master_count-count.ensures c.channel-channel.result c.index-states-channel.result c.channel-channel.ensures.value is_chosen)
    (gives_behind {T = Unit {0}} g.S.Sink _ _ _ _ _ (Err c.in-Err-add_frame.fault) c.in_default.ensures.given c.in-Err-add_frame.ensures.given)

pub returns-in-Ok-add_frame-clause-left : goal.returns-in-Ok-add_frame-clause-left
returns-in-Ok-add_frame-clause-left g c = λ octets reads.
    let e = reads ∙ c.in-Ok.is in
    let is_chosen = chosen_as c.channel-channel.result c.rules.view_is c.has.ensures c.if-not-has.false in
    after_slot c.args.rules.now c.args.seen c.args.master.now c.args.states.now c.requires.state c.requires.limit octets c.in-Ok.frame e c.master_count-count.result c.master_count-count.ensures c.channel-channel.result c.index-states-channel.result c.channel-channel.ensures.value is_chosen _ c.in-Ok-add_frame.ensures.left.0

pub returns-in-Ok-add_frame-clause-limit : goal.returns-in-Ok-add_frame-clause-limit
returns-in-Ok-add_frame-clause-limit g c =
    limit_slot c.args.rules.now c.args.seen c.args.master.now c.args.states.now c.requires.state c.requires.limit c.channel-channel.result c.index-states-channel.result _ c.channel-channel.ensures.below c.add_frame.ensures.left.1 c.add_frame.ensures.left.2

pub returns-then-not-has-clause-given : goal.returns-then-not-has-clause-given
returns-then-not-has-clause-given g c = λ octets reads.
    let e = reads ∙ c.in-Ok.is in
    let is_chosen = chosen_as c.channel-channel.result c.rules.view_is c.has.ensures c.if-not-has.true in
    subst (λ (xs : List Item). TakesAll g.S.Sink.takes (g.S.Sink.known c.args.sink.now) xs (g.S.Sink.known c.give_master_gap.new.sink)) (items_unchosen c.args.rules.now c.args.seen c.args.master.now c.args.states.now c.requires.state c.requires.limit octets c.in-Ok.frame e c.master_count-count.result c.master_count-count.ensures (ap (chooses c.args.rules.now) (sym c.channel-channel.ensures.value) ∙ is_chosen))
    c.in_default.ensures.given

pub returns-then-not-has-clause-left : goal.returns-then-not-has-clause-left
returns-then-not-has-clause-left g c = λ octets reads.
    let e = reads ∙ c.in-Ok.is in
    let is_chosen = chosen_as c.channel-channel.result c.rules.view_is c.has.ensures c.if-not-has.true in
    after_unchosen c.args.rules.now c.args.seen c.args.master.now c.args.states.now c.requires.state c.requires.limit octets c.in-Ok.frame e c.master_count-count.result c.master_count-count.ensures (ap (chooses c.args.rules.now) (sym c.channel-channel.ensures.value) ∙ is_chosen)

pub returns-in-Ok-take-clause-given : goal.returns-in-Ok-take-clause-given
returns-in-Ok-take-clause-given g c = λ octets reads.
    let e = reads ∙ c.in-Err.is in
    subst (λ (xs : List Item). TakesAll g.S.Sink.takes (g.S.Sink.known c.args.sink.now) xs (g.S.Sink.known c.take.new.self))
    (items_bad_record c.args.rules.now _ c.requires.state octets c.in-Err.fault e)
    (g.S.Sink.known c.take.new.self, c.in-Ok-take.ensures.accepted, refl)

pub returns-in-Ok-take-clause-left : goal.returns-in-Ok-take-clause-left
returns-in-Ok-take-clause-left g c = λ octets reads.
    let e = reads ∙ c.in-Err.is in
    after_bad_record c.args.rules.now _ c.requires.state octets c.in-Err.fault e

pub returns-in-Err-take-clause-given : goal.returns-in-Err-take-clause-given
returns-in-Err-take-clause-given g c = λ octets reads.
    let e = reads ∙ c.in-Err.is in
    refused_bad_record c.args.rules.now _ c.requires.state octets _ _ _ _ _ c.in-Err.fault e c.in-Err-take.ensures.refused
