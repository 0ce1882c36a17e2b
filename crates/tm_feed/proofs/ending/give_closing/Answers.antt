use Rattle.std.proofs.Common.{refl, sym, ap, ◌∙◌}
use Rattle.tm_tool.proofs.NoteLemmas.{open_is}
use Rattle.tm_feed.specs.code.Sinking.{SinkState}
use Rattle.tm_feed.proofs.FeedLemmas.{gave_all}
use Rattle.tm_feed.proofs.ending.give_closing.Goals as goal

pub returns-clause-gave : goal.returns-clause-gave
returns-clause-gave c =
    let gave = gave_all _ _ _ c.close_into.ensures refl refl in
    rw (c.events-1.given.1.1 (sym (ap (λ (s : SinkState). s.fixture.events) c.close_into.ensures))) (c.close_into.new.sink.events_within, gave.0)

pub returns-clause-tracker : goal.returns-clause-tracker
returns-clause-tracker c =
    c.tracker-1.given.1 (sym (ap (λ (s : SinkState). s.fixture.tracker) c.close_into.ensures))
    ∙ ap (λ (s : SinkState). s.entries) c.close_into.ensures ∙ open_is c.args.tracker.now c.args.reassembly.now.state c.args.rest
