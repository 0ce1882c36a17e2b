use Rattle.std.proofs.Common.{ℕ, List, take, refl, sym, ap, ◌∙◌}
use Rattle.tm_checkpoint.specs.Works.{Work, work_of}
use Rattle.tm_feed.specs.Jobs.{fed, fed_events, fed_octets}
use Rattle.tm_feed.specs.States.{Chosen, FeedState}
use Rattle.tm_feed.specs.code.Sinking.{SinkState, sink_state}
use Rattle.tm_feed.proofs.FeedLemmas.{gave_all}
use Rattle.tm_feed.proofs.job.FedJob.feed_open.Goals as goal

pub returns-clause-fed : goal.returns-clause-fed
returns-clause-fed c =
    let taken = c.add_octets-used.ensures.taken in
    let sink = c.add_octets-used.new.sink in
    let own = c.self.inside in
    let octets : List ℕ = take c.add_octets-used.result.0 c.args.octets.now in
    let with : Chosen → Work → List ℕ → FeedState = λ chosen work part. record { work = work; part = part; chosen = chosen; end = own.end } in
    let job : Work → List ℕ → FeedState = with own.choice.chosen in
    let old : FeedState = job (work_of own.reassembly own.tracker) own.part.items in
    let gave = gave_all _ (sink_state sink) _ taken.sink refl refl in
    let event_room = c.events-1.given.1.1 (sym (ap (λ (s : SinkState). s.fixture.events) taken.sink)) in
    let octet_room = c.packets-1.given.1.1 (sym (ap (λ (s : SinkState). s.fixture.octets) taken.sink)) in
    record {
      job =
          ap (λ (z : Chosen). with z (work_of c.add_octets-used.new.reassembly sink.tracker.now) c.add_octets-used.new.part.items) (ap (λ (s : SinkState). s.fixture.chosen) taken.sink)
          ∙ ap (λ (w : Work). job w c.add_octets-used.new.part.items) taken.work
          ∙ ap (λ (l : List ℕ). job (fed old octets).work l) taken.left
          ∙ ap (λ (j : FeedState). fed j octets) c.self.view_is;
      gave = rw event_room (sink.events_within, gave.0 ∙ ap (λ (j : FeedState). fed_events 0 j octets) c.self.view_is);
      packed = rw octet_room (sink.octets_within, gave.1 ∙ ap (λ (j : FeedState). fed_octets j octets) c.self.view_is);
    }
