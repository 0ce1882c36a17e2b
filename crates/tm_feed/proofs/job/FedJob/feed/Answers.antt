use Rattle.std.proofs.Common.{take, sym, subst}
use Rattle.tm_feed.specs.declared.job.Fed.{Fed}
use Rattle.tm_feed.specs.declared.job.StopReason.TheVariants.{TooSmall}
use Rattle.tm_feed.specs.Jobs.{IsFed}
use Rattle.tm_feed.proofs.FeedEnds.{none_fed}
use Rattle.tm_feed.proofs.job.FedJob.feed.Goals as goal

pub returns-then-makes_whole-clause-fed : goal.returns-then-makes_whole-clause-fed
returns-then-makes_whole-clause-fed c none =
    subst (λ (did : Fed). IsFed c.args.self.now c.args.self.now (take did.used c.args.octets.now) did c.args.events.now c.args.packets.now)
    (sym c.nothing-then-makes_whole.ensures)
    (none_fed c.args.self.now (rw (← c.self.view_is) c.self.invariant.0.1) (rw (← c.self.view_is) c.self.invariant.1)
    TooSmall c.args.octets.now c.args.events.now c.args.packets.now)
