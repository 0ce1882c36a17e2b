use Rattle.tm_feed.proofs.OnlyLemmas.{given_start}
use Rattle.tm_feed.proofs.choice.only_these.Goals as goal

pub loop-i-init : goal.loop-i-init
loop-i-init c = given_start c.args.applications.now
