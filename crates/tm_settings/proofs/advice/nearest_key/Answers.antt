use Rattle.tm_settings.proofs.advice.nearest_key.Goals as goal

pub returns-clause-none : goal.returns-clause-none
returns-clause-none c = rw c.min.ensures at c.nearest_of.ensures.none
