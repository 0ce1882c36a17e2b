-- What a call that gives items to a sink says of them, whatever it answers.
use Rattle.std.specs.Prelude.{List, Result, MatchResult}
use Rattle.tm_items.specs.declared.sink.Sink as sink
use Rattle.tm_items.specs.Item.{Item}
use Rattle.tm_items.specs.Sinks.{RefusesOne, TakesAll}

-- the sink took all of these items; or, where the call is refused, some first of them, and refused the next one
abbrev pub Gives : {S F T : Type 0} (s : sink.Ghosts S F) → S → S → List Item → Result T F → Type 0
Gives s old new items r =
    MatchResult r (λ _. TakesAll s.takes (s.known old) items (s.known new)) (λ fault. RefusesOne s.takes s.refuses (s.known old) items fault (s.known new))
