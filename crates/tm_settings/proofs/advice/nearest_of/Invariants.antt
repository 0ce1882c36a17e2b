use Rattle.std.proofs.Common.{take}
use Rattle.tm_settings.specs.Advice.{edits_to}
use Rattle.tm_settings.proofs.Nearest.{IsNearest}
use Rattle.tm_settings.proofs.advice.nearest_of.Given as goal

-- the nearest of the keys so far
abbrev pub invariant-loop-key : goal.invariant-loop-key
invariant-loop-key l = IsNearest l.limit (edits_to l.text) (take l.key-index l.keys) l.nearest l.least
