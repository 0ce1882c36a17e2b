-- What a borrow of a loose box's value leaves.
use base.Fml.{Fml}
use denote.RattleType.{RattleType}
use denote.Ref.{MutBor}
use denote.Follow.{follows}
use Rattle.std.specs.declared.alloc.Allocator.{Ghosts}
use Rattle.tm_handle.specs.declared.loose.Loose.{Loose}
use Rattle.tm_handle.specs.contracts.loose.Loose.{the_row}

-- l once its value is w
abbrev pub with_value : {X Z : Type 0} → Loose X Z → X → Loose X Z
with_value l w = record { at = l.at; alloc = l.alloc; value = w }

-- once the borrow r ends, the loose box holds the last value written through r
abbrev pub loose_follows : (R Z : RattleType) (g : Ghosts Z.Denot) → MutBor (Loose R.Denot Z.Denot) → MutBor R.Denot → Fml
loose_follows R Z g l r = follows (the_row R Z g) R l.ghost_name r.ghost_name (with_value l.now)
