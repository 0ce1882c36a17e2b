-- The turns of a call that is made again and again, with more memory each time.
use Rattle.std.specs.Prelude.{ℕ, ◌-◌, ◌||◌, ◌&&◌, Bool, true, false, Option, Some}
use Rattle.tm_memory.specs.declared.turns.Answer.{Answer}
use Rattle.tm_memory.specs.declared.turns.Answer.TheVariants.{Right, Refused, NotMade}

-- what is known after some turns: the last answer, whether a call was refused, and how many blocks are held
pub record Course : Type 0 where
  pub last : Option Answer
  pub refused : Bool
  pub blocks : ℕ

abbrev pub is_refusal : Answer → Bool
is_refusal Refused = true
is_refusal _ = false

-- a call is made again after a refusal, or where it couldn't be made
abbrev pub is_again : Answer → Bool
is_again Refused = true
is_again NotMade = true
is_again _ = false

-- after one turn more
abbrev pub turned : Course → Answer → Course
turned c answer = record { last = Some answer; refused = c.refused || is_refusal answer; blocks = c.blocks - 1 }

abbrev pub is_right : Option Answer → Bool
is_right (Some Right) = true
is_right _ = false

-- the last turn was right, and one before it was refused
abbrev pub has_passed : Course → Bool
has_passed c = c.refused && is_right c.last
