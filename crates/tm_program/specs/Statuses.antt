-- The status of a run that is done.
use Rattle.std.specs.Prelude.{◌&&◌, ℕ, Bool, false, not, nat_lt, if◌then◌else◌}
use Rattle.tm_program.specs.declared.outcome.Found.{Found}
use Rattle.tm_program.specs.declared.outcome.Found.TheVariants as found

-- it had a good frame, of a chosen channel if it is no list
abbrev pub found_good_frame : Found → Bool
found_good_frame (found.Frames listed) = nat_lt 0 listed.good
found_good_frame (found.Summary summed) = summed.has_good_frame
found_good_frame (found.Packets records totals) = nat_lt 0 totals.good

-- its report, or the numbers of a summary, tell a loss
abbrev pub found_losses : Found → Bool
found_losses (found.Frames listed) = false
found_losses (found.Summary summed) = summed.has_losses
found_losses (found.Packets records totals) = totals.has_losses

-- 5 without a good frame, else 4 where something was lost, if the status is to say so; else 0
abbrev pub done_status : (strict good lost : Bool) → ℕ
done_status strict good lost = if strict && not good then 5 else (if strict && lost then 4 else 0)
