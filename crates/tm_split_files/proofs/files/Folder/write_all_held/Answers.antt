use Rattle.std.proofs.Common.{◌≡◌, ◌<◌, ℕ, List, Some, ap, arith, get_or, length, set}
use Rattle.tm_split_files.proofs.BufferLemmas.{left_so_far, left_there, none_so_far, set_elsewhere, set_here, where_done}
use Rattle.tm_split_files.proofs.files.Folder.write_all_held.Goals as goal
use Rattle.tm_split_files.proofs.files.Folder.write_all_held.Goals.{in-Err, in_default}

pub loop-application-preserved : goal.loop-application-preserved
loop-application-preserved g c =
    let old = c.loop-application.held in
    let n = c.loop-application.application in
    let after = c.write_if_held.new.held in
    let below : n < length old = omega arith in
    let before = get_or old n c.index-held-application.result in
    let left = left_there old n before after below (ap (get_or old n) c.index-held-application.is) c.write_if_held.ensures.left in
    let others = set_elsewhere old n after in (
      elim c.match-write_if_held.branch [
        | in-Err w ↦ rw w.done-is tt
        | in_default w ↦ rw w.done-is (none_so_far c.loop-application.done old (set old n after) n c.loop-application.invariant.0 others
            (rw (set_here old n after below) (ap {A = List ℕ} Some (where_done c.write_if_held.result w.in_default.not-Err c.write_if_held.ensures.written))))
      ],
      left_so_far c.args.held.now old (set old n after) n c.loop-application.invariant.1 others left,
    )

pub returns-clause-written : goal.returns-clause-written
returns-clause-written g c =
    let all : c.loop-application.application ≡ 2048 = omega arith in
    rw all at c.loop-application.invariant.0
