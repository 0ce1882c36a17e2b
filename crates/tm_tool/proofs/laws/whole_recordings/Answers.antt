use Rattle.std.proofs.Common.{[], inr}
use Rattle.std.specs.Io.KnownBytes.{Appends}
use Rattle.std.proofs.KnownBytes.{Appends-nil, Appends-trans}
use Rattle.tm_output.specs.Shelves.{Shelves}
use Rattle.tm_output.specs.code.ShelfLaws.{shelves_nil, shelves_trans}
use Rattle.tm_output.proofs.PieceLemmas.{took_none}
use Rattle.tm_tool.proofs.HeadedRuns.{stop_told}
use Rattle.tm_tool.proofs.RunPieces.{ran_told}
use Rattle.tm_tool.proofs.laws.whole_recordings.Goals as goal

pub returns-clause-ran : goal.returns-clause-ran
returns-clause-ran c command ending job old new count kept totals sound h =
    ran_told Appends Appends-nil Appends-trans _ _ ending job.work sound.0 sound.1 old.left new.left old.outputs new.outputs old.failures new.failures _ count kept totals h

pub returns-clause-stopped : goal.returns-clause-stopped
returns-clause-stopped c command ending job old new fault sound h =
    stop_told Appends Appends-nil Appends-trans _ _ ending job.work _ sound.0 sound.1 old.failures new.failures new.left old.outputs new.outputs fault old.left h

pub returns-clause-split_ran : goal.returns-clause-split_ran
returns-clause-split_ran c ending w old new count kept totals sound h =
    ran_told Shelves shelves_nil shelves_trans _ _ ending w sound.0 sound.1 old.left new.left old.outputs new.outputs old.failures new.failures [] count kept totals h

pub returns-clause-split_stopped : goal.returns-clause-split_stopped
returns-clause-split_stopped c ending w old new fault sound h =
    stop_told Shelves shelves_nil shelves_trans _ _ ending w [] sound.0 sound.1 old.failures new.failures new.left old.outputs new.outputs fault old.left
    (inr (record { mid = old.outputs; headed = took_none Shelves shelves_nil shelves_trans old.outputs; stopped = h }))
