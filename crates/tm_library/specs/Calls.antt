-- Calls that follow one another.
use Rattle.std.specs.Prelude.{ℕ, Bool, false, List, [], ◌∷◌, ◌++◌, length, drop}
use Rattle.tm_frame.specs.Rules.{Rules}
use Rattle.tm_checkpoint.specs.Works.{JobState}
use Rattle.tm_output.specs.Outputs.{Piece}
use Rattle.tm_tool.specs.Resuming.{then_pieces}
use Rattle.tm_library.specs.declared.request.Wanted.{Wanted}
use Rattle.tm_library.specs.Chunks.{checkpoint_behind, given_pieces, job_in, size_of, used_octets}

-- the octets that a call leaves which isn't the last: less than a record
abbrev pub left_behind : JobState → List ℕ → List ℕ
left_behind job octets = drop (used_octets false (size_of job.work) (length octets)) octets

-- The pieces of calls. Each but the last writes a checkpoint. The next call reads that, and the octets that were left in front of the next chunk.
abbrev pub pieces_of_calls : Wanted → Bool → Rules → List ℕ → List ℕ → List (List ℕ) → List (Piece ℕ)
pieces_of_calls wanted last rules checkpoint octets [] =
    then_pieces (job_in rules checkpoint) (λ job. given_pieces wanted last job octets)
pieces_of_calls wanted last rules checkpoint octets (chunk ∷ chunks) =
    then_pieces (job_in rules checkpoint) (λ job. given_pieces wanted false job octets
    ++ pieces_of_calls wanted last rules (checkpoint_behind false job octets) (left_behind job octets ++ chunk) chunks)
