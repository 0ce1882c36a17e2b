-- How much of a recording a loop over its records reads. The records that were done before come first, and are passed over.
use Rattle.std.specs.Prelude.{⊤, ◌≡◌, ◌⊎◌, ◌<◌, ◌≤◌, ◌+◌, ℕ, List, [], length, take, Option}
use Rattle.tm_output.specs.declared.command.Ending.{Ending}
use Rattle.tm_output.specs.declared.command.Ending.TheVariants.{Close, Keep, StopAfter}
use Rattle.std.specs.Io.KnownBytes.{IsAtEnd}
use Rattle.tm_output.specs.Records.{HasRead, HasReadAll, record_count, rest_of}

-- after a count of records in all a further one is wanted
abbrev pub WantsFurther : Ending → ℕ → ℕ → Type 0
WantsFurther Close done count = ⊤
WantsFurther Keep done count = ⊤
WantsFurther (StopAfter n) done count = count < done + n

-- or none is
abbrev pub Suffices : Ending → ℕ → ℕ → Type 0
Suffices Close done count = ⊥
Suffices Keep done count = ⊥
Suffices (StopAfter n) done count = count ≡ done + n

-- what an ending reads: all, down to less than a record; or just the number of records that it wants
abbrev pub EndsAt : Ending → ℕ → ℕ → Option (List ℕ) → Option (List ℕ) → List (List ℕ) → List ℕ → Type 0
EndsAt ending size done left_old left_new read rest =
    (HasReadAll size left_old left_new read rest × WantsFurther ending done (length read))
    ⊎ (HasRead size left_old left_new read [] × (rest ≡ []) × Suffices ending done (length read))

-- The same in octets: those of the records that are done come first. Then come all that follow, down to the recording's end; or just those of
-- the number of whole records that it wants.
abbrev pub AreEnough : Ending → ℕ → ℕ → Option (List ℕ) → List ℕ → Type 0
AreEnough ending size done left read =
    (done ≤ record_count size read)
    × ((IsAtEnd left × WantsFurther ending done (record_count size read))
    ⊎ ((rest_of size read ≡ []) × Suffices ending done (record_count size read)))

-- what an ending takes of the records that follow those that are done: a number of them, or all
abbrev pub records_for : {X : Type 0} → Ending → List X → List X
records_for Close rs = rs
records_for Keep rs = rs
records_for (StopAfter n) rs = take n rs
