-- Lines as texts of C: without a line feed, and with a 0 at the end.
use Rattle.std.specs.Prelude.{◌≡◌, ◌<◌, ◌⊎◌, ◌+◌, ◌-◌, ℕ, List, [], ◌∷◌, ◌++◌, length, take, min, codes}
use Rattle.tm_faults.specs.FaultLines.{checkpoint_text, definition_text, out_of_memory, run_text, settings_text}
use Rattle.tm_faults.specs.declared.run.RunFault.TheVariants as run
use Rattle.tm_library.specs.declared.refusal.Input.{Input}
use Rattle.tm_library.specs.declared.refusal.Input.TheVariants as input
use Rattle.tm_library.specs.declared.refusal.Refusal.{Refusal}
use Rattle.tm_library.specs.declared.refusal.Refusal.TheVariants.{TooLong, Settings, Definition, Checkpoint, TooMany, NoMemory}

-- how much of a line is shown in a room: not its line feed, and no more than leaves a place for the 0
abbrev pub shown_length : List ℕ → List ℕ → ℕ
shown_length line room = min (length line - 1) (length room - 1)

-- a line stands in a room, if that has any place, and its length is told
abbrev pub IsText : List ℕ → List ℕ → ℕ → Type 0
IsText line room told =
    (told ≡ length line - 1)
    × (0 < length room → take (shown_length line room + 1) room ≡ take (shown_length line room) line ++ 0 ∷ [])

-- the line of an input that is too long
abbrev pub long_line : Input → List ℕ
long_line input.Settings = codes "tmx: settings: too long\n"
long_line input.Definition = codes "tmx: definition: too long\n"
long_line input.Checkpoint = codes "tmx: checkpoint: too long\n"

-- the line that the program prints of a refusal, where a file that is too long has its name
abbrev pub refusal_line : Refusal → List ℕ
refusal_line (TooLong told) = long_line told
refusal_line (Settings fault) = settings_text fault
refusal_line (Definition fault) = definition_text fault
refusal_line (Checkpoint fault) = checkpoint_text fault
refusal_line TooMany = run_text run.TooMany
refusal_line NoMemory = out_of_memory

-- it stands in a room; or memory ran out meanwhile, and the room says that
abbrev pub TellsReason : Refusal → List ℕ → Type 0
TellsReason refusal room = ((told : ℕ) × IsText (refusal_line refusal) room told) ⊎ ((told : ℕ) × IsText out_of_memory room told)
