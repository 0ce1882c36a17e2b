-- Which files of a run clash. A file that is written must be no other file of the run. Two pairs may be one file: the new
-- checkpoint and the one that is resumed, and the two standard streams.
use Rattle.std.specs.Prelude.{Bool, ℕ, List, slice_get, option_map, option_and_then, unwrap_or, false, [], ◌∷◌, Option, find, is_some}
use Rattle.tm_file_identity.specs.FileIdentity.{is_same}
use Rattle.tm_file_identity.specs.declared.identity.FileIdentity.{FileIdentity}
use Rattle.tm_file_identity.specs.declared.identities.FileIdentities.{FileIdentities}
use Rattle.tm_file_identity.specs.declared.identities.Place.{Place}
use Rattle.tm_file_identity.specs.declared.identities.Place.TheVariants.{Recording, Settings, Definition, Resumed, Report, Checkpoint, TemporaryCheckpoint, Output, Errors, Faults}

-- The files over which the file at a place must not be written, in the order in which they are told. That the checkpoint is not the
-- report is said of the report, and that a stream is no other file that is written is said of that.
abbrev pub others_of : Place → List Place
others_of Checkpoint = Recording ∷ Settings ∷ Definition ∷ Output ∷ Errors ∷ []
others_of TemporaryCheckpoint = Recording ∷ Settings ∷ Definition ∷ Output ∷ Errors ∷ Resumed ∷ Report ∷ Checkpoint ∷ []
others_of Report = Recording ∷ Settings ∷ Definition ∷ Output ∷ Errors ∷ Resumed ∷ Checkpoint ∷ []
others_of Output = Recording ∷ Settings ∷ Definition ∷ Resumed ∷ []
others_of Faults = Recording ∷ Settings ∷ Definition ∷ Resumed ∷ []
others_of _ = []

-- the files over which no file of packets must be written: all that the run reads or writes
abbrev pub others_of_packets : List Place
others_of_packets = Recording ∷ Settings ∷ Definition ∷ Output ∷ Errors ∷ Resumed ∷ Report ∷ Checkpoint ∷ TemporaryCheckpoint ∷ []

-- the number of a place
abbrev pub place_number : Place → ℕ
place_number Recording = 0
place_number Settings = 1
place_number Definition = 2
place_number Output = 3
place_number Errors = 4
place_number Resumed = 5
place_number Report = 6
place_number Checkpoint = 7
place_number TemporaryCheckpoint = 8
place_number Faults = 9

-- the identity of the file at a place
abbrev pub identity_at : FileIdentities → Place → Option FileIdentity
identity_at s place = slice_get s.identities (place_number place)

-- the identity is that of the file at a place
abbrev pub is_at : FileIdentities → FileIdentity → Place → Bool
is_at s identity place = unwrap_or (option_map (is_same identity) (identity_at s place)) false

-- the first file over which the file at a place would be written, by what their names stand for
abbrev pub clash_at : FileIdentities → Place → Option Place
clash_at s place = option_and_then (λ identity. find (is_at s identity) (others_of place)) (identity_at s place)

-- a file of the run
abbrev pub has : FileIdentities → FileIdentity → Bool
has s identity = is_some (find (is_at s identity) others_of_packets)
