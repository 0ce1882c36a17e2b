-- The course of a loop over a recording: what is written of its records and of its ending, and how it ended.
use Rattle.std.specs.Prelude.{◌≡◌, ◌⊎◌, ◌<◌, ◌≤◌, ℕ, List, [], ◌++◌, length, drop, Option, Result, MatchResult}
use Rattle.tm_frame.specs.Layout.{most_records}
use Rattle.tm_faults.specs.declared.run.RunFault.{RunFault}
use Rattle.tm_faults.specs.declared.run.RunFault.TheVariants.{Read, Write, Report, ShortRecording, TooMany, NoMemory}
use Rattle.tm_output.specs.declared.command.Ending.{Ending}
use Rattle.tm_tool.specs.Endings.{EndsAt, WantsFurther, records_for}
use Rattle.tm_output.specs.Faults.{RunCounted}
use Rattle.tm_output.specs.Outputs.{Buffering, Piece, Stopped, Took, View}
use Rattle.tm_output.specs.Records.{HasRead, HasReadAll, records, rest_of}

-- what is known of all devices: what is left of the recording, how many of its calls have failed, and the two outputs
pub record Devices (K : Type 0) : Type 0 where
  pub left : Option (List ℕ)
  pub failures : ℕ
  pub outputs : View K

abbrev pub devices_at : {K : Type 0} → Option (List ℕ) → ℕ → View K → Devices K
devices_at left failures outputs = record { left = left; failures = failures; outputs = outputs }

-- a device is blamed only where a call of it failed
abbrev pub DevicesCounted : {T K : Type 0} → Devices K → Devices K → Result T RunFault → Type 0
DevicesCounted old new r = RunCounted old.failures new.failures old.outputs new.outputs r

-- A record has `size` octets, and the first `done` records are passed over. The pieces of those after them are written, with each further one
-- the pieces that it has after these. At the end come those of the ending, where this many octets are left.
pub record RecordCourse (A : Type 0) : Type 0 where
  pub ending : Ending
  pub size : ℕ
  pub done : ℕ
  pub pieces : List (List ℕ) → List (Piece A)
  pub next : List (List ℕ) → List ℕ → List (Piece A)
  pub at_end : List (List ℕ) → ℕ → List (Piece A)

module _ {A : Type 0} (c : RecordCourse A) where
  -- the pieces of records that were read, without those that are done
  abbrev pub pieces_read : List (List ℕ) → List (Piece A)
  pieces_read read = c.pieces (drop c.done read)

  -- the pieces of records and of the ending
  abbrev pub pieces_ended : List (List ℕ) → ℕ → List (Piece A)
  pieces_ended rs rest = c.pieces rs ++ c.at_end rs rest

  -- the pieces of a recording
  abbrev pub whole : List ℕ → List (Piece A)
  whole recording = pieces_ended (records_for c.ending (drop c.done (records c.size recording))) (length (rest_of c.size recording))

-- ---- where a fault leaves the devices; if a source doesn't tell its octets, nothing is said of what was read

module _ {A K : Type 0} (grows : K → K → List A → Type 0) (buffering : Buffering) (c : RecordCourse A) where
  -- a read failed in a record: the pieces of every whole record before it are written
  pub record StopsAtRead (left_old left_new : Option (List ℕ)) (old new : View K) : Type 0 where
    pub read : List (List ℕ)
    pub part : List ℕ
    pub octets : HasRead c.size left_old left_new read part
    pub short : length part < c.size
    pub wanted : (length read < c.done) ⊎ WantsFurther c.ending c.done (length read)
    pub took : Took grows old new (pieces_read c read)

  -- the recording has fewer whole records than are done: nothing is written
  pub record StopsShort (left_old left_new : Option (List ℕ)) (old new : View K) : Type 0 where
    pub read : List (List ℕ)
    pub rest : List ℕ
    pub all : HasReadAll c.size left_old left_new read rest
    pub few : length read < c.done
    pub took : Took grows old new []

  -- a whole record followed the greatest number of records: the pieces of those before it are written
  pub record StopsAtTooMany (left_old left_new : Option (List ℕ)) (old new : View K) : Type 0 where
    pub read : List (List ℕ)
    pub one : List ℕ
    pub octets : HasRead c.size left_old left_new read one
    pub exact : length one ≡ c.size
    pub most : length read ≡ most_records
    pub wanted : WantsFurther c.ending c.done (length read)
    pub took : Took grows old new (pieces_read c read)

  -- writing stopped at a piece of the record that was read last: nothing was read past it, and all pieces before it are written
  pub record StopsAtRecord (left_old left_new : Option (List ℕ)) (old new : View K) (fault : RunFault) : Type 0 where
    pub read : List (List ℕ)
    pub one : List ℕ
    pub octets : HasRead c.size left_old left_new read one
    pub exact : length one ≡ c.size
    pub passed : c.done ≤ length read
    pub wanted : WantsFurther c.ending c.done (length read)
    pub mid : View K
    pub took : Took grows old mid (pieces_read c read)
    pub stopped : Stopped grows buffering mid new (c.next (drop c.done read) one) fault

  -- what the ending reads was read, and writing stopped at a piece of the ending, or no piece was left and a flush failed
  pub record StopsAtEnd (left_old left_new : Option (List ℕ)) (old new : View K) (fault : RunFault) : Type 0 where
    pub read : List (List ℕ)
    pub rest : List ℕ
    pub passed : c.done ≤ length read
    pub ended : EndsAt c.ending c.size c.done left_old left_new read rest
    pub mid : View K
    pub took : Took grows old mid (pieces_read c read)
    pub stopped : Stopped grows buffering mid new (c.at_end (drop c.done read) (length rest)) fault

  -- Memory ran out, but not for a piece: the pieces of these whole records are written, and behind them these octets were read, a record
  -- at most.
  pub record StopsWithoutMemory (left_old left_new : Option (List ℕ)) (old new : View K) : Type 0 where
    pub read : List (List ℕ)
    pub part : List ℕ
    pub octets : HasRead c.size left_old left_new read part
    pub took : Took grows old new (pieces_read c read)

  abbrev pub StopsWriting : Option (List ℕ) → Option (List ℕ) → View K → View K → RunFault → Type 0
  StopsWriting left_old left_new old new fault =
      StopsAtRecord left_old left_new old new fault ⊎ StopsAtEnd left_old left_new old new fault

  abbrev pub IsStoppedAt : Option (List ℕ) → Option (List ℕ) → View K → View K → RunFault → Type 0
  IsStoppedAt left_old left_new old new Read = StopsAtRead left_old left_new old new
  IsStoppedAt left_old left_new old new Write = StopsWriting left_old left_new old new Write
  IsStoppedAt left_old left_new old new Report = StopsWriting left_old left_new old new Report
  IsStoppedAt left_old left_new old new ShortRecording = StopsShort left_old left_new old new
  IsStoppedAt left_old left_new old new TooMany = StopsAtTooMany left_old left_new old new
  IsStoppedAt left_old left_new old new NoMemory = StopsWriting left_old left_new old new NoMemory

  -- ---- with Ok

  -- all that the ending reads was read, and its pieces were written, the ending's too. This holds of the number of records that were read, of
  -- those after the ones that are done, and of the number of octets that were left
  pub record HasRun (left_old left_new : Option (List ℕ)) (old new : View K) (Holds : ℕ → List (List ℕ) → ℕ → Type 0) : Type 0 where
    pub read : List (List ℕ)
    pub rest : List ℕ
    pub passed : c.done ≤ length read
    pub ended : EndsAt c.ending c.size c.done left_old left_new read rest
    pub took : Took grows old new (pieces_ended c (drop c.done read) (length rest))
    pub holds : Holds (length read) (drop c.done read) (length rest)

  -- and how it ended; a device is blamed only where a call of it failed
  abbrev pub HasEnded : {T : Type 0} → Devices K → Devices K → (T → ℕ → List (List ℕ) → ℕ → Type 0) → Result T RunFault → Type 0
  HasEnded old new Holds r =
      MatchResult r (λ x. HasRun old.left new.left old.outputs new.outputs (Holds x)) (IsStoppedAt old.left new.left old.outputs new.outputs)
      × DevicesCounted old new r
