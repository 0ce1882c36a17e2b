-- The loop over a recording's records, whatever takes them: for private contracts.
use Rattle.std.specs.Prelude.{⊤, ◌≡◌, ◌⊎◌, ◌<◌, ◌≤◌, ◌+◌, ℕ, List, [], ◌∷◌, length, drop, Option, Result, MatchResult}
use Rattle.std.specs.List.{concat}
use Rattle.std.specs.Io.KnownBytes.{Consumes}
use Rattle.tm_devices.specs.Devices.{raised}
use Rattle.tm_faults.specs.declared.run.RunFault.{RunFault}
use Rattle.tm_faults.specs.declared.run.RunFault.TheVariants.{Read, Write, Report, ShortRecording, TooMany, NoMemory}
use Rattle.tm_output.specs.declared.command.Ending.{Ending}
use Rattle.tm_output.specs.declared.command.Ending.TheVariants.{Close, Keep, StopAfter}
use Rattle.tm_tool.specs.Endings.{EndsAt, WantsFurther}
use Rattle.tm_output.specs.Records.{AreRecords, HasRead, HasReadAll}
use Rattle.tm_frame.specs.Layout.{most_records}
use Rattle.tm_output.specs.Outputs.{Buffering, Piece, Stopped, View}
use Rattle.tm_tool.specs.code.Next.{FailsNext, ReadsNext}

-- no more records were read than are wanted
abbrev pub Reached : Ending → ℕ → ℕ → Type 0
Reached Close done count = ⊤
Reached Keep done count = ⊤
Reached (StopAfter n) done count = count ≤ done + n

-- at least the number that is wanted
abbrev pub Enough : Ending → ℕ → ℕ → Type 0
Enough Close done count = ⊥
Enough Keep done count = ⊥
Enough (StopAfter n) done count = done + n ≤ count

-- ---- the records that are done are passed over

-- they were read, and nothing else
pub record HasPassed (size count : ℕ) (left_old left_new : Option (List ℕ)) : Type 0 where
  pub read : List (List ℕ)
  pub sized : AreRecords size read
  pub counted : length read ≡ count
  pub octets : Consumes left_old left_new (concat read)

-- or a read failed before
pub record PassingFails (size count : ℕ) (left_old left_new : Option (List ℕ)) : Type 0 where
  pub read : List (List ℕ)
  pub part : List ℕ
  pub octets : HasRead size left_old left_new read part
  pub short : length part < size
  pub few : length read < count

-- or there are fewer
pub record PassingEnds (size count : ℕ) (left_old left_new : Option (List ℕ)) : Type 0 where
  pub read : List (List ℕ)
  pub rest : List ℕ
  pub all : HasReadAll size left_old left_new read rest
  pub few : length read < count

-- `Read` where the source's count rose
abbrev pub PassingStopped : ℕ → ℕ → Option (List ℕ) → Option (List ℕ) → ℕ → ℕ → RunFault → Type 0
PassingStopped size count left_old left_new failures_old failures_new Read =
    PassingFails size count left_old left_new × (failures_new ≡ raised failures_old)
PassingStopped size count left_old left_new failures_old failures_new ShortRecording =
    PassingEnds size count left_old left_new × (failures_new ≡ failures_old)
PassingStopped size count left_old left_new failures_old failures_new Write = ⊥
PassingStopped size count left_old left_new failures_old failures_new Report = ⊥
PassingStopped size count left_old left_new failures_old failures_new TooMany = ⊥
PassingStopped size count left_old left_new failures_old failures_new NoMemory = ⊥

-- they were passed over, and no call failed; or they were not
abbrev pub PassesRecords : {T : Type 0} → ℕ → ℕ → Option (List ℕ) → Option (List ℕ) → ℕ → ℕ → Result T RunFault → Type 0
PassesRecords size count left_old left_new failures_old failures_new r =
    MatchResult r (λ _. HasPassed size count left_old left_new × (failures_new ≡ failures_old)) (PassingStopped size count left_old left_new failures_old failures_new)

-- ---- what takes records

-- how a handler may change with records, one after the other, and how where it refuses a record with a fault
abbrev pub Taking : Type 0 → Type 1
Taking V = V → List (List ℕ) → V → Type 0

abbrev pub Refusing : Type 0 → Type 1
Refusing V = V → List ℕ → V → RunFault → Type 0

-- what took records before still took them
abbrev pub StillTakes : {V : Type 0} → Taking V → V → V → Type 0
StillTakes {V} takes old new = (before : V) (rs : List (List ℕ)) → takes before rs old → takes before rs new

-- or refused the last one
abbrev pub ThenRefuses : {V : Type 0} → Taking V → Refusing V → V → V → RunFault → Type 0
ThenRefuses {V} takes refuses old new fault = (before : V) (one : List ℕ) → takes before (one ∷ []) old → refuses before one new fault

-- `Read` where the source's count rose, else it was read and not taken
abbrev pub NextStopped : {V : Type 0} → Refusing V → ℕ → Option (List ℕ) → Option (List ℕ) → ℕ → ℕ → V → V → RunFault → Type 0
NextStopped refuses size left_old left_new failures_old failures_new old new fault =
    (FailsNext size left_old left_new × (fault ≡ Read) × (failures_new ≡ raised failures_old) × (new ≡ old))
    ⊎ (ReadsNext size left_old left_new (λ one. refuses old one new fault) × (failures_new ≡ failures_old))

-- ---- and those after them are taken

-- records are taken one after the other
abbrev pub TakesEach : {V : Type 0} → Taking V → V → List (List ℕ) → V → Type 0
TakesEach takes old [] new = new ≡ old
TakesEach {V} takes old (one ∷ rs) new = (mid : V) × takes old (one ∷ []) mid × TakesEach takes mid rs new

-- a record has `size` octets, and `done` records are done before
module _ {V : Type 0} (takes : Taking V) (size done : ℕ) where
  -- these records were read, nothing else; those after the ones that were done were taken, and `count` are done now
  pub record HasTaken (left_old left_new : Option (List ℕ)) (old new : V) (count : ℕ) : Type 0 where
    pub read : List (List ℕ)
    pub sized : AreRecords size read
    pub octets : Consumes left_old left_new (concat read)
    pub passed : done ≤ length read
    pub count_is : count ≡ length read
    pub took : TakesEach takes old (drop done read) new

  -- all that the ending reads was read and taken, `count` records are done, and this many octets are left
  pub record HasStepped (ending : Ending) (left_old left_new : Option (List ℕ)) (old new : V) (count octets : ℕ) : Type 0 where
    pub read : List (List ℕ)
    pub rest : List ℕ
    pub passed : done ≤ length read
    pub ended : EndsAt ending size done left_old left_new read rest
    pub count_is : count ≡ length read
    pub left : length rest ≡ octets
    pub took : TakesEach takes old (drop done read) new

  -- a read failed in a record after them
  pub record TakingFails (ending : Ending) (left_old left_new : Option (List ℕ)) (old new : V) : Type 0 where
    pub read : List (List ℕ)
    pub part : List ℕ
    pub octets : HasRead size left_old left_new read part
    pub short : length part < size
    pub passed : done ≤ length read
    pub wanted : WantsFurther ending done (length read)
    pub took : TakesEach takes old (drop done read) new

  -- the record that was read last was not taken
  pub record TakingRefused (refuses : Refusing V) (counted : V → ℕ) (ending : Ending) (left_old left_new : Option (List ℕ)) (old new : V) (fault : RunFault) : Type 0 where
    pub read : List (List ℕ)
    pub one : List ℕ
    pub octets : HasRead size left_old left_new read one
    pub exact : length one ≡ size
    pub passed : done ≤ length read
    pub wanted : WantsFurther ending done (length read)
    pub mid : V
    pub count_is : counted mid ≡ length read
    pub took : TakesEach takes old (drop done read) mid
    pub stopped : refuses mid one new fault

  -- the loop stopped: before all records that are done were passed over, in a read, or in a record
  abbrev pub TakingStopped : Refusing V → (V → ℕ) → Ending → Option (List ℕ) → Option (List ℕ) → ℕ → ℕ → V → V → RunFault → Type 0
  TakingStopped refuses counted ending left_old left_new failures_old failures_new old new fault =
      (PassingStopped size done left_old left_new failures_old failures_new fault × (new ≡ old))
      ⊎ ((TakingFails ending left_old left_new old new × (fault ≡ Read) × (failures_new ≡ raised failures_old))
      ⊎ (TakingRefused refuses counted ending left_old left_new old new fault × (failures_new ≡ failures_old)))

-- ---- a handler that writes pieces

module _ {A K : Type 0} (grows : K → K → List A → Type 0) where
  -- it stopped at a record: while writing, or before a record that is one too many
  abbrev pub StepStopped : Buffering → ℕ → View K → View K → List (Piece A) → RunFault → Type 0
  StepStopped buffering records old new pieces Read = ⊥
  StepStopped buffering records old new pieces Write = Stopped grows buffering old new pieces Write
  StepStopped buffering records old new pieces Report = Stopped grows buffering old new pieces Report
  StepStopped buffering records old new pieces ShortRecording = ⊥
  StepStopped buffering records old new pieces TooMany = (records ≡ most_records) × (new ≡ old)
  StepStopped buffering records old new pieces NoMemory = Stopped grows buffering old new pieces NoMemory
