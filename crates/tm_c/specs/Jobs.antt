-- What the exports on a job do. A handle has a job, or none.
use Rattle.std.specs.Prelude.{◌≡◌, ◌≢◌, ◌⊎◌, ◌<◌, ◌≤◌, ℕ, Option, Some, None, MatchOption, List, [], length, take, nat_le, if◌then◌else◌, Err}
use Rattle.tm_frame.specs.Rules.{Rules}
use Rattle.tm_checkpoint.specs.Checkpoints.{checkpoint_of, resumed}
use Rattle.tm_checkpoint.specs.Works.{new_job}
use Rattle.tm_library.specs.Chunks.{AreFields, AreSettings, Holds, input_limit}
use Rattle.tm_library.specs.Refusals.{IsDefinitionRefused, IsSettingsRefused, IsTooLong}
use Rattle.tm_library.specs.declared.refusal.Input.TheVariants as input
use Rattle.tm_library.specs.declared.refusal.Refusal.{Refusal}
use Rattle.tm_library.specs.declared.refusal.Refusal.TheVariants.{TooLong, Checkpoint, NoMemory}
use Rattle.tm_feed.specs.States.{FeedState}
use Rattle.tm_fields.specs.declared.field.Field.{Field}
use Rattle.tm_feed.specs.Choosing.{GivesRows, row_length_for}
use Rattle.tm_feed.specs.Jobs.{GoesOnFrom, IsFed, IsStopped, all_events_most, new_feed, octets_most, record_size}
use Rattle.tm_feed.specs.Endings.{EndedBy, GivesEnd}
use Rattle.tm_feed.specs.Only.{GivesOnly, IsNoApplication}
use Rattle.tm_feed.specs.declared.event.Event.{Event}
use Rattle.tm_feed.specs.declared.job.EndProgress.TheVariants.{Open}
use Rattle.tm_feed.specs.declared.job.Fed.{Fed}
use Rattle.tm_feed.specs.declared.job.StopReason.{StopReason}
use Rattle.tm_feed.specs.declared.job.StopReason.TheVariants.{Done, Room, TooSmall, TooMany, Closed}
use Rattle.tm_c.specs.declared.structs.TmxAnswer.{TmxAnswer}
use Rattle.tm_c.specs.declared.structs.TmxOpening.{TmxOpening}
use Rattle.tm_c.specs.declared.structs.TmxProgress.{TmxProgress}
use Rattle.tm_c.specs.Answers.{refused_with}
use Rattle.tm_c.specs.Numbers.{refusal_numbers, with_status}
use Rattle.tm_c.specs.Texts.{IsText, TellsReason}

-- where there is no job
abbrev pub no_job_status : ℕ
no_job_status = 13

-- ---- opening

-- a new job, or where `resume` isn't 0 the one that the checkpoint says
abbrev pub IsBegun : Rules → (resume : ℕ) → List ℕ → FeedState → Type 0
IsBegun rules resume checkpoint job =
    (resume ≡ 0 → job ≡ new_feed (new_job rules).work)
    × (resume ≢ 0 → (length checkpoint ≤ input_limit) × GoesOnFrom (resumed rules checkpoint) job)

-- why there is no job by these settings: what is wrong first with the checkpoint; or memory ran out
abbrev pub IsBeginRefused : Rules → (resume : ℕ) → List ℕ → Refusal → Type 0
IsBeginRefused rules resume checkpoint (TooLong told) = (resume ≢ 0) × IsTooLong input.Checkpoint checkpoint told
IsBeginRefused rules resume checkpoint (Checkpoint fault) =
    (resume ≢ 0) × (length checkpoint ≤ input_limit) × (resumed rules checkpoint ≡ Err fault)
IsBeginRefused rules resume checkpoint NoMemory = resume ≢ 0 → length checkpoint ≤ input_limit
IsBeginRefused rules resume checkpoint other = ⊥

-- the settings begin a job
abbrev pub IsMade : TmxOpening → FeedState → Type 0
IsMade o job = (rules : Rules) × AreSettings o.settings.now rules × IsBegun rules o.resume o.checkpoint.now job

-- why there is no job: what is wrong first with the settings, and then with the checkpoint; or memory ran out
abbrev pub IsMakeRefused : TmxOpening → Refusal → Type 0
IsMakeRefused o refusal =
    IsSettingsRefused o.settings.now refusal
    ⊎ ((rules : Rules) × AreSettings o.settings.now rules × IsBeginRefused rules o.resume o.checkpoint.now refusal)

-- of a job that was opened, the records that are done are answered
abbrev pub opened_with : ℕ → TmxAnswer
opened_with records = record (refused_with (with_status 0 0)) { records = records }

-- why there is no job is told in numbers and in a line
abbrev pub IsTold : Refusal → List ℕ → TmxAnswer → Type 0
IsTold refusal line answer = (answer ≡ refused_with (refusal_numbers refusal)) × TellsReason refusal line

-- the handle has the job that was asked for; or that was refused, the handle has what it had, and the line says why
abbrev pub IsOpened : TmxOpening → Option FeedState → Option FeedState → List ℕ → TmxAnswer → Type 0
IsOpened o old new line answer =
    ((job : FeedState) × IsMade o job × (new ≡ Some job) × (answer ≡ opened_with job.work.state.records) × IsText [] line 0)
    ⊎ ((new ≡ old) × ((refusal : Refusal) × IsMakeRefused o refusal × IsTold refusal line answer))

-- ---- which packets are given

-- the job gives packets of these applications alone; or one is none, and the job is as it was
abbrev pub IsJobLimited : List ℕ → FeedState → FeedState → (status : ℕ) → Type 0
IsJobLimited applications old new status =
    (GivesOnly applications old new × (status ≡ 0)) ⊎ (IsNoApplication applications × (new ≡ old) × (status ≡ 8))

-- so does the job of the handle, if it has one
abbrev pub IsLimited : List ℕ → Option FeedState → Option FeedState → (status : ℕ) → Type 0
IsLimited applications old new status =
    MatchOption old ((new ≡ None) × (status ≡ no_job_status))
    (λ job. (after : FeedState) × (new ≡ Some after) × IsJobLimited applications job after status)

-- ---- rows

-- the job gives rows of the fields that a text defines
abbrev pub TakesFields : ℕ → List ℕ → FeedState → FeedState → Type 0
TakesFields application definition old new = (fields : List Field) × AreFields definition fields × GivesRows application fields old new

-- why it gives none: there is no such application; or the definition is refused, or memory ran out
abbrev pub IsFieldsRefused : ℕ → List ℕ → List ℕ → TmxAnswer → Type 0
IsFieldsRefused application definition line answer =
    ((2047 < application) × (answer ≡ refused_with (with_status 8 0)) × IsText [] line 0)
    ⊎ ((application ≤ 2047) × ((refusal : Refusal) × IsDefinitionRefused definition refusal × IsTold refusal line answer))

-- the job gives rows of the fields that a text defines; or that is refused, and the job is as it was
abbrev pub AreJobFields : ℕ → List ℕ → List ℕ → FeedState → FeedState → TmxAnswer → Type 0
AreJobFields application definition line old new answer =
    (TakesFields application definition old new × (answer ≡ refused_with (with_status 0 0)) × IsText [] line 0)
    ⊎ ((new ≡ old) × IsFieldsRefused application definition line answer)

-- so does the job of the handle, if it has one
abbrev pub AreFieldsTaken : ℕ → List ℕ → List ℕ → Option FeedState → Option FeedState → TmxAnswer → Type 0
AreFieldsTaken application definition line old new answer =
    MatchOption old ((new ≡ None) × (answer ≡ refused_with (with_status no_job_status 0)) × IsText [] line 0)
    (λ job. (after : FeedState) × (new ≡ Some after) × AreJobFields application definition line job after answer)

-- the octets of a row of an application: none without a definition, or without a job
abbrev pub row_length_in : Option FeedState → ℕ → ℕ
row_length_in None application = 0
row_length_in (Some job) application = row_length_for job.chosen application

-- how much a record gives at most
abbrev pub AreMost : Option FeedState → (events octets status : ℕ) → Type 0
AreMost None events octets status = (events ≡ 0) × (octets ≡ 0) × (status ≡ no_job_status)
AreMost (Some job) events octets status =
    (events ≡ all_events_most job.chosen.longest) × (octets ≡ octets_most job.work.rules.max_packet job.chosen.longest) × (status ≡ 0)

-- ---- feeding

-- why a call took no more, as a status
abbrev pub stop_status : StopReason → ℕ
stop_status Done = 0
stop_status Room = 11
stop_status TooSmall = 1
stop_status TooMany = 5
stop_status Closed = 12

-- what a call did, and the records that are done in all
abbrev pub progress_of : Fed → ℕ → TmxProgress
progress_of did records = record {
  status = stop_status did.stop;
  records = records;
  used = did.used;
  events = did.events;
  octets = did.octets;
}

-- nothing was done
abbrev pub no_progress : TmxProgress
no_progress = record { status = no_job_status; records = 0; used = 0; events = 0; octets = 0 }

-- the job took of the octets, gave just what these give, and stopped for the reason that is told
abbrev pub IsJobFed : List ℕ → List Event → List ℕ → FeedState → FeedState → TmxProgress → Type 0
IsJobFed octets events packets old new progress =
    (did : Fed) × (progress ≡ progress_of did new.work.state.records) × (did.used ≤ length octets)
    × (old.end ≡ Open → IsFed old new (take did.used octets) did events packets)
    × IsStopped old new (length octets) did (length events) (length packets)

-- the job gave events of its end, and stopped for the reason that is told
abbrev pub IsJobEnded : List Event → FeedState → FeedState → TmxProgress → Type 0
IsJobEnded events old new progress =
    (did : Fed) × (did.used ≡ 0) × (did.octets ≡ 0) × (progress ≡ progress_of did new.work.state.records)
    × GivesEnd old new did.events events × EndedBy old new did.events (length events) did.stop

-- what a call does with a job
abbrev pub Doing : Type 1
Doing = FeedState → FeedState → TmxProgress → Type 0

-- a call did this with the job of the handle, if it has one
abbrev pub IsDoneWith : Doing → Option FeedState → Option FeedState → TmxProgress → Type 0
IsDoneWith did old new progress =
    MatchOption old ((new ≡ None) × (progress ≡ no_progress))
    (λ job. (after : FeedState) × (new ≡ Some after) × did job after progress)

-- ---- telling

-- the job's checkpoint stands in the room, if that is large enough; or memory ran out
abbrev pub IsJobKept : FeedState → List ℕ → ℕ → (status : ℕ) → Type 0
IsJobKept job room told status =
    (Holds room told (checkpoint_of job.work) × (status ≡ (if nat_le told (length room) then 0 else 1)))
    ⊎ ((told ≡ 0) × (status ≡ 6))

-- the checkpoint of the job of the handle, if it has one
abbrev pub IsKept : Option FeedState → List ℕ → ℕ → (status : ℕ) → Type 0
IsKept job room told status =
    MatchOption job ((told ≡ 0) × (status ≡ no_job_status)) (λ j. IsJobKept j room told status)

-- the records that are done: none without a job
abbrev pub records_of : Option FeedState → ℕ
records_of None = 0
records_of (Some job) = job.work.state.records

-- the octets of a record: none without a job
abbrev pub record_length_in : Option FeedState → ℕ
record_length_in None = 0
record_length_in (Some job) = record_size job.work
