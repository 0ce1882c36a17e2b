-- A job that is stopped and resumed from its checkpoints, any number of times.
use Rattle.std.specs.Prelude.{⊤, ◌≡◌, ◌<◌, ℕ, ◌+◌, ◌-◌, ◌^◌, min, Bool, List, [], ◌∷◌, ◌++◌, length, Result, Ok, Err}
use Rattle.std.specs.List.{AllByRecursion}
use Rattle.tm_frame.specs.Layout.{record_length_of}
use Rattle.tm_frame.specs.Rules.{IsLimit, Rules}
use Rattle.tm_reassembly.specs.Valid.{AllOctets}
use Rattle.tm_faults.specs.declared.run.CheckpointFault.{CheckpointFault}
use Rattle.tm_output.specs.declared.command.Ending.{Ending}
use Rattle.tm_output.specs.declared.command.Ending.TheVariants.{Close, Keep, StopAfter}
use Rattle.tm_checkpoint.specs.Checkpoints.{resumed, spelled_in}
use Rattle.tm_checkpoint.specs.declared.version.Version.{Version}
use Rattle.tm_checkpoint.specs.declared.version.Version.TheVariants.{Three}
use Rattle.tm_checkpoint.specs.Works.{JobState, Work, new_job}
use Rattle.tm_output.specs.Outputs.{Piece}
use Rattle.tm_output.specs.Pieces.{Texts}
use Rattle.tm_tool.specs.RecordingPieces.{records_for, further, pieces, worked}
use Rattle.tm_output.specs.Records.{records}

-- a stop: where a run ended, the recording as it was then, and the version of the checkpoint that was written
pub record Stop : Type 0 where
  pub ending : Ending
  pub recording : List ℕ
  pub version : Version

-- each checkpoint is of the version that is written today
abbrev pub AllOfToday : List Stop → Type 0
AllOfToday stops = AllByRecursion (λ stop. stop.version ≡ Three) stops

-- a run that ends so keeps its job
abbrev pub KeepsJob : Ending → Type 0
KeepsJob Close = ⊥
KeepsJob Keep = ⊤
KeepsJob (StopAfter n) = ⊤

-- the work of the job that a run leaves
abbrev pub work_left : Ending → Work → List ℕ → Work
work_left ending w recording = worked w (records_for ending (further w recording))

abbrev pub then_pieces : {A : Type 0} → Result JobState CheckpointFault → (JobState → List (Piece A)) → List (Piece A)
then_pieces (Ok job) more = more job
then_pieces (Err found) more = []

-- for what a fresh job writes before all else, and for what is given of each item
module _ {A : Type 0} (head : Bool → List (Piece A)) (text : Texts A) where
  -- the pieces for one run
  abbrev pub run_pieces : Ending → JobState → List ℕ → List (Piece A)
  run_pieces ending job recording = head job.fresh ++ pieces text ending job.work recording

  -- the pieces of all runs: after each stop the job is written as a checkpoint of the stop's version, and resumed from that with the same settings
  abbrev pub resumed_pieces : Ending → List ℕ → Rules → JobState → List Stop → List (Piece A)
  resumed_pieces ending last settings job [] = run_pieces ending job last
  resumed_pieces ending last settings job (stop ∷ stops) =
      run_pieces stop.ending job stop.recording
      ++ then_pieces (resumed settings (spelled_in stop.version (work_left stop.ending job.work stop.recording))) (λ next. resumed_pieces ending last settings next stops)

-- nothing is written before all else
abbrev pub no_head : {A : Type 0} → Bool → List (Piece A)
no_head fresh = []

-- each run but the last keeps its job, and each recording begins with the records that are done by then
abbrev pub Follows : ℕ → List ℕ → List (List ℕ) → List Stop → Type 0
Follows size last done [] = (more : List (List ℕ)) × (records size last ≡ done ++ more)
Follows size last done (stop ∷ stops) =
    (more : List (List ℕ)) × (records size stop.recording ≡ done ++ more) × KeepsJob stop.ending × Follows size last (done ++ records_for stop.ending more) stops

-- how many records are done after a run over a recording of `count` records, where `done` were done before
abbrev pub done_after : Ending → ℕ → ℕ → ℕ
done_after Close done count = count
done_after Keep done count = count
done_after (StopAfter n) done count = done + min n (count - done)

-- how many are done after all runs
abbrev pub done_in_all : ℕ → Ending → List ℕ → ℕ → List Stop → ℕ
done_in_all size ending last done [] = done_after ending done (length (records size last))
done_in_all size ending last done (stop ∷ stops) =
    done_in_all size ending last (done_after stop.ending done (length (records size stop.recording))) stops

-- the ending for one run that takes all these records
abbrev pub in_one : Ending → ℕ → Ending
in_one Close count = Close
in_one Keep count = StopAfter count
in_one (StopAfter n) count = StopAfter count

-- Jobs that are stopped any number of times, and resumed from checkpoints of today, give in all what one run gives of the last recording.
-- That run takes the records that are done in all.
abbrev pub GivesAsOne : {A : Type 0} → (Bool → List (Piece A)) → Texts A → Type 0
GivesAsOne head text = (ending : Ending) (last : List ℕ) (settings : Rules) (stops : List Stop) →
    length settings.channels ≡ 8 → IsLimit settings.max_packet → AllOctets (records (record_length_of settings.layout) last) →
    length (records (record_length_of settings.layout) last) < 2 ^ 32 →
    AllOfToday stops → Follows (record_length_of settings.layout) last [] stops →
    resumed_pieces head text ending last settings (new_job settings) stops
    ≡ run_pieces head text (in_one ending (done_in_all (record_length_of settings.layout) ending last 0 stops)) (new_job settings) last
