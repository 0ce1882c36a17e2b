-- What was read and written when a run ended. If a source doesn't tell its octets, nothing is said of what was read.
use Rattle.std.specs.Prelude.{false, ◌≡◌, ◌≢◌, ◌⊎◌, ◌<◌, ◌+◌, ℕ, List, [], ◌∷◌, ◌++◌, length, option_map, Option, None, Some, Result, Ok, Err, IfErr, IfOk, IfSome, OnOk}
use Rattle.std.specs.Io.KnownBytes.{Appends, Consumes, Keeps}
use Rattle.tm_frame.specs.Layout.{most_records, record_length_of}
use Rattle.tm_reassembly.specs.Valid.{IsValidState}
use Rattle.tm_faults.specs.declared.run.RunFault.{RunFault}
use Rattle.tm_faults.specs.declared.run.RunFault.TheVariants.{Write, ShortRecording, TooMany, NoMemory}
use Rattle.tm_output.specs.declared.command.Ending.{Ending}
use Rattle.tm_output.specs.declared.command.Ending.TheVariants.{Close, Keep, StopAfter}
use Rattle.tm_output.specs.Outputs.{AppendsCut, Piece, RefusesPut, Stopped, Took, View, WantsMemory, Buffering}
use Rattle.tm_output.specs.Pieces.{Texts, buffering_of, text_of}
use Rattle.tm_output.specs.Shelves.{Shelves, shelf_buffering, shelf_text}
use Rattle.tm_output.specs.declared.command.Command.{Command}
pub use Rattle.tm_tool.specs.Courses.{RecordCourse, Devices, DevicesCounted, IsStoppedAt, devices_at}
use Rattle.tm_tool.specs.Endings.{AreEnough}
use Rattle.tm_output.specs.Seen.{both, shelf_both}
use Rattle.tm_devices.specs.declared.device.Drain as drain
use Rattle.tm_devices.specs.declared.device.Shelf as shelf
use Rattle.tm_devices.specs.declared.device.BufferedSource as source
use Rattle.tm_checkpoint.specs.Works.{JobState, Work}
use Rattle.tm_output.specs.declared.totals.Totals.{Totals}
use Rattle.tm_tool.specs.declared.job.CountedRun.{CountedRun}
use Rattle.tm_tool.specs.declared.job.Done.{Done}
use Rattle.tm_tool.specs.HeadPieces.{head_pieces}
use Rattle.tm_tool.specs.RunTotals.{run_totals}
use Rattle.tm_tool.specs.RecordingPieces.{records_for, further, worked, record_pieces, end_pieces, pieces}
use Rattle.tm_output.specs.Records.{record_count, rest_of}

-- the job that is kept
abbrev pub kept_of : Ending → Work → Option Work
kept_of Close w = None
kept_of Keep w = Some w
kept_of (StopAfter n) w = Some w

-- for each job: its state is a valid one, and a record has an octet
abbrev pub IsSoundWork : Work → Type 0
IsSoundWork w = IsValidState w.rules w.state × (0 < record_length_of w.rules.layout)

-- octets that are enough for an ending, from where a job has got
abbrev pub IsEnough : Ending → Work → Option (List ℕ) → List ℕ → Type 0
IsEnough ending w left read = AreEnough ending (record_length_of w.rules.layout) w.state.records left read

-- what a run writes, from where a job has got
abbrev pub course : {A : Type 0} → Texts A → Ending → Work → RecordCourse A
course text ending w = record {
  ending = ending;
  size = record_length_of w.rules.layout;
  done = w.state.records;
  pieces = λ rs. record_pieces text w rs;
  next = λ rs one. record_pieces text (worked w rs) (one ∷ []);
  at_end = λ rs rest. end_pieces text ending (worked w rs) rest;
}

-- the devices of a run into two drains
abbrev pub devices : {R W V : Type 0} → source.Ghosts R → drain.Ghosts W → drain.Ghosts V → R → W → V → Devices (Option (List ℕ))
devices r w v recording out report = devices_at (r.left recording) (r.failures recording) (both w v out report)

-- and into a shelf and a drain
abbrev pub shelf_devices : {R H F V : Type 0} → source.Ghosts R → shelf.Ghosts H F → drain.Ghosts V → R → H → V → Devices (Option (ℕ → List ℕ))
shelf_devices r h v recording shelf report = devices_at (r.left recording) (r.failures recording) (shelf_both h v shelf report)

-- the devices of a run into two drains at a moment: also their numbers, and what of each was flushed
pub record DrainsState : Type 0 where
  pub devices : Devices (Option (List ℕ))
  pub out_number : ℕ
  pub report_number : ℕ
  pub out_flushed : Option (List ℕ)
  pub report_flushed : Option (List ℕ)

abbrev pub drains_state : {R W V : Type 0} → source.Ghosts R → drain.Ghosts W → drain.Ghosts V → R → W → V → DrainsState
drains_state r w v recording out report = record {
  devices = devices r w v recording out report;
  out_number = w.fixed out;
  report_number = v.fixed report;
  out_flushed = w.flushed out;
  report_flushed = v.flushed report;
}

-- and of a run into a shelf and a drain
pub record ShelfAndDrain : Type 0 where
  pub devices : Devices (Option (ℕ → List ℕ))
  pub report_number : ℕ
  pub report_flushed : Option (List ℕ)

abbrev pub shelf_and_drain : {R H F V : Type 0} → source.Ghosts R → shelf.Ghosts H F → drain.Ghosts V → R → H → V → ShelfAndDrain
shelf_and_drain r h v recording shelf report = record {
  devices = shelf_devices r h v recording shelf report;
  report_number = v.fixed report;
  report_flushed = v.flushed report;
}

-- Records and what the ending has are written one after the other, from where the job has got. The recording is read from its beginning:
-- the records that are done come first, and nothing is written of them.
module _ {A K : Type 0} (grows : K → K → List A → Type 0) (buffering : Buffering) (text : Texts A) (ending : Ending) (w : Work) where
  -- ---- with Ok, of a run that writes this head before all else

  -- What a run over these octets comes to: just their pieces were written, this many records are done, and this is kept. The totals say what
  -- it gave and lost.
  pub record Outcome (head : List (Piece A)) (octets : List ℕ) (old new : View K) (count : ℕ) (kept : Option Work) (totals : Totals) : Type 0 where
    pub took : Took grows old new (head ++ pieces text ending w octets)
    pub count_is : count ≡ w.state.records + length (records_for ending (further w octets))
    pub kept_is : kept ≡ kept_of ending (worked w (records_for ending (further w octets)))
    pub totals_is : totals ≡ run_totals text ending w (records_for ending (further w octets)) (length (rest_of (record_length_of w.rules.layout) octets))

  -- it ran over the octets that it read, and these are what the ending reads
  pub record Ran (head : List (Piece A)) (old new : Devices K) (count : ℕ) (kept : Option Work) (totals : Totals) : Type 0 where
    pub read : List ℕ
    pub octets : Consumes old.left new.left read
    pub enough : IsEnough ending w new.left read
    pub outcome : Outcome head read old.outputs new.outputs count kept totals

  -- ---- after a fault

  -- writing stopped in the head, and nothing was read
  pub record StopsAtHead (head : List (Piece A)) (left_old left_new : Option (List ℕ)) (old new : View K) (fault : RunFault) : Type 0 where
    pub some : head ≢ []
    pub unread : left_new ≡ left_old
    pub stopped : Stopped grows buffering old new head fault

  -- or it was written, and the run stopped
  pub record StopsBehindHead (head : List (Piece A)) (left_old left_new : Option (List ℕ)) (old new : View K) (fault : RunFault) : Type 0 where
    pub mid : View K
    pub headed : Took grows old mid head
    pub stopped : IsStoppedAt grows buffering (course text ending w) left_old left_new mid new fault

  -- where a fault leaves the devices of a run with a head
  abbrev pub IsHeadedStop : List (Piece A) → Devices K → Devices K → RunFault → Type 0
  IsHeadedStop head old new fault =
      StopsAtHead head old.left new.left old.outputs new.outputs fault ⊎ StopsBehindHead head old.left new.left old.outputs new.outputs fault

  -- and without one
  abbrev pub IsStop : Devices K → Devices K → RunFault → Type 0
  IsStop old new fault = IsStoppedAt grows buffering (course text ending w) old.left new.left old.outputs new.outputs fault

  -- What a fault says of a recording that tells its octets: there is one place up to which its pieces were written; and each fault has its reason.
  pub record StoppedIn (head : List (Piece A)) (old new : View K) (fault : RunFault) (octets : List ℕ) : Type 0 where
    pub cut : AppendsCut grows old new (head ++ pieces text ending w octets)
    -- something was to be made in memory, and nothing was written of that piece
    pub memory : fault ≡ NoMemory → WantsMemory grows buffering old new (head ++ pieces text ending w octets)
    -- some octets of that packet aren't there, and nothing of it is reported
    pub refused : fault ≡ Write → buffering.flush ≡ false → RefusesPut grows old new (head ++ pieces text ending w octets)
    -- it has more records than can be counted
    pub too_many : fault ≡ TooMany → most_records < record_count (record_length_of w.rules.layout) octets
    -- it has fewer records than are done
    pub short : fault ≡ ShortRecording → record_count (record_length_of w.rules.layout) octets < w.state.records

  -- ---- of a recording that tells its octets

  -- what `Ran` says of the octets that were read holds for the whole recording
  abbrev pub RunsOverAll : List (Piece A) → Type 0
  RunsOverAll head = (old new : Devices K) (count : ℕ) (kept : Option Work) (totals : Totals) → IsSoundWork w → Ran head old new count kept totals
      → IfSome old.left (λ octets. Outcome head octets old.outputs new.outputs count kept totals)

  -- after a fault there is one place of the whole recording up to which pieces were written
  abbrev pub StopsAtOnePlace : List (Piece A) → Type 0
  StopsAtOnePlace head = (old new : Devices K) (fault : RunFault) → IsSoundWork w → IsHeadedStop head old new fault
      → IfSome old.left (StoppedIn head old.outputs new.outputs fault)

  -- and so where there is no head
  abbrev pub StopsAtOnePlaceUnheaded : Type 0
  StopsAtOnePlaceUnheaded = (old new : Devices K) (fault : RunFault) → IsSoundWork w → IsStop old new fault
      → IfSome old.left (StoppedIn [] old.outputs new.outputs fault)

-- How a job ran with a command, into two drains.
pub record RunsJob (command : Command) (ending : Ending) (job : JobState) (old new : DrainsState) (result : Result CountedRun RunFault) : Type 0 where
  pub sound : IsSoundWork job.work
  -- the drains are the same ones
  pub same_out : new.out_number ≡ old.out_number
  pub same_report : new.report_number ≡ old.report_number
  -- with Ok just the pieces of what was read were written, and flushed; what was read is what the ending reads; and a job that is kept isn't fresh
  pub ran : IfOk result (λ done. Ran Appends (buffering_of command) (text_of command) ending job.work (head_pieces command job.fresh)
      old.devices new.devices done.records (option_map (λ j. j.work) done.kept) done.totals)
  pub fresh : IfOk result (λ done. IfSome done.kept (λ j. j.fresh ≡ false))
  pub flushed_out : OnOk result (Keeps new.out_flushed new.devices.outputs.out)
  pub flushed_report : OnOk result (Keeps new.report_flushed new.devices.outputs.report)
  -- after a fault there is one place up to which pieces were written, and nothing was read past the record of the piece at which writing stopped
  pub stopped : IfErr result (IsHeadedStop Appends (buffering_of command) (text_of command) ending job.work (head_pieces command job.fresh)
      old.devices new.devices)
  -- a device is blamed only where a call of it failed
  pub counts : DevicesCounted old.devices new.devices result

-- How a job ran into a shelf and a drain: the same without a head, and a job that is kept is as fresh as it was.
pub record SplitsJob (ending : Ending) (job : JobState) (old new : ShelfAndDrain) (result : Result CountedRun RunFault) : Type 0 where
  pub sound : IsSoundWork job.work
  pub same_report : new.report_number ≡ old.report_number
  pub ran : IfOk result (λ done. Ran Shelves shelf_buffering shelf_text ending job.work [] old.devices new.devices done.records
      (option_map (λ j. j.work) done.kept) done.totals)
  pub fresh : IfOk result (λ done. IfSome done.kept (λ j. j.fresh ≡ job.fresh))
  pub flushed_report : OnOk result (Keeps new.report_flushed new.devices.outputs.report)
  pub stopped : IfErr result (IsStop Shelves shelf_buffering shelf_text ending job.work old.devices new.devices)
  pub counts : DevicesCounted old.devices new.devices result

-- a call did what this says, and its answer leaves out what was given and lost
abbrev pub IsUncounted : (Result CountedRun RunFault → Type 0) → Result Done RunFault → Type 0
IsUncounted did (Ok done) = (totals : Totals) × did (Ok (record { records = done.records; kept = done.kept; totals = totals }))
IsUncounted did (Err fault) = did (Err fault)
