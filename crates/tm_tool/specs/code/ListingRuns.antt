-- What a `ListingRun` does with records: for private contracts.
use Rattle.std.specs.Prelude.{◌≡◌, ◌⊎◌, ℕ, List, [], ◌∷◌, Option, Result, MatchResult}
use Rattle.std.specs.Io.KnownBytes.{Appends}
use Rattle.tm_checkpoint.specs.Works.{Work, work_of}
use Rattle.tm_devices.specs.declared.device.Drain as drain
use Rattle.tm_faults.specs.declared.run.RunFault.{RunFault}
use Rattle.tm_output.specs.declared.command.Ending.{Ending}
use Rattle.tm_output.specs.declared.outlet.Outlet as outlet
use Rattle.tm_output.specs.declared.totals.Totals.{Totals}
use Rattle.tm_output.specs.Faults.{RunCaused}
use Rattle.tm_output.specs.Outputs.{Buffering, CausedByOutput, FixedDrain, SameCounts, Took, View, line_piece, line_pieces, octets_buffering}
use Rattle.tm_output.specs.Pieces.{Texts}
use Rattle.tm_output.specs.Seen.{out_alone, outlet_both}
use Rattle.tm_reassembly.specs.Steps.{Progress}
use Rattle.tm_tool.specs.Courses.{HasRun, IsStoppedAt, StopsWithoutMemory}
use Rattle.tm_tool.specs.Listing.{record_line, record_lines}
use Rattle.tm_tool.specs.ListedRuns.{lines_course}
use Rattle.tm_tool.specs.Runs.{course}
use Rattle.tm_tool.specs.declared.listing_run.ListingRun.{ListingRun}
use Rattle.tm_tool.specs.code.RecordLoop.{Refusing, StepStopped, Taking}
use Rattle.tm_tool.specs.code.Stepping.{Leaves, RefusesRecord, RunFixture, RunState, TakesRecords}

-- what is known of both: of the run, and where the lines go
pub record ListingRunState (K : Type 0) : Type 0 where
  pub run : RunState K
  pub lines : View (Option (List ℕ))

abbrev pub listing_run_state : {O V W : Type 0} (o : outlet.Ghosts O) → drain.Ghosts V → drain.Ghosts W → Progress → ListingRun O V W → ListingRunState o.Held
listing_run_state o v w p both = record {
  run = record { work = work_of p both.tracker.now; view = outlet_both o v both.outlet.now both.report.now; totals = both.totals };
  lines = out_alone w both.out.now;
}

-- what no call changes
pub record ListingRunFixture (M : Type 0) : Type 0 where
  pub run : RunFixture M
  pub drain : FixedDrain

abbrev pub listing_run_fixture : {O V W : Type 0} (o : outlet.Ghosts O) → drain.Ghosts V → drain.Ghosts W → Progress → ListingRun O V W → ListingRunFixture o.Fixed
listing_run_fixture o v w p both = record {
  run = record {
    rules = p.rules;
    output = record {
      tracker = both.tracker.ghost_name;
      notes = both.notes.ghost_name;
      outlet = both.outlet.ghost_name;
      report = record { name = both.report.ghost_name; number = v.fixed both.report.now };
      texts = o.fixed both.outlet.now;
    };
  };
  drain = record { name = both.out.ghost_name; number = w.fixed both.out.now };
}

-- a line isn't written, or not whole
abbrev pub RefusesItsLine : {K : Type 0} → Refusing (ListingRunState K)
RefusesItsLine old one new fault =
    StepStopped Appends octets_buffering old.run.work.state.records old.lines new.lines
    (line_piece (record_line old.run.work.rules.layout old.run.work.state.records one) ∷ []) fault

module _ {A K : Type 0} (grows : K → K → List A → Type 0) (text : Texts A) where
  -- records are taken by the run, and their lines are written
  abbrev pub TakesAndLists : Taking (ListingRunState K)
  TakesAndLists old rs new =
      TakesRecords grows text old.run rs new.run
      × Took Appends old.lines new.lines (line_pieces (record_lines old.run.work.rules.layout old.run.work.state.records rs))

  -- the run refuses a record, and nothing of its line is written
  abbrev pub RefusesInRun : Buffering → Refusing (ListingRunState K)
  RefusesInRun buffering old one new fault = RefusesRecord grows text buffering old.run one new.run fault × (new.lines ≡ old.lines)

  abbrev pub RefusesEither : Buffering → Refusing (ListingRunState K)
  RefusesEither buffering old one new fault = RefusesItsLine old one new fault ⊎ RefusesInRun buffering old one new fault

module _ {K : Type 0} (ending : Ending) (w : Work) (left_old left_new : Option (List ℕ)) (failures_old failures_new : ℕ)
    (lines_old lines_new : View (Option (List ℕ))) (run_old run_new : View K) where
  -- it stopped at a line, or before; or in the run, whose own outputs are to blame
  abbrev pub ListingRunStops : RunFault → Type 0
  ListingRunStops fault =
      (IsStoppedAt Appends octets_buffering (lines_course ending w) left_old left_new lines_old lines_new fault
      × RunCaused failures_old failures_new lines_old lines_new fault)
      ⊎ (StopsWithoutMemory Appends octets_buffering (lines_course ending w) left_old left_new lines_old lines_new
      × (failures_new ≡ failures_old) × CausedByOutput run_old run_new fault)

  module _ {A : Type 0} (grows : K → K → List A → Type 0) (buffering : Buffering) (text : Texts A) (left : Work) where
    -- with Ok both went along their courses
    pub record HasListedAndRun (totals : Totals) : Type 0 where
      pub lines : HasRun Appends octets_buffering (lines_course ending w) left_old left_new lines_old lines_new (λ count rs rest. left.state.records ≡ count)
      pub run : HasRun grows buffering (course text ending w) left_old left_new run_old run_new (Leaves text ending w left totals)
      pub same : failures_new ≡ failures_old
      pub counts : SameCounts lines_old lines_new

    abbrev pub ListingRunEnded : Result Totals RunFault → Type 0
    ListingRunEnded r = MatchResult r HasListedAndRun ListingRunStops
