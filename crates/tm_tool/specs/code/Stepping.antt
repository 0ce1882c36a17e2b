-- What a run does with records, and with all that its ending reads: for private contracts.
use Rattle.std.specs.Prelude.{◌≡◌, ℕ, List, [], ◌∷◌, Result}
use Rattle.tm_frame.specs.Rules.{Rules}
use Rattle.tm_faults.specs.declared.run.RunFault.{RunFault}
use Rattle.tm_output.specs.declared.command.Ending.{Ending}
use Rattle.tm_output.specs.declared.command.Ending.TheVariants.{Close, Keep, StopAfter}
use Rattle.tm_tool.specs.Courses.{HasEnded}
use Rattle.tm_output.specs.Outputs.{View, Buffering, Took}
use Rattle.tm_output.specs.Pieces.{Texts, noted_all}
use Rattle.tm_output.specs.Totals.{totals_with_items, with_unclosed}
use Rattle.tm_output.specs.declared.totals.Totals.{Totals}
use Rattle.tm_packet.specs.Merge as sequence
use Rattle.tm_reassembly.specs.Items.{closing}
use Rattle.tm_reassembly.specs.Steps.{Progress}
use Rattle.tm_output.specs.Seen.{Fixture, fixture, outlet_both, output_both}
use Rattle.tm_tool.specs.code.RecordLoop.{Refusing, StepStopped, Taking}
use Rattle.tm_output.specs.declared.output.Output.{Output}
use Rattle.tm_output.specs.declared.outlet.Outlet as outlet
use Rattle.tm_devices.specs.declared.device.Drain as drain
use Rattle.tm_devices.specs.declared.device.BufferedSource as source
use Rattle.tm_checkpoint.specs.Works.{Work, work_of}
use Rattle.tm_tool.specs.RecordingPieces.{worked, record_pieces}
use Rattle.tm_tool.specs.RunTotals.{run_totals, totals_of}
use Rattle.tm_tool.specs.Runs.{Devices, course, devices_at, kept_of}
use Rattle.tm_tool.specs.code.Summing.{CountedRecords}

-- what is known of a run: how far it has got, its two outputs, and what it gave and lost so far, in numbers
pub record RunState (K : Type 0) : Type 0 where
  pub work : Work
  pub view : View K
  pub totals : Totals

abbrev pub run_state : {O V : Type 0} (o : outlet.Ghosts O) → drain.Ghosts V → Progress → Output O V → RunState o.Held
run_state o v p output = record { work = work_of p output.tracker.now; view = output_both o v output; totals = output.totals }

-- what no call changes
pub record RunFixture (M : Type 0) : Type 0 where
  pub rules : Rules
  pub output : Fixture M

abbrev pub run_fixture : {O V : Type 0} (o : outlet.Ghosts O) → drain.Ghosts V → Progress → Output O V → RunFixture o.Fixed
run_fixture o v p output = record { rules = p.rules; output = fixture o v output }

-- what an ending adds to the numbers, where this many octets are left
abbrev pub with_end : {A : Type 0} → Texts A → Ending → Work → ℕ → Totals → Totals
with_end text Close w rest t =
    with_unclosed (totals_with_items text w.entries t (closing w.state rest)) (sequence.unclosed 0 (noted_all w.entries (closing w.state rest)))
with_end text Keep w rest t = t
with_end text (StopAfter n) w rest t = t

module _ {A K : Type 0} (grows : K → K → List A → Type 0) where
  -- an output takes records: their pieces are written, and what they give is counted
  abbrev pub TakesRecords : Texts A → Taking (RunState K)
  TakesRecords text old rs new =
      (new.work ≡ worked old.work rs) × Took grows old.view new.view (record_pieces text old.work rs)
      × CountedRecords (totals_of text old.work.rules) old.work rs old.totals new.totals

  -- and it refuses one
  abbrev pub RefusesRecord : Texts A → Buffering → Refusing (RunState K)
  RefusesRecord text buffering old one new fault =
      StepStopped grows buffering old.work.state.records old.view new.view (record_pieces text old.work (one ∷ [])) fault

-- what is known of the devices of a run into an outlet and a drain
abbrev pub outlet_devices : {R O V : Type 0} → source.Ghosts R → (o : outlet.Ghosts O) → drain.Ghosts V → R → O → V → Devices o.Held
outlet_devices r o v recording outlet report = devices_at (r.left recording) (r.failures recording) (outlet_both o v outlet report)

-- and into an output
abbrev pub output_devices : {R O V : Type 0} → source.Ghosts R → (o : outlet.Ghosts O) → drain.Ghosts V → R → Output O V → Devices o.Held
output_devices r o v recording output = devices_at (r.left recording) (r.failures recording) (output_both o v output)

module _ {A : Type 0} (text : Texts A) (ending : Ending) (w left : Work) where
  -- what a run leaves: this many records are done, this is kept of the work that is left, and the totals say what it gave and lost
  abbrev pub Leaves : Totals → ℕ → List (List ℕ) → ℕ → Type 0
  Leaves totals count rs rest =
      (left.state.records ≡ count) × (kept_of ending left ≡ kept_of ending (worked w rs)) × (totals ≡ run_totals text ending w rs rest)

  -- how it ended
  abbrev pub RunHasEnded : {K : Type 0} → (K → K → List A → Type 0) → Buffering → Devices K → Devices K → Result Totals RunFault → Type 0
  RunHasEnded grows buffering old new r = HasEnded grows buffering (course text ending w) old new Leaves r
