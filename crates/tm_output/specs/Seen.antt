-- Two devices at a moment, and what of an output no call changes.
use Rattle.std.specs.Prelude.{ℕ, List, Option, None}
use Rattle.tm_devices.specs.declared.device.Drain as drain
use Rattle.tm_devices.specs.declared.device.Shelf as shelf
use Rattle.tm_output.specs.declared.outlet.Outlet as outlet
use Rattle.tm_output.specs.declared.output.Output.{Output}
use Rattle.tm_output.specs.declared.totals.Totals.{Totals}
use Rattle.tm_output.specs.Outputs.{FixedDrain, View, view}
use Rattle.tm_packet.specs.Merge.{Entries}

-- what is known of two drains
abbrev pub both : {W V : Type 0} → drain.Ghosts W → drain.Ghosts V → W → V → View (Option (List ℕ))
both w v out report = view (w.written out) (v.written report) (w.failures out) (v.failures report)

-- for a drain, where there is no report
abbrev pub out_alone : {W : Type 0} → drain.Ghosts W → W → View (Option (List ℕ))
out_alone w out = view (w.written out) None (w.failures out) 0

-- for a shelf and a drain
abbrev pub shelf_both : {H F V : Type 0} → shelf.Ghosts H F → drain.Ghosts V → H → V → View (Option (ℕ → List ℕ))
shelf_both h v shelf report = view (h.kept shelf) (v.written report) (h.refusals shelf) (v.failures report)

-- for an outlet and a drain
abbrev pub outlet_both : {O V : Type 0} (o : outlet.Ghosts O) → drain.Ghosts V → O → V → View o.Held
outlet_both o v outlet report = view (o.held outlet) (v.written report) (o.failures outlet) (v.failures report)

-- for an output's two
abbrev pub output_both : {O V : Type 0} (o : outlet.Ghosts O) → drain.Ghosts V → Output O V → View o.Held
output_both o v output = outlet_both o v output.outlet.now output.report.now

-- what no call of an output changes: which references it holds, the number of the report, and what of its outlet stays the same
pub record Fixture (M : Type 0) : Type 0 where
  pub tracker : ℕ
  pub notes : ℕ
  pub outlet : ℕ
  pub report : FixedDrain
  pub texts : M

abbrev pub fixture : {O V : Type 0} (o : outlet.Ghosts O) → drain.Ghosts V → Output O V → Fixture o.Fixed
fixture o v output = record {
  tracker = output.tracker.ghost_name;
  notes = output.notes.ghost_name;
  outlet = output.outlet.ghost_name;
  report = record { name = output.report.ghost_name; number = v.fixed output.report.now };
  texts = o.fixed output.outlet.now;
}

-- what is known of an output: what stays the same, the entries of its tracker, its two devices, and what it gave in numbers
pub record OutputState (K M : Type 0) : Type 0 where
  pub fixture : Fixture M
  pub entries : Entries
  pub view : View K
  pub totals : Totals

abbrev pub output_state : {O V : Type 0} (o : outlet.Ghosts O) → drain.Ghosts V → Output O V → OutputState o.Held o.Fixed
output_state o v output =
    record { fixture = fixture o v output; entries = output.tracker.now; view = output_both o v output; totals = output.totals }
