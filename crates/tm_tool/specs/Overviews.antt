-- A list or a summary of a recording on a drain: what is known of both devices, and how it ended.
use Rattle.std.specs.Prelude.{◌≡◌, ℕ, List, Option, Result, IfErr, IfOk, OnOk}
use Rattle.std.specs.Io.KnownBytes.{Keeps}
use Rattle.tm_devices.specs.declared.device.BufferedSource as source
use Rattle.tm_devices.specs.declared.device.Drain as drain
use Rattle.tm_faults.specs.declared.run.RunFault.{RunFault}
use Rattle.tm_output.specs.Faults.{FaultsCounted}
use Rattle.tm_output.specs.Outputs.{View}
use Rattle.tm_output.specs.Seen.{out_alone}

-- what is left of the recording, how many of its calls have failed, what is known of the drain, what of it was flushed, and its number
pub record SourceAndDrain : Type 0 where
  pub left : Option (List ℕ)
  pub failures : ℕ
  pub view : View (Option (List ℕ))
  pub flushed : Option (List ℕ)
  pub number : ℕ

abbrev pub source_and_drain : {R W : Type 0} → source.Ghosts R → drain.Ghosts W → R → W → SourceAndDrain
source_and_drain r w recording out = record {
  left = r.left recording;
  failures = r.failures recording;
  view = out_alone w out;
  flushed = w.flushed out;
  number = w.fixed out;
}

-- How it ended, by what it says with `Ok`, and after a fault.
pub record Shows {T : Type 0} (IsShown : Option (List ℕ) → Option (List ℕ) → Option (List ℕ) → Option (List ℕ) → T → Type 0)
    (IsStop : Option (List ℕ) → Option (List ℕ) → View (Option (List ℕ)) → View (Option (List ℕ)) → RunFault → Type 0)
    (old new : SourceAndDrain) (result : Result T RunFault) : Type 0 where
  -- all was read, and just the lines of what was read were written, and flushed
  pub shown : IfOk result (IsShown old.left new.left old.view.out new.view.out)
  pub flushed : OnOk result (Keeps new.flushed new.view.out)
  -- the drain is the same one
  pub same : new.number ≡ old.number
  -- there is one place up to which lines were written
  pub stopped : IfErr result (IsStop old.left new.left old.view new.view)
  -- a device is blamed only where a call of it failed
  pub counts : FaultsCounted old.failures new.failures old.view.out_failures new.view.out_failures result
