-- What a fault says of the devices' counts of failures: a fault of a device comes only where that device's count rose.
use Rattle.std.specs.Prelude.{◌≡◌, ℕ, Result, MatchResult}
use Rattle.tm_devices.specs.Devices.{raised}
use Rattle.tm_faults.specs.declared.run.RunFault.{RunFault}
use Rattle.tm_faults.specs.declared.run.RunFault.TheVariants.{Read, Write, Report, ShortRecording, TooMany, NoMemory}
use Rattle.tm_output.specs.Outputs.{View, SameCounts}
use Rattle.tm_output.specs.Outputs as outputs

-- `Read` where the source's count rose, `Write` where the drain's did, and no other count rises
abbrev pub CausedByDevice : ℕ → ℕ → ℕ → ℕ → RunFault → Type 0
CausedByDevice source_old source_new out_old out_new Read = (source_new ≡ raised source_old) × (out_new ≡ out_old)
CausedByDevice source_old source_new out_old out_new Write = (source_new ≡ source_old) × (out_new ≡ raised out_old)
CausedByDevice source_old source_new out_old out_new Report = ⊥
CausedByDevice source_old source_new out_old out_new ShortRecording = ⊥
CausedByDevice source_old source_new out_old out_new TooMany = (source_new ≡ source_old) × (out_new ≡ out_old)
CausedByDevice source_old source_new out_old out_new NoMemory = (source_new ≡ source_old) × (out_new ≡ out_old)

abbrev pub FaultsCounted : {T : Type 0} → ℕ → ℕ → ℕ → ℕ → Result T RunFault → Type 0
FaultsCounted source_old source_new out_old out_new r =
    MatchResult r (λ _. (source_new ≡ source_old) × (out_new ≡ out_old)) (CausedByDevice source_old source_new out_old out_new)

-- a run over a source and two outputs
abbrev pub RunCaused : {K : Type 0} → ℕ → ℕ → View K → View K → RunFault → Type 0
RunCaused source_old source_new old new Read = (source_new ≡ raised source_old) × SameCounts old new
RunCaused source_old source_new old new Write = (source_new ≡ source_old) × outputs.CausedByOutput old new Write
RunCaused source_old source_new old new Report = (source_new ≡ source_old) × outputs.CausedByOutput old new Report
RunCaused source_old source_new old new ShortRecording = (source_new ≡ source_old) × SameCounts old new
RunCaused source_old source_new old new TooMany = (source_new ≡ source_old) × SameCounts old new
RunCaused source_old source_new old new NoMemory = (source_new ≡ source_old) × SameCounts old new

abbrev pub RunCounted : {T K : Type 0} → ℕ → ℕ → View K → View K → Result T RunFault → Type 0
RunCounted source_old source_new old new r =
    MatchResult r (λ _. (source_new ≡ source_old) × SameCounts old new) (RunCaused source_old source_new old new)
