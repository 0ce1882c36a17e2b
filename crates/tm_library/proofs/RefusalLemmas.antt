-- A refusal of a run is one of the call.
use Rattle.std.proofs.Common.{◌≡◌, ◌<◌, ℕ, List, [], length, refl, arith}
use Rattle.tm_faults.specs.declared.run.RunFault.{RunFault}
use Rattle.tm_faults.specs.declared.run.RunFault.TheVariants as run
use Rattle.tm_frame.specs.Layout.{most_records, record_length_of}
use Rattle.tm_frame.specs.Rules.{Rules}
use Rattle.tm_checkpoint.specs.Works.{JobState, new_job}
use Rattle.tm_output.specs.Records.{records}
use Rattle.tm_library.specs.declared.refusal.Refusal.{Refusal}
use Rattle.tm_library.specs.declared.refusal.Refusal.TheVariants.{TooMany, NoMemory}
use Rattle.tm_library.specs.Chunks.{Begins}
use Rattle.tm_library.specs.Refusals.{IsChunkRefused, IsRunRefused, run_refusal}

pub run_told : (rules : Rules) (checkpoint chunk : List ℕ) (job : JobState) (refusal : Refusal) → Begins rules checkpoint job
    → IsRunRefused job chunk refusal → IsChunkRefused rules checkpoint chunk refusal
run_told rules checkpoint chunk job TooMany begins h = (job, begins, h)
run_told rules checkpoint chunk job NoMemory begins h = begins.0
run_told rules checkpoint chunk job _ begins h = absurd h

-- a run over a whole recording, from a new job on, is refused as it fails
pub refused_by : (rules : Rules) (octets : List ℕ) (fault : RunFault)
    → (fault ≡ run.TooMany → most_records < length (records (record_length_of rules.layout) octets))
    → IsChunkRefused rules [] octets (run_refusal fault)
refused_by rules octets run.TooMany many = (new_job rules, (omega arith, refl), omega (arith, many refl))
refused_by rules octets _ many = omega arith
