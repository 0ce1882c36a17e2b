-- The fault of arguments in which `clap` finds something wrong, by its kind of error.
use Rattle.std.specs.Prelude.{⊤, ◌≡◌, ◌≢◌, ◌⊎◌}
use Rattle.clap.specs.Kinds.{IsAmong, Kinds}
use Rattle.clap.specs.declared.error.kind.ErrorKind.{ErrorKind}
use Rattle.clap.specs.declared.error.kind.ErrorKind.TheVariants.{DisplayHelp, DisplayVersion}
use Rattle.tm_faults.specs.declared.program.UsageFault.{UsageFault}
use Rattle.tm_faults.specs.declared.program.UsageFault.TheVariants.{Usage, Help, StopAfter, NoMemory}

-- an error of this kind says what is wrong with the arguments; of the others it answers what they ask for
abbrev pub IsMistake : ErrorKind → Type 0
IsMistake kind = (kind ≢ DisplayHelp) × (kind ≢ DisplayVersion)

-- the fault that an error of this kind makes
abbrev pub IsOfKind : ErrorKind → UsageFault → Type 0
IsOfKind kind (Usage text) = IsMistake kind
IsOfKind kind (Help text) = ¬ (IsMistake kind)
IsOfKind kind NoMemory = ⊤
IsOfKind kind StopAfter = ⊥

-- memory ran out, or an error of one of these kinds makes the fault
abbrev pub IsOfOneKind : Kinds → UsageFault → Type 0
IsOfOneKind kinds fault = (fault ≡ NoMemory) ⊎ ((kind : ErrorKind) × IsAmong kind kinds × IsOfKind kind fault)
