-- What comes of the arguments of the command line, so far as a contract can say it: what files hold and streams take has no place in one.
use Rattle.std.specs.Prelude.{◌≡◌, ◌⊎◌, ⊤, ℕ, true, false, List, [], Option, Some, None, IsSome}
use Rattle.tm_arguments.specs.CommandLine.{HasRequired, faults_of, is_accepted, lacks_checkpoint, plan_of}
use Rattle.tm_split_files.specs.Names.{file_in}
use Rattle.tm_faults.specs.declared.program.ToolFault.{ToolFault}
use Rattle.tm_faults.specs.declared.program.ToolFault.TheVariants as tool
use Rattle.tm_arguments.specs.declared.request.Plan.{Plan}
use Rattle.tm_faults.specs.declared.program.UsageFault.{UsageFault}
use Rattle.tm_faults.specs.declared.program.UsageFault.TheVariants as usage

-- ---- the files of a plan

-- the file of this name is read whole
abbrev pub IsReadWhole : Plan → List ℕ → Type 0
IsReadWhole p name = (p.settings ≡ Some name) ⊎ (p.definition ≡ Some name) ⊎ (p.resume ≡ Some name)

-- an application's file in this folder has this name
abbrev pub IsInFolder : List ℕ → List ℕ → Type 0
IsInFolder dir name = (application : ℕ) × (name ≡ file_in dir application)

-- the folder has this name, or an application's file in it
abbrev pub IsOfFolder : Option (List ℕ) → List ℕ → Type 0
IsOfFolder None name = ⊥
IsOfFolder (Some dir) name = (name ≡ dir) ⊎ IsInFolder dir name

-- the plan names a file or a folder of this name, or the folder of an application's file of this name
abbrev pub IsNamed : Plan → List ℕ → Type 0
IsNamed p name = IsReadWhole p name ⊎ (p.recording ≡ Some name) ⊎ (p.report ≡ Some name) ⊎ (p.checkpoint ≡ Some name) ⊎ IsOfFolder p.dir name

-- ---- what comes of a plan

-- a fault that may come of a plan: it names a file of the plan, and something that the plan has a file for
abbrev pub MayCome : Plan → ToolFault → Type 0
MayCome p (tool.Usage fault) = ⊥
MayCome p (tool.Settings fault) = ⊤
MayCome p (tool.Definition fault) = IsSome p.definition
MayCome p (tool.Checkpoint fault) = IsSome p.resume
MayCome p (tool.File name) = IsNamed p name
MayCome p (tool.TooLong name) = IsReadWhole p name
MayCome p tool.Errors = ⊤
MayCome p (tool.Run fault) = ⊤

-- ---- what comes of the arguments

-- the arguments ask for a plan that can be done
abbrev pub IsAsked : List (List ℕ) → Plan → Type 0
IsAsked arguments p = (plan_of arguments ≡ Some p) × (faults_of arguments ≡ []) × HasRequired p × (lacks_checkpoint p ≡ false)

-- the arguments may be refused so
abbrev pub MayRefuse : List (List ℕ) → UsageFault → Type 0
MayRefuse arguments (usage.Usage text) = ¬ (is_accepted arguments ≡ true)
MayRefuse arguments usage.StopAfter = (faults_of arguments ≡ []) × ((p : Plan) × (plan_of arguments ≡ Some p) × (lacks_checkpoint p ≡ true))
MayRefuse arguments (usage.Help text) = ¬ (is_accepted arguments ≡ true)
MayRefuse arguments usage.NoMemory = ⊤

-- the arguments may end in this fault
abbrev pub MayEnd : List (List ℕ) → ToolFault → Type 0
MayEnd arguments (tool.Usage fault) = MayRefuse arguments fault
MayEnd arguments fault = (p : Plan) × IsAsked arguments p × MayCome p fault
