-- The command line: the command as `clap` reads it, and the plan that its matches of the arguments make.
use Rattle.std.specs.Prelude.{⊤, ◌≡◌, ◌≤◌, ◌&&◌, ◌^◌, ℕ, Bool, List, [], ◌∷◌, fold, Option, Some, None, pos, true, false, not, codes, length, nat_lt, is_some, if◌then◌else◌, option_map, option_and_then, IfSome, IsSome}
use Rattle.std.specs.Char.{digit_value}
use Rattle.std.specs.List.{list_all}
use Rattle.std.specs.Option.{option_map_or}
use Rattle.std.specs.Str.{bytes_eq}
use Rattle.std.specs.Str.Parse.{digits_value, without_leading_plus}
use Rattle.clap.specs.Walk.{Row, Rule, Text, first_of, one_of}
use Rattle.clap.specs.Simple.{App, new_app, new_rule, on_top, with_rule, with_subcommand, subcommand_of}
use Rattle.clap.specs.Takes.{takes}
use Rattle.clap.specs.Faults.{fault_of}
use Rattle.clap.specs.Kinds.{Kinds}
use Rattle.clap.specs.declared.builder.action.ArgAction.TheVariants.{SetTrue}
use Rattle.clap.specs.declared.builder.ValueParser.{ValueParser}
use Rattle.clap.specs.declared.builder.ValueParser.TheVariants as parser
use Rattle.tm_arguments.specs.declared.request.Action.{Action}
use Rattle.tm_arguments.specs.declared.request.Action.TheVariants.{Frames, Packets, Extract, Split, Fields, Summary}
use Rattle.tm_arguments.specs.declared.request.Plan.{Plan}

-- ---- the command

-- `--NAME VALUE`
abbrev pub option_rule : Text → Rule
option_rule name = record (new_rule name) { long = Some name; value_names = 1 }

-- the same, which has to be there
abbrev pub required_rule : Text → Rule
required_rule name = record (option_rule name) { required = true }

-- `--NAME`, without a value
abbrev pub flag_rule : Text → Rule
flag_rule name = record (new_rule name) { long = Some name; action = Some SetTrue }

-- RECORDING
abbrev pub recording_rule : Rule
recording_rule = record (new_rule (codes "recording")) { value_names = 1 }

-- the numbers from one to another
abbrev pub numbers : ℕ → ℕ → ValueParser
numbers least most = parser.Signed (pos least) (pos most)

-- `--stop-after N`, with N from 1 to 4294967295
abbrev pub stop_rule : Rule
stop_rule = record (option_rule (codes "stop-after")) { parser = Some (numbers 1 4294967295) }

-- `--apid N`, with N from 0 to 2047
abbrev pub apid_rule : Rule
apid_rule = record (required_rule (codes "apid")) { parser = Some (numbers 0 2047) }

-- `--settings FILE`, which every subcommand needs
abbrev pub settings_rule : Rule
settings_rule = required_rule (codes "settings")

-- `[--binary]`: what the commands take that have a binary form
abbrev pub binary_rule : Rule
binary_rule = flag_rule (codes "binary")

-- `[--strict] [RECORDING]`: what all commands but `frames` take
abbrev pub strict_rules : List Rule
strict_rules = flag_rule (codes "strict") ∷ recording_rule ∷ []

-- `[--report FILE] [--checkpoint FILE] [--stop-after N] [--resume FILE] [--strict] [RECORDING]`: what a job takes
abbrev pub job_rules : List Rule
job_rules = option_rule (codes "report") ∷ option_rule (codes "checkpoint") ∷ stop_rule ∷ option_rule (codes "resume") ∷ strict_rules

-- a subcommand of this name, with these rules
abbrev pub app_with : Text → List Rule → App
app_with name rules = fold with_rule (new_app name) rules

-- the subcommands
abbrev pub subcommands : List App
subcommands =
    app_with (codes "frames") (settings_rule ∷ recording_rule ∷ [])
    ∷ app_with (codes "packets") (settings_rule ∷ binary_rule ∷ job_rules)
    ∷ app_with (codes "extract") (settings_rule ∷ job_rules)
    ∷ app_with (codes "split") (settings_rule ∷ required_rule (codes "dir") ∷ job_rules)
    ∷ app_with (codes "fields") (settings_rule ∷ required_rule (codes "definition") ∷ apid_rule ∷ binary_rule ∷ job_rules)
    ∷ app_with (codes "summary") (settings_rule ∷ strict_rules)
    ∷ []

-- without a subcommand, of the arguments after the program's name; it has a version
abbrev pub bare : App
bare = on_top (λ s. record s { no_binary_name = true; disable_help_subcommand = true; subcommand_required = true; has_version = true }) (new_app (codes "tmx"))

-- the whole command, one of whose subcommands has to be there
abbrev pub tmx : App
tmx = fold (λ a s. with_subcommand a s.top) bare subcommands

-- ---- what `clap` makes of the arguments

-- the command takes the arguments, by `clap`'s own definition
unfoldable pub is_accepted : List Text → Bool
is_accepted arguments = takes tmx arguments

-- the kinds of error that the arguments give, by `clap`'s own definition
unfoldable pub faults_of : List Text → Kinds
faults_of arguments = fault_of tmx arguments

-- the subcommand of the arguments and its matches, by `clap`'s own definition
unfoldable pub matches_of : List Text → Option (Text × List Row)
matches_of arguments = subcommand_of tmx arguments

-- ---- what the matches say

abbrev pub action_named : Text → Option Action
action_named argument =
    if bytes_eq argument (codes "frames") then Some Frames
    else (if bytes_eq argument (codes "packets") then Some Packets
    else (if bytes_eq argument (codes "extract") then Some Extract
    else (if bytes_eq argument (codes "split") then Some Split
    else (if bytes_eq argument (codes "fields") then Some Fields
    else (if bytes_eq argument (codes "summary") then Some Summary else None)))))

-- the number that a text spells in decimal, where it is one of so many bits
abbrev pub number_spelled : ℕ → Text → Option ℕ
number_spelled bits text =
    let digits = without_leading_plus text in
    if (nat_lt 0 (length digits) && list_all (λ d. nat_lt (digit_value d) 10) digits) && nat_lt (digits_value 10 digits) (2 ^ bits)
    then Some (digits_value 10 digits) else None

-- the flag is there: `clap` gives it the value `true` where it is among the arguments, and else `false`
abbrev pub has_flag : Text → List Row → Bool
has_flag name rows = option_map_or (λ text. bytes_eq text (codes "true")) (one_of name rows) false

-- the plan of an action and the matches of its subcommand
abbrev pub plan_with : List Row → Action → Plan
plan_with rows action = record {
  action = action;
  recording = first_of (codes "recording") rows;
  settings = first_of (codes "settings") rows;
  report = first_of (codes "report") rows;
  checkpoint = first_of (codes "checkpoint") rows;
  stop_after = option_and_then (number_spelled 32) (one_of (codes "stop-after") rows);
  resume = first_of (codes "resume") rows;
  dir = first_of (codes "dir") rows;
  definition = first_of (codes "definition") rows;
  apid = option_and_then (number_spelled 16) (one_of (codes "apid") rows);
  binary = has_flag (codes "binary") rows;
  strict = has_flag (codes "strict") rows;
}

-- the plan of a subcommand and its matches
abbrev pub plan_in : Text × List Row → Option Plan
plan_in p = option_map (plan_with p.1) (action_named p.0)

-- the plan of the arguments
abbrev pub plan_of : List Text → Option Plan
plan_of arguments = option_and_then plan_in (matches_of arguments)

-- a number is there, from the least to the most
abbrev pub IsBetween : ℕ → ℕ → Option ℕ → Type 0
IsBetween least most o = (n : ℕ) × (o ≡ Some n) × (least ≤ n) × (n ≤ most)

-- splitting needs a folder, and reading fields a definition and an application
abbrev pub HasNeeds : Action → Plan → Type 0
HasNeeds Frames p = ⊤
HasNeeds Packets p = ⊤
HasNeeds Extract p = ⊤
HasNeeds Split p = IsSome p.dir
HasNeeds Fields p = IsSome p.definition × IsBetween 0 2047 p.apid
HasNeeds Summary p = ⊤

-- what its action needs is there
abbrev pub HasRequired : Plan → Type 0
HasRequired p = IsSome p.settings × HasNeeds p.action p

-- the text after `--stop-after`
abbrev pub stop_text_of : List Text → Option Text
stop_text_of arguments = option_and_then (λ found. one_of (codes "stop-after") found.1) (matches_of arguments)

-- where `--stop-after` is among the arguments, its number is there, in its range
abbrev pub HasStop : List Text → Plan → Type 0
HasStop arguments p = IfSome (stop_text_of arguments) (λ text. IsBetween 1 4294967295 p.stop_after)

-- `--stop-after` stands without `--checkpoint`
abbrev pub lacks_checkpoint : Plan → Bool
lacks_checkpoint p = is_some p.stop_after && not (is_some p.checkpoint)
