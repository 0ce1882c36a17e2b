-- Worked examples: what the definitions say of known arguments.
use Rattle.std.proofs.Common.{◌≡◌, true, false, List, [], ◌∷◌, Some, option_map, refl, codes}
use Rattle.clap.specs.Words.{Text}
use Rattle.clap.specs.declared.error.kind.ErrorKind.TheVariants.{ArgumentConflict, DisplayHelp, DisplayVersion, MissingRequiredArgument, TooManyValues, UnknownArgument, ValueValidation}
use Rattle.clap.proofs.OnLiterals.{clap_on_literals}
use Rattle.tm_arguments.specs.declared.request.Action.{Action}
use Rattle.tm_arguments.specs.declared.request.Action.TheVariants.{Frames, Packets, Extract, Split, Fields, Summary}
use Rattle.tm_arguments.specs.declared.request.Plan.{Plan}
use Rattle.tm_arguments.specs.CommandLine.{faults_of, is_accepted, lacks_checkpoint, matches_of, plan_of, plan_with}

-- a subcommand, the settings `s`, and more
abbrev with_settings : Text → List Text → List Text
with_settings command more = command ∷ codes "--settings" ∷ codes "s" ∷ more

-- the plan with these settings, and nothing else but an action
abbrev only : Action → Plan
only action = record (plan_with [] action) { settings = Some (codes "s") }

words_taken : is_accepted (with_settings (codes "frames") (codes "r" ∷ [])) ≡ true
unfolding clap_on_literals is_accepted
words_taken = refl

listings_planned : (plan_of (with_settings (codes "frames") (codes "r" ∷ [])) ≡ Some (record (only Frames) { recording = Some (codes "r") }))
    × (plan_of (codes "packets" ∷ codes "r" ∷ codes "--settings" ∷ codes "s" ∷ []) ≡ Some (record (only Packets) { recording = Some (codes "r") }))
    × (plan_of (with_settings (codes "summary") (codes "r" ∷ [])) ≡ Some (record (only Summary) { recording = Some (codes "r") }))
unfolding clap_on_literals matches_of
listings_planned = (refl, refl, refl)

files_planned : (plan_of (with_settings (codes "extract") (codes "--report" ∷ codes "x" ∷ [])) ≡ Some (record (only Extract) { report = Some (codes "x") }))
    × (plan_of (with_settings (codes "split") (codes "--dir" ∷ codes "d" ∷ [])) ≡ Some (record (only Split) { dir = Some (codes "d") }))
    × (plan_of (with_settings (codes "fields") (codes "--definition" ∷ codes "d" ∷ codes "--apid" ∷ codes "200" ∷ []))
    ≡ Some (record (only Fields) { definition = Some (codes "d"); apid = Some 200 }))
unfolding clap_on_literals matches_of
files_planned = (refl, refl, refl)

stop_planned : plan_of (with_settings (codes "extract") (codes "--checkpoint" ∷ codes "c" ∷ codes "--stop-after" ∷ codes "3" ∷ codes "--resume" ∷ codes "b" ∷ []))
    ≡ Some (record (only Extract) { checkpoint = Some (codes "c"); stop_after = Some 3; resume = Some (codes "b") })
unfolding clap_on_literals matches_of
stop_planned = refl

-- with the flag, and without
strict_planned : (plan_of (with_settings (codes "packets") (codes "--strict" ∷ codes "r" ∷ [])) ≡ Some (record (only Packets) { recording = Some (codes "r"); strict = true }))
    × (plan_of (codes "summary" ∷ codes "--strict" ∷ codes "--settings" ∷ codes "s" ∷ []) ≡ Some (record (only Summary) { strict = true }))
    × (plan_of (with_settings (codes "packets") []) ≡ Some (record (only Packets) { strict = false }))
unfolding clap_on_literals matches_of
strict_planned = (refl, refl, refl)

-- in octets
binary_planned : (plan_of (with_settings (codes "packets") (codes "--binary" ∷ [])) ≡ Some (record (only Packets) { binary = true }))
    × (plan_of (with_settings (codes "fields") (codes "--binary" ∷ codes "--definition" ∷ codes "d" ∷ codes "--apid" ∷ codes "200" ∷ []))
    ≡ Some (record (only Fields) { definition = Some (codes "d"); apid = Some 200; binary = true }))
unfolding clap_on_literals matches_of
binary_planned = (refl, refl)

stop_alone : option_map lacks_checkpoint (plan_of (with_settings (codes "extract") (codes "--stop-after" ∷ codes "3" ∷ []))) ≡ Some true
unfolding clap_on_literals matches_of
stop_alone = refl

-- one word too many, options of other subcommands, and the version after a subcommand
unknown : (faults_of (with_settings (codes "frames") (codes "r" ∷ codes "extra" ∷ [])) ≡ UnknownArgument ∷ [])
    × (faults_of (with_settings (codes "frames") (codes "--report" ∷ codes "x" ∷ [])) ≡ UnknownArgument ∷ [])
    × (faults_of (with_settings (codes "summary") (codes "--report" ∷ codes "x" ∷ [])) ≡ UnknownArgument ∷ [])
    × (faults_of (with_settings (codes "frames") (codes "--stop-after" ∷ codes "3" ∷ [])) ≡ UnknownArgument ∷ [])
    × (faults_of (with_settings (codes "frames") (codes "--strict" ∷ [])) ≡ UnknownArgument ∷ [])
    × (faults_of (with_settings (codes "extract") (codes "--binary" ∷ [])) ≡ UnknownArgument ∷ [])
    × (faults_of (codes "packets" ∷ codes "--version" ∷ []) ≡ UnknownArgument ∷ [])
unfolding clap_on_literals faults_of
unknown = (refl, refl, refl, refl, refl, refl, refl)

-- a value of the flag, and the flag twice
flag_faults : (faults_of (with_settings (codes "packets") (codes "--strict=true" ∷ [])) ≡ TooManyValues ∷ [])
    × (faults_of (with_settings (codes "packets") (codes "--strict" ∷ codes "--strict" ∷ [])) ≡ ArgumentConflict ∷ [])
unfolding clap_on_literals faults_of
flag_faults = (refl, refl)

-- no settings, no folder, and no definition
missing : (faults_of (codes "frames" ∷ codes "r" ∷ []) ≡ MissingRequiredArgument ∷ [])
    × (faults_of (codes "extract" ∷ codes "--report" ∷ codes "x" ∷ []) ≡ MissingRequiredArgument ∷ [])
    × (faults_of (with_settings (codes "split") []) ≡ MissingRequiredArgument ∷ [])
    × (faults_of (with_settings (codes "fields") (codes "--apid" ∷ codes "200" ∷ [])) ≡ MissingRequiredArgument ∷ [])
unfolding clap_on_literals faults_of
missing = (refl, refl, refl, refl)

out_of_range : (faults_of (with_settings (codes "extract") (codes "--stop-after" ∷ codes "0" ∷ [])) ≡ ValueValidation ∷ [])
    × (faults_of (with_settings (codes "fields") (codes "--definition" ∷ codes "d" ∷ codes "--apid" ∷ codes "2048" ∷ [])) ≡ ValueValidation ∷ [])
unfolding clap_on_literals faults_of
out_of_range = (refl, refl)

asked : (faults_of (codes "fields" ∷ codes "--help" ∷ []) ≡ DisplayHelp ∷ []) × (faults_of (codes "--version" ∷ []) ≡ DisplayVersion ∷ [])
unfolding clap_on_literals faults_of
asked = (refl, refl)
