-- Words that give no error have a plan, with what its action needs.
use Rattle.std.proofs.Common.{◌≡◌, ◌∙◌, Bool, sym, List, [], ◌∷◌, true, false, not, refl, Option, Some, None, is_some, option_map, Result, Ok, Err, IfErr, IfOk, codes, inl, inr, subst, ℕ, ◌^◌, drop, slice_index_or}
use Rattle.std.specs.Prelude.{⊤, if◌then◌else◌, find, IfSome}
use Rattle.std.specs.List.{AllByRecursion, list_any}
use Rattle.std.specs.Option.{option_map_or}
use Rattle.std.proofs.lemmas.Bool.{cases_Bool, false≢true}
use Rattle.std.proofs.lemmas.Option.{same_Some}
use borrow.Author.Tests.{ltb-true}
use Rattle.clap.specs.Kinds.{Kinds, FailsBy, HasKind}
use Rattle.clap.specs.declared.error.Error.{Error}
use Rattle.clap.specs.declared.error.kind.ErrorKind.TheVariants.{MissingRequiredArgument, MissingSubcommand, OutOfMemory}
use Rattle.clap.specs.Words.{kind_of, is_simple, is_simple_and_free}
use Rattle.clap.specs.Walk.{Row, Text, answers_to, first_of, nothing_held, one_of, rows_after, walk}
use Rattle.clap.specs.Simple.{App, Shape, built, entered, label_of, names_of, rows_at}
use Rattle.clap.specs.Takes.{is_given}
use Rattle.clap.specs.Faults.{check_fault, entered_fault, level_fault}
use Rattle.clap.proofs.OnLiterals.{clap_on_literals}
use Rattle.tm_arguments.specs.declared.request.Action.{Action}
use Rattle.tm_arguments.specs.declared.request.Action.TheVariants.{Frames, Packets, Extract, Split, Fields, Summary}
use Rattle.tm_arguments.specs.declared.request.Plan.{Plan}
use Rattle.tm_faults.specs.declared.program.UsageFault.{UsageFault}
use Rattle.tm_faults.specs.declared.program.UsageFault.TheVariants.{NoMemory}
use Rattle.tm_arguments.specs.Refusals.{IsOfKind, IsOfOneKind}
use Rattle.tm_arguments.specs.CommandLine.{tmx, plan_with, action_named, faults_of, matches_of, plan_of, HasNeeds, HasRequired, HasStop, IsBetween}
use Rattle.tm_arguments.proofs.Filled.{Filled, find_all, IsInRange, IsRuled, level-filled, given-first, number_read, range_of}

pub tmx_simple : is_simple tmx ≡ true
unfolding clap_on_literals
tmx_simple = refl

pub tmx_free : is_simple_and_free tmx ≡ true
unfolding clap_on_literals
tmx_free = refl

-- an `Ok` comes only where no kind of error does, and an `Err` has one of the kinds
pub told_of : {T : Type 0} (r : Result T Error) (a b : Kinds) → a ≡ b → FailsBy a r → IfOk r (λ _. b ≡ []) × IfErr r (HasKind b)
told_of (Ok x) a b e h = (sym e ∙ h, tt)
told_of (Err x) a b e h = (tt, subst (λ (kinds : Kinds). HasKind kinds x) e h)

-- the fault that is made of such an error
pub fault_of_one : (kinds : Kinds) (e : Error) (f : UsageFault) → HasKind kinds e → (kind_of e ≡ OutOfMemory → f ≡ NoMemory) → IsOfKind (kind_of e) f
    → IsOfOneKind kinds f
fault_of_one kinds e f (inl out) memory is = inl (memory out)
fault_of_one kinds e f (inr among) memory is = inr (kind_of e, among, is)

abbrev tmx_built : App
tmx_built = built tmx

-- the subcommand of this place
abbrev shape_at : ℕ → Shape
shape_at i = slice_index_or tmx_built.subs i tmx_built.top

-- the option has a value
abbrev HasValue : Text → List Row → Type 0
HasValue id rows = is_some (first_of id rows) ≡ true

-- what the action needs has its values
abbrev GivenFor : Action → List Row → Type 0
GivenFor Split rows = HasValue (codes "dir") rows
GivenFor Fields rows = HasValue (codes "definition") rows × IsInRange 16 (0, 2047) (one_of (codes "apid") rows)
GivenFor _ rows = ⊤

-- where `--stop-after` has a text, it has a number in its range
abbrev GivenStop : List Row → Type 0
GivenStop rows = IfSome (one_of (codes "stop-after") rows) (λ text. IsInRange 32 (1, 4294967295) (one_of (codes "stop-after") rows))

-- the matches are of a subcommand that names an action, and have its settings and what it needs
abbrev Reaches : Option (Text × List Row) → Type 0
Reaches found =
    (name : Text) × (rows : List Row) × (action : Action) × (found ≡ Some (name, rows)) × (action_named name ≡ Some action)
    × HasValue (codes "settings") rows × GivenFor action rows × GivenStop rows

-- ---- the subcommands

-- the subcommand names an action, and its last checks ask for its settings and for what it needs
abbrev IsAsking : Shape → Type 0
IsAsking s = AllByRecursion IsRuled s.rules × (action : Action) × (action_named s.name ≡ Some action)
    × ((rows : List Row) → Filled rows → check_fault s rows false ≡ [] → HasValue (codes "settings") rows × GivenFor action rows)

-- where nothing is missing that is asked for, each of these is given
all_given : (rows : List Row) (ids : List Text) → (if list_any (λ id. not (is_given id rows)) ids then MissingRequiredArgument ∷ [] else []) ≡ []
    → AllByRecursion (λ id. is_given id rows ≡ true) ids
all_given rows [] e = tt
all_given rows (id ∷ ids) e =
    elim (cases_Bool (is_given id rows)) [
      | inl given ↦ (given, all_given rows ids (rw given at e))
      | inr missing ↦ absurd (cc (rw missing at e))
    ]

ranges : (range_of (codes "apid") ≡ Some (0, 2047)) × (range_of (codes "stop-after") ≡ Some (1, 4294967295))
unfolding range_of
ranges = (refl, refl)

settings_given : (rows : List Row) → Filled rows → check_fault (shape_at 0) rows false ≡ [] → HasValue (codes "settings") rows
settings_given rows f e = given-first (codes "settings") rows f (all_given rows (codes "settings" ∷ []) e).0

split_given : (rows : List Row) → Filled rows → check_fault (shape_at 3) rows false ≡ [] → HasValue (codes "settings") rows × HasValue (codes "dir") rows
split_given rows f e =
    let given = all_given rows (codes "settings" ∷ codes "dir" ∷ []) e in
    (given-first (codes "settings") rows f given.0, given-first (codes "dir") rows f given.1.0)

fields_given : (rows : List Row) → Filled rows → check_fault (shape_at 4) rows false ≡ [] → HasValue (codes "settings") rows × GivenFor Fields rows
fields_given rows f e =
    let given = all_given rows (codes "settings" ∷ codes "definition" ∷ codes "apid" ∷ []) e in
    let apid = (number_read 16 (0, 2047) (codes "apid") rows (ltb-true 2047 (2 ^ 16) refl) ranges.0 f).1 given.1.1.0 in
    (given-first (codes "settings") rows f given.0, (given-first (codes "definition") rows f given.1.0, apid))

-- what every job takes after its settings, and help
job_ruled : AllByRecursion IsRuled (drop 1 (shape_at 2).rules)
unfolding range_of
job_ruled = ((refl, tt), ((refl, tt), ((refl, (refl, refl, refl)), ((refl, tt), ((refl, tt), ((refl, tt), ((refl, tt), tt)))))))

subcommands_ask : AllByRecursion IsAsking tmx_built.subs
unfolding range_of
subcommands_ask =
    let frames : IsAsking (shape_at 0) = (((refl, tt), ((refl, tt), ((refl, tt), tt))), Frames, refl, λ rows f e. (settings_given rows f e, tt)) in
    let packets : IsAsking (shape_at 1) = (((refl, tt), ((refl, tt), job_ruled)), Packets, refl, λ rows f e. (settings_given rows f e, tt)) in
    let extract : IsAsking (shape_at 2) = (((refl, tt), job_ruled), Extract, refl, λ rows f e. (settings_given rows f e, tt)) in
    let split : IsAsking (shape_at 3) = (((refl, tt), ((refl, tt), job_ruled)), Split, refl, split_given) in
    let fields : IsAsking (shape_at 4) = (((refl, tt), ((refl, tt), ((refl, (refl, refl, refl)), ((refl, tt), job_ruled)))), Fields, refl, fields_given) in
    let summary : IsAsking (shape_at 5) = (((refl, tt), ((refl, tt), ((refl, tt), ((refl, tt), tt)))), Summary, refl, λ rows f e. (settings_given rows f e, tt)) in
    (frames, (packets, (extract, (split, (fields, (summary, tt))))))

-- ---- the matches

reach : (s : Shape) (arguments : List Text) → IsAsking s → level_fault s [] nothing_held arguments false [] ≡ [] → Reaches (Some (rows_at s arguments))
reach s arguments (ruled, action, named, asks) e =
    let leaf = level-filled s [] arguments false [] ruled e in
    let rows : List Row = rows_after s.rules [] arguments in
    let there = asks rows leaf.0 leaf.1 in
    let stop = (number_read 32 (1, 4294967295) (codes "stop-after") rows (ltb-true 4294967295 (2 ^ 32) refl) ranges.1 leaf.0).0 in
    (s.name, rows, action, refl, named, there.0, there.1, stop)

top_ruled : AllByRecursion IsRuled tmx_built.top.rules
unfolding range_of
top_ruled = ((refl, tt), ((refl, tt), tt))

wants_subcommand : (rows : List Row) (has : Bool) → check_fault tmx_built.top rows has ≡ [] → has ≡ true
wants_subcommand rows true e = refl
wants_subcommand rows false e = let bad : MissingSubcommand ∷ [] ≡ [] = e in cc

enter_found : (o : Option Shape) (chosen : Shape → Bool) (arguments : List Text) → IfSome o (λ s. (chosen s ≡ true) × IsAsking s)
    → option_map_or (λ s. level_fault s [] nothing_held arguments false []) o [] ≡ [] → is_some (option_map (λ s. rows_at s arguments) o) ≡ true
    → Reaches (option_map (λ s. rows_at s arguments) o)
enter_found None chosen arguments asks e some = absurd (false≢true some)
enter_found (Some s) chosen arguments asks e some = reach s arguments asks.1 e

enter : (stop : Option (Text × List Text)) → entered_fault tmx_built stop ≡ [] → is_some (entered tmx_built stop) ≡ true → Reaches (entered tmx_built stop)
enter None e some = absurd (false≢true some)
enter (Some q) e some =
    let chosen : Shape → Bool = λ s. answers_to q.0 (label_of s) in
    enter_found (find chosen tmx_built.subs) chosen q.1 (find_all IsAsking chosen tmx_built.subs subcommands_ask) e some

pub reaches : (arguments : List Text) → faults_of arguments ≡ [] → Reaches (matches_of arguments)
unfolding faults_of matches_of
reaches arguments h =
    let stop : Option (Text × List Text) = (walk tmx_built.top.rules (names_of tmx_built) nothing_held arguments).stopped in
    let top = level-filled tmx_built.top (names_of tmx_built) arguments (is_some (entered tmx_built stop)) (entered_fault tmx_built stop) top_ruled h in
    enter stop top.2 (wants_subcommand (rows_after tmx_built.top.rules (names_of tmx_built) arguments) _ top.1)

-- ---- the plan

needs_there : (action : Action) (rows : List Row) → GivenFor action rows → HasNeeds action (plan_with rows action)
needs_there Split rows given = given
needs_there Fields rows given = given
needs_there _ rows given = tt

pub planned : (arguments : List Text) (plan : Plan) → Reaches (matches_of arguments) → plan_of arguments ≡ Some plan → HasRequired plan × HasStop arguments plan
planned arguments plan (name, rows, action, is, named, settings, given, stop) e =
    let known : Some (plan_with rows action) ≡ Some plan = rw (is, named) at e in
    rw is (subst (λ (p : Plan). HasRequired p × IfSome (one_of (codes "stop-after") rows) (λ text. IsBetween 1 4294967295 p.stop_after)) (same_Some _ _ known)
    ((settings, needs_there action rows given), stop))

pub some_plan : (arguments : List Text) → Reaches (matches_of arguments) → plan_of arguments ≡ None → ⊥
some_plan arguments (name, rows, action, is, named, settings, given, stop) e =
    let none : Some (plan_with rows action) ≡ None = rw (is, named) at e in cc
