-- Where a parse has no fault, each row that it leaves has a value, and those of an option with a range are numbers in it.
use Rattle.std.proofs.Common.{◌≡◌, ◌<◌, ℕ, zero, suc, Bool, true, false, ◌&&◌, nat_lt, List, [], ◌∷◌, ◌++◌, length, Option, Some, None, is_some, option_and_then, not, refl, ap, codes, arith, inl, inr, ◌^◌, length-append}
use Rattle.std.specs.Prelude.{if◌then◌else◌, find, fold, slice_get, IfSome}
use Rattle.std.specs.List.{AllByRecursion}
use Rattle.std.specs.Option.{option_map_or}
use Rattle.std.specs.Str.{bytes_eq, chars}
use Rattle.std.proofs.lemmas.Bool.{cases_Bool, cond_both, false≢true}
use Rattle.std.proofs.lemmas.Option.{IfSome_then}
use Rattle.std.proofs.lemmas.Slice.Eq.{bytes_eq-Decides}
use Rattle.clap.specs.Lexer.{long_of, short_of}
use Rattle.clap.specs.Facts.{explicit_source, parser_of_value, unwrap_or_range}
use Rattle.clap.specs.Walk.{Held, Names, Outcome, done, waits, plain, Row, Rule, Step, value, Text, Waiting, option, Walk, action_of, after_flag, after_step, arg_by_id, arg_by_index, arg_by_long, arg_by_short, at_row, attached_value, bundle, bundle_met, bundle_step, default_rows, first_of as first_text, flag_met, has_row, is_empty, is_pending, long_met, long_or_other, more_values, nothing_held, one_of, option_met, option_word, plain_word, reacted, reading_by, row_text, rows_after, settled, settled_rows, short_met, short_or_plain, subcommand_met, subcommand_or_other, takes_several, takes_values, to_positional, used, used_as, used_by_id, values_or_missing, walk, walk_from, walked, walked_from, with_default, with_values, without, word_met}
use Rattle.clap.specs.Simple.{Shape}
use Rattle.clap.specs.Takes.{is_given}
use Rattle.clap.specs.Kinds.{Kinds, or_else, range_kinds, request_kinds, value_kinds, values_kinds}
use Rattle.clap.specs.Values.{reading_of}
use Rattle.clap.specs.ValueTests.{accepts}
use Rattle.clap.specs.Faults.{action_fault, bundle_fault, bundle_step_fault, check_fault, flag_word_fault, flags_fault, level_fault, long_fault, option_fault, other_fault, positional_fault, react_fault, repeat_fault, set_fault, settle_fault, short_fault, step_fault, use_fault, values_fault, walk_fault, word_fault, defaults_fault}
use Rattle.clap.specs.declared.builder.action.ArgAction.{ArgAction}
use Rattle.clap.specs.declared.builder.action.ArgAction.TheVariants.{Set, SetTrue}
use Rattle.clap.specs.declared.builder.value_parser.Reading.{Reading}
use Rattle.clap.specs.declared.builder.value_parser.Reading.TheVariants.{WithoutMinus}
use Rattle.clap.specs.declared.parser.matches.ValueSource.{ValueSource}
use Rattle.clap.specs.declared.parser.matches.ValueSource.TheVariants.{DefaultValue, CommandLine}
use Rattle.clap.specs.declared.error.kind.ErrorKind.{ErrorKind}
use Rattle.tm_bits.proofs.Each.{Each-append}
use Rattle.tm_arguments.specs.CommandLine.{IsBetween, numbers, number_spelled}
use Rattle.tm_arguments.proofs.Getters.{IsAccepted, first_number}

-- from the least to the most
abbrev pub Range : Type 0
Range = ℕ × ℕ

-- the range of the numbers of an option, where it has one
unfoldable pub range_of : Text → Option Range
range_of id =
    if bytes_eq id (codes "apid") then Some (0, 2047)
    else (if bytes_eq id (codes "stop-after") then Some (1, 4294967295) else None)

-- the values passed the range, and are read as its numbers
abbrev Fits : Reading → List Text → Range → Type 0
Fits how vs p = (how ≡ WithoutMinus) × AllByRecursion (IsAccepted p.0 p.1) vs

-- the row has a value, and if it is that of an option with a range its values fit
abbrev IsFilled : Row → Type 0
IsFilled r = (0 < length r.values) × ((p : Range) → range_of r.id ≡ Some p → Fits r.reading r.values p)

-- each row is filled
abbrev pub Filled : List Row → Type 0
Filled rows = AllByRecursion IsFilled rows

-- an option whose uses have a value, a flag, which has one of its own, or a request for help or the version
abbrev sized_as : ArgAction → Rule → Bool
sized_as Set a = nat_lt 0 (unwrap_or_range a.range).start_inclusive
sized_as SetTrue a = not (is_empty a.missing)
sized_as x a = not (is_empty (request_kinds x))

abbrev is_sized : Rule → Bool
is_sized a = sized_as (action_of a) a

-- the range is asked for, and nothing is given by default
abbrev OfRange : Rule → Range → Type 0
OfRange a p = (a.ignore_case ≡ false) × (parser_of_value a.parser ≡ numbers p.0 p.1) × (a.defaults ≡ [])

-- each use has a value, and one of an option with a range values that fit
abbrev pub IsRuled : Rule → Type 0
IsRuled a = (is_sized a ≡ true) × IfSome (range_of a.id) (OfRange a)

-- ---- no kinds

neither : (a b : Kinds) → or_else a b ≡ [] → (a ≡ []) × (b ≡ [])
neither [] b e = (refl, e)
neither (k ∷ ks) b e = cc

-- a test decides which fault there is and which rows are left
by_test : {X : Type 0} (b : Bool) (e f : Kinds) (rows : X → List Row) (x y : X) → (e ≡ [] → Filled (rows x)) → (f ≡ [] → Filled (rows y))
    → (if b then e else f) ≡ [] → Filled (rows (if b then x else y))
by_test true e f rows x y here there fault = here fault
by_test false e f rows x y here there fault = there fault

-- ---- rows

Filled-at_row : (id : Text) (change : Row → List Row) (missing : List Row) (rows : List Row)
    → ((r : Row) → bytes_eq r.id id ≡ true → IsFilled r → Filled (change r)) → Filled missing → Filled rows → Filled (at_row id change missing rows)
Filled-at_row id change missing [] hc hm h = hm
Filled-at_row id change missing (r ∷ rs) hc hm h =
    elim (cases_Bool (bytes_eq r.id id)) [
      | inl same ↦ rw same (Each-append IsFilled (change r) rs (hc r same h.0) h.1)
      | inr other ↦ rw other (h.0, Filled-at_row id change missing rs hc hm h.1)
    ]

Filled-with_values : (id : Text) (how : Reading) (s : ValueSource) (vs : List Text) (rows : List Row) → 0 < length vs
    → ((p : Range) → range_of id ≡ Some p → Fits how vs p) → Filled rows → Filled (with_values id how s vs rows)
Filled-with_values id how s vs rows some fit h =
    let own : (r : Row) (p : Range) → bytes_eq r.id id ≡ true → range_of r.id ≡ Some p → Fits how vs p =
    λ r p same is. fit p (rw ((bytes_eq-Decides r.id id).0 same) at is) in
    let more : (r : Row) → bytes_eq r.id id ≡ true → IsFilled r → Filled (more_values s vs r) = λ r same here. let long : 0 < length (r.values ++ vs) = omega (arith, length-append r.values vs) in
    ((long, λ p is. ((here.1 p is).0, Each-append (IsAccepted p.0 p.1) r.values vs (here.1 p is).1 (own r p same is).1)), tt) in
    Filled-at_row id (more_values s vs) _ rows more ((some, fit), tt) h

-- ---- one use

no_kind : (b : Bool) → (if b then [] else ErrorKind.ValueValidation ∷ []) ≡ [] → b ≡ true
no_kind true e = refl
no_kind false e = cc

all_accepted : (p : Range) (vs : List Text) → values_kinds false (numbers p.0 p.1) vs ≡ [] → AllByRecursion (IsAccepted p.0 p.1) vs
all_accepted p [] e = tt
all_accepted p (v ∷ vs) e =
    let (one, more) = neither (value_kinds false (numbers p.0 p.1) v) (values_kinds false (numbers p.0 p.1) vs) e in
    (no_kind (accepts false (numbers p.0 p.1) v) one, all_accepted p vs more)

values_fit : (a : Rule) (vs : List Text) (p : Range) → OfRange a p → values_fault a vs ≡ [] → Fits (reading_by a) vs p
values_fit a vs p (case_is, parser_is, defaults) e = (ap reading_of parser_is, all_accepted p vs (rw (case_is, parser_is) at e))

Filled-set : (again : Bool) (a : Rule) (vs : List Text) (rows : List Row) → 0 < length vs
    → IfSome (range_of a.id) (OfRange a) → set_fault again a vs rows ≡ [] → Filled rows → Filled (with_values a.id (reading_by a) CommandLine vs (without a.id rows))
Filled-set again a vs rows some own e h =
    Filled-with_values a.id (reading_by a) CommandLine vs (without a.id rows) some
    (λ p is. values_fit a vs p (rw is at own) (neither (repeat_fault again a.id rows) (values_fault a vs) e).1)
    (Filled-at_row a.id (λ _. []) [] rows (λ r same here. tt) tt h)

Filled-used_as : (x : ArgAction) (again : Bool) (a : Rule) (vs : List Text) (rows : List Row) → sized_as x a ≡ true
    → (is_empty (request_kinds x) ≡ true → 0 < length vs) → IfSome (range_of a.id) (OfRange a) → action_fault x again a vs rows ≡ [] → Filled rows
    → Filled (used_as x a.id (reading_by a) vs rows)
Filled-used_as Set again a vs rows sized some own e h = Filled-set again a vs rows (some refl) own e h
Filled-used_as SetTrue again a vs rows sized some own e h = Filled-set again a vs rows (some refl) own e h
Filled-used_as _ again a vs rows sized some own e h = first_of (cc, assumption)

not_empty : (vs : List Text) → not (is_empty vs) ≡ true → 0 < length vs
not_empty [] e = cc
not_empty (v ∷ vs) e = omega arith

-- an option's use with too few values has a fault, and a flag has a value for a use without one
values_there : (x : ArgAction) (a : Rule) (most : ℕ) (vs : List Text) → range_kinds (unwrap_or_range a.range).start_inclusive most (length vs) ≡ []
    → sized_as x a ≡ true → is_empty (request_kinds x) ≡ true → 0 < length (values_or_missing a vs)
values_there x a most (v ∷ vs) e sized kept = omega arith
values_there Set a most [] e sized kept =
    let bad : range_kinds (unwrap_or_range a.range).start_inclusive most 0 ≡ [] = e in let one : ErrorKind.InvalidValue ∷ [] ≡ [] = rw sized at bad in cc
values_there SetTrue a most [] e sized kept = not_empty a.missing sized
values_there _ a most [] e sized kept = cc

Filled-used : (again : Bool) (a : Rule) (vs : List Text) (rows : List Row) → IsRuled a → use_fault again a vs rows ≡ [] → Filled rows → Filled (used a vs rows)
Filled-used again a vs rows ruled e h =
    let (counted, passed) = neither _ (action_fault (action_of a) again a (values_or_missing a vs) rows) e in
    Filled-used_as (action_of a) again a (values_or_missing a vs) rows ruled.0 (values_there (action_of a) a _ vs counted ruled.0) ruled.1 passed h

-- ---- the rules

-- the one that is found passes the test, and has what all have
pub find_all : {X : Type 0} (P : X → Type 0) (p : X → Bool) (xs : List X) → AllByRecursion P xs → IfSome (find p xs) (λ x. (p x ≡ true) × P x)
find_all P p [] h = tt
find_all P p (x ∷ xs) h =
    elim (cases_Bool (p x)) [
      | inl here ↦ rw here (here, h.0)
      | inr more ↦ rw more (find_all P p xs h.1)
    ]

used_by_id-filled : (again : Bool) (o : Option Rule) (vs : List Text) (rows : List Row) → IfSome o IsRuled
    → option_map_or (λ a. use_fault again a vs rows) o [] ≡ [] → Filled rows → Filled (used_by_id o vs rows)
used_by_id-filled again None vs rows ruled e h = h
used_by_id-filled again (Some a) vs rows ruled e h = Filled-used again a vs rows ruled e h

module _ (c : List Rule) (again : Bool) (ruled : AllByRecursion IsRuled c) where
  found_ruled : (p : Rule → Bool) → IfSome (find p c) IsRuled
  found_ruled p = IfSome_then (find p c) (find_all IsRuled p c ruled) (λ a found. found.1)

  settled-filled : (p : Option (Text × List Text)) (rows : List Row)
      → option_map_or (λ q. option_map_or (λ a. use_fault again a q.1 rows) (arg_by_id c q.0) []) p [] ≡ [] → Filled rows → Filled (settled_rows c p rows)
  settled-filled None rows e h = h
  settled-filled (Some q) rows e h = used_by_id-filled again (arg_by_id c q.0) q.1 rows (found_ruled _) e h

  reacted-filled : (a : Rule) (vs : List Text) (h : Held) → IsRuled a → react_fault c again a vs h ≡ [] → Filled h.rows → Filled (reacted c a vs h).rows
  reacted-filled a vs h one e f =
      let (before, here) = neither (settle_fault c again h) _ e in Filled-used again a vs _ one here (settled-filled h.pending h.rows before f)

  option_met-filled : (a : Rule) (v : Option Text) (h : Held) → IsRuled a → option_fault c again a v h ≡ [] → Filled h.rows → Filled (option_met c a v h).0.rows
  option_met-filled a None h one e f = settled-filled h.pending h.rows e f
  option_met-filled a (Some v) h one e f = reacted-filled a (v ∷ []) h one e f

  flag_met-filled : (a : Rule) (v : Option Text) (h : Held) → IsRuled a
      → (if is_some v then ErrorKind.TooManyValues ∷ [] else react_fault c again a [] h) ≡ [] → Filled h.rows → Filled (flag_met c a v h).0.rows
  flag_met-filled a None h one e f = reacted-filled a [] h one e f
  flag_met-filled a (Some v) h one e f = f

  long_met-filled : (o : Option Rule) (v : Option Text) (h : Held) → IfSome o IsRuled → long_fault c again o v h ≡ [] → Filled h.rows → Filled (long_met c o v h).0.rows
  long_met-filled None v h one e f = f
  long_met-filled (Some a) v h one e f =
      by_test (takes_values a) _ _ (λ (m : Held × Outcome). m.0.rows) _ _ (λ k. option_met-filled a v h one k f) (λ k. flag_met-filled a v h one k f) e

  short_met-filled : (o : Option Rule) (rest : Text) (h : Held) (go : Held → Held × Outcome) (fault : Held → Kinds) → IfSome o IsRuled
      → ((k : Held) → fault k ≡ [] → Filled k.rows → Filled (go k).0.rows)
      → short_fault c again o rest h fault ≡ [] → Filled h.rows → Filled (short_met c o rest h go).0.rows
  short_met-filled None rest h go fault one more e f = f
  short_met-filled (Some a) rest h go fault one more e f =
      by_test (takes_values a) _ _ (λ (m : Held × Outcome). m.0.rows) _ _ (λ k. option_met-filled a (attached_value rest) h one k f)
      (λ (k : or_else (react_fault c again a [] h) (fault (reacted c a [] h)) ≡ []). let (here, later) = neither _ _ k in
      more (reacted c a [] h) later (reacted-filled a [] h one here f)) e

  bundle_step-filled : (x : Option ℕ) (flags : Text) (skip : ℕ) (so_far : Outcome) (h : Held) (go : Text → ℕ → Outcome → Held → Held × Outcome) (fault : Text → ℕ → Held → Kinds)
      → ((t : Text) (n : ℕ) (o : Outcome) (k : Held) → fault t n k ≡ [] → Filled k.rows → Filled (go t n o k).0.rows)
      → bundle_step_fault c again x flags skip h fault ≡ [] → Filled h.rows → Filled (bundle_step c x flags skip so_far h go).0.rows
  bundle_step-filled None flags skip so_far h go fault more e f = f
  bundle_step-filled (Some x) flags zero so_far h go fault more e f =
      short_met-filled (arg_by_short c x) _ h _ _ (found_ruled _) (λ k. more _ 0 done k) e f
  bundle_step-filled (Some x) flags (suc skip) so_far h go fault more e f = more _ skip so_far h e f

  bundle_met-filled : (k : ℕ) (flags : Text) (skip : ℕ) (so_far : Outcome) (h : Held) → flags_fault c again k flags skip h ≡ [] → Filled h.rows → Filled (bundle_met c k flags skip so_far h).0.rows
  unfolding bundle_met flags_fault
  bundle_met-filled zero flags skip so_far h e f = f
  bundle_met-filled (suc k) flags skip so_far h e f =
      bundle_step-filled (slice_get (chars flags) 0) flags skip so_far h (bundle_met c k) (flags_fault c again k) (bundle_met-filled k) e f

  -- an argument that is no flag leaves the rows
  option_word-rows : (o : Option Rule) (id argument : Text) (h : Held) → (option_word o id argument h).0.rows ≡ h.rows
  option_word-rows None id argument h = refl
  option_word-rows (Some a) id argument h = refl

  plain_word-rows : (w : Waiting) (argument : Text) (h : Held) → (plain_word c w argument h).0.rows ≡ h.rows
  plain_word-rows (option id) argument h = option_word-rows (arg_by_id c id) id argument h
  plain_word-rows _ argument h = refl

  after_flag-rows : (w : Waiting) (argument : Text) (h : Held) (o : Outcome) → (after_flag c w argument h o).0.rows ≡ h.rows
  after_flag-rows w argument h done = refl
  after_flag-rows w argument h (waits id) = refl
  after_flag-rows w argument h _ = plain_word-rows w argument h

  short_or_plain-filled : (w : Waiting) (argument : Text) (o : Option Text) (h : Held) → option_map_or (λ flags. bundle_fault c again flags h) o [] ≡ [] → Filled h.rows → Filled (short_or_plain c w argument o h).0.rows
  short_or_plain-filled w argument None h e f = rw (plain_word-rows w argument h) f
  short_or_plain-filled w argument (Some flags) h e f =
      rw (after_flag-rows w argument (bundle c flags h).0 (bundle c flags h).1) (bundle_met-filled (length flags) flags h.skip plain (record h { skip = 0 }) e f)

  long_or_other-filled : (w : Waiting) (argument : Text) (o : Option (Text × Option Text)) (h : Held) → flag_word_fault c again o argument h ≡ [] → Filled h.rows → Filled (long_or_other c w argument o h).0.rows
  long_or_other-filled w argument None h e f = short_or_plain-filled w argument (short_of argument) h e f
  long_or_other-filled w argument (Some p) h e f =
      rw (after_flag-rows w argument (long_met c (arg_by_long c p.0) p.1 h).0 (long_met c (arg_by_long c p.0) p.1 h).1)
      (long_met-filled (arg_by_long c p.0) p.1 h (found_ruled _) e f)

module _ (s : Shape) (names : Names) (ruled : AllByRecursion IsRuled s.rules) where
  other-filled : (o : Option Text) (w : Waiting) (position : ℕ) (argument : Text) (h : Held) → other_fault s o argument h ≡ [] → Filled h.rows → Filled (subcommand_or_other s.rules o w position argument h).0.rows
  other-filled (Some name) w position argument h e f = f
  other-filled None w position argument h e f =
      by_test (bytes_eq argument (45 ∷ 45 ∷ [])) _ _ (λ (m : Held × Step). m.0.rows) _ _ (λ k. f)
      (λ k. long_or_other-filled s.rules s.args_override_self ruled w argument (long_of argument) h k f) e

  word_met-filled : (t : Bool) (w : Waiting) (position : ℕ) (argument : Text) (h : Held) → word_fault s names t w argument h ≡ [] → Filled h.rows → Filled (word_met s.rules names t w position argument h).0.rows
  word_met-filled true w position argument h e f = f
  word_met-filled false w position argument h e f = other-filled (subcommand_met names w argument) w position argument h e f

  positional-filled : (o : Option Rule) (argument : Text) (w : Walk) (h : Held) (stray : Kinds)
      → option_map_or (λ a. positional_fault s.rules s.args_override_self a h) o stray ≡ [] → Filled h.rows → Filled (to_positional s.rules o argument w h).held.rows
  positional-filled None argument w h stray e f = f
  positional-filled (Some a) argument w h stray e f =
      by_test (is_pending a h.pending && takes_several a) _ _ (λ (k : Held). k.rows) _ _ (λ k. f)
      (λ k. settled-filled s.rules s.args_override_self ruled h.pending h.rows k f) e

  step-filled : (step : Step) (argument : Text) (w : Walk) (h : Held) → step_fault s w.position h step ≡ [] → Filled h.rows → Filled (after_step s.rules argument w h step).held.rows
  step-filled value argument w h e f = positional-filled (arg_by_index s.rules w.position) argument w h _ e f
  step-filled _ argument w h e f = f

  walked_from-filled : (stop : Option (Text × List Text)) (w : Walk) (argument : Text)
      → (if is_some stop then [] else or_else (word_fault s names w.is_trailing w.waiting argument w.held)
      (step_fault s w.position (word_met s.rules names w.is_trailing w.waiting w.position argument w.held).0 (word_met s.rules names w.is_trailing w.waiting w.position argument w.held).1)) ≡ []
      → Filled w.held.rows → Filled (walked_from s.rules names stop w argument).held.rows
  walked_from-filled (Some p) w argument e f = f
  walked_from-filled None w argument e f =
      let met = word_met s.rules names w.is_trailing w.waiting w.position argument w.held in
      let (here, later) = neither _ _ e in
      step-filled met.1 argument w met.0 later (word_met-filled w.is_trailing w.waiting w.position argument w.held here f)

  walk-filled : (w : Walk) (arguments : List Text) → walk_fault s names w arguments ≡ [] → Filled w.held.rows → Filled (fold (walked s.rules names) w arguments).held.rows
  unfolding walk_fault walked
  walk-filled w [] e f = f
  walk-filled w (argument ∷ rest) e f =
      let (here, later) = neither _ _ e in walk-filled (walked s.rules names w argument) rest later (walked_from-filled w.stopped w argument here f)

-- ---- defaults

default_rows-filled : (a : Rule) (vs : List Text) (rows : List Row) → ((p : Range) → range_of a.id ≡ Some p → vs ≡ []) → Filled rows → Filled (default_rows a.id (reading_by a) vs rows)
default_rows-filled a [] rows own f = f
default_rows-filled a (v ∷ vs) rows own f =
    Filled-with_values a.id (reading_by a) DefaultValue (v ∷ vs) rows (omega arith) (λ p is. absurd (cc (own p is))) f

defaults-filled : (c : List Rule) (rows : List Row) → AllByRecursion IsRuled c → Filled rows → Filled (fold with_default rows c)
defaults-filled [] rows ruled f = f
defaults-filled (a ∷ c) rows ruled f =
    defaults-filled c (with_default rows a) ruled.1 (cond_both (has_row a.id rows) _ _ Filled (λ there. f)
    (λ missing. default_rows-filled a a.defaults rows (λ p is. (rw is at ruled.0.1).2) f))

-- ---- a level

first_is : (vs : List Text) → 0 < length vs → is_some (slice_get vs 0) ≡ true
first_is [] h = absurd (omega arith)
first_is (v ∷ vs) h = refl

-- an argument that was given has a value
pub given-first : (id : Text) (rows : List Row) → Filled rows → is_given id rows ≡ true → is_some (first_text id rows) ≡ true
given-first id rows f = by_row (find (λ r. bytes_eq r.id id) rows) (find_all IsFilled _ rows f)
  where
    by_row : (o : Option Row) → IfSome o (λ r. (bytes_eq r.id id ≡ true) × IsFilled r) → option_map_or (λ r. explicit_source r.source) o false ≡ true
        → is_some (option_and_then (λ r. slice_get r.values 0) o) ≡ true
    by_row None some e = absurd (false≢true e)
    by_row (Some r) some e = first_is r.values some.1.0

known_where : {P : Type 0} (o : Option Text) → P → IfSome o (λ text. P)
known_where None h = tt
known_where (Some text) h = h

-- the text spells a number of so many bits in the range
abbrev pub IsInRange : ℕ → Range → Option Text → Type 0
IsInRange k p text = IsBetween p.0 p.1 (option_and_then (number_spelled k) text)

-- where an option with a range has a text or was given, it has a number in the range
pub number_read : (k : ℕ) (p : Range) (id : Text) (rows : List Row) → p.1 < 2 ^ k → range_of id ≡ Some p → Filled rows
    → IfSome (one_of id rows) (λ text. IsInRange k p (one_of id rows)) × (is_given id rows ≡ true → IsInRange k p (one_of id rows))
number_read k p id rows fits own f = by_row (find (λ r. bytes_eq r.id id) rows) (find_all IsFilled _ rows f)
  where
    by_row : (o : Option Row) → IfSome o (λ r. (bytes_eq r.id id ≡ true) × IsFilled r)
        → IfSome (option_and_then row_text o) (λ text. IsInRange k p (option_and_then row_text o))
        × (option_map_or (λ r. explicit_source r.source) o false ≡ true → IsInRange k p (option_and_then row_text o))
    by_row None some = (tt, λ e. absurd (false≢true e))
    by_row (Some r) (same, filled) =
        let fit = filled.1 p (rw ((bytes_eq-Decides r.id id).0 same) own) in
        let number : IsInRange k p (row_text r) = rw fit.0 (first_number k p.0 p.1 r.values fits filled.0 fit.1) in
        (known_where (row_text r) number, λ e. number)

-- the rows of a level without a fault have values, and its last checks found nothing
pub level-filled : (s : Shape) (names : Names) (arguments : List Text) (has_subcommand : Bool) (below : Kinds) → AllByRecursion IsRuled s.rules
    → level_fault s names nothing_held arguments has_subcommand below ≡ []
    → Filled (rows_after s.rules names arguments) × (check_fault s (rows_after s.rules names arguments) has_subcommand ≡ []) × (below ≡ [])
level-filled s names arguments has_subcommand below ruled e =
    let end = (walk s.rules names nothing_held arguments).held in
    let (walking, more) = neither (walk_fault s names (walk_from nothing_held) arguments) _ e in
    let (none_below, rest) = neither below _ more in
    let (settling, later) = neither (settle_fault s.rules s.args_override_self end) _ rest in
    let held = walk-filled s names ruled (walk_from nothing_held) arguments walking tt in (
      defaults-filled s.rules _ ruled (settled-filled s.rules s.args_override_self ruled end.pending end.rows settling held),
      (neither (defaults_fault (settled s.rules end).rows s.rules) _ later).1,
      none_below,
    )
