-- What a getter's value is among the rows.
use Rattle.std.proofs.Common.{◌≡◌, ◌^◌, ◌&&◌, ◌<◌, ℕ, Bool, true, false, nat_lt, List, [], ◌∷◌, length, Option, Some, None, option_map, option_and_then, Result, Ok, Err, refl, ap, sym, codes, arith, inl, inr}
use Rattle.std.specs.Prelude.{slice_get, unwrap_or}
use Rattle.std.specs.Bool.{Decides}
use Rattle.std.specs.List.{AllByRecursion, list_all}
use Rattle.std.specs.Option.{option_map_or}
use Rattle.std.specs.Char.{digit_value}
use Rattle.std.specs.Str.{bytes_eq}
use Rattle.std.specs.Str.Parse.{AllDigits, IsNumeral, ParsesBool, ParsesUnsigned, digits_value, without_leading_plus}
use Rattle.std.proofs.lemmas.Bool.{false_from_ne_true, cases_Bool}
use Rattle.std.proofs.lemmas.Bool.Decides.{Decides-and, Decides-ltb, not_from_Decides}
use Rattle.std.proofs.lemmas.Slice.Eq.{bytes_eq-Decides}
use Rattle.clap.specs.Lexer.{without_minus}
use Rattle.clap.specs.Matches.{ReadsOne}
use Rattle.clap.specs.Values.{read_as}
use Rattle.clap.specs.ValueTests.{accepts}
use Rattle.clap.specs.Words.{Text, first_of, first_value, rows_of}
use Rattle.clap.specs.declared.builder.value_parser.Reading.TheVariants.{WithoutMinus}
use Rattle.clap.proofs.CallerReads.{signed_reads}
use Rattle.clap.specs.declared.parser.matches.Found.{Found}
use Rattle.clap.proofs.ValueTestLemmas.{accepts-Accepts}
use Rattle.clap.proofs.WalkLemmas.{first_value-rows}
use Rattle.tm_arguments.specs.CommandLine.{IsBetween, numbers, number_spelled}

pub value_read : (f : Found) (id : Text) → first_value f id ≡ first_of id (rows_of f)
value_read f id = first_value-rows f id

-- ---- flags

-- the value of a flag that `get_one` reads
pub one_flag : (E : Type 0) (o : Option Text) (r : Option Bool) → (o ≡ None → r ≡ None) → ((t : Text) → o ≡ Some t → ReadsOne {E = E} ParsesBool t r)
    → unwrap_or r false ≡ option_map_or (λ t. bytes_eq t (codes "true")) o false
one_flag E None r none value = rw (none refl) refl
one_flag E (Some t) r none value = go r (value t refl)
  where
    go : (q : Option Bool) → ReadsOne {E = E} ParsesBool t q → unwrap_or q false ≡ bytes_eq t (codes "true")
    go (Some true) h = rw h refl
    go (Some false) h = rw h refl
    go None h = sym (false_from_ne_true _ (λ e. h.1.0 ((bytes_eq-Decides t (codes "true")).0 e)))

-- ---- numbers

abbrev is_decimal : ℕ → List ℕ → Bool
is_decimal k ds = (nat_lt 0 (length ds) && list_all (λ d. nat_lt (digit_value d) 10) ds) && nat_lt (digits_value 10 ds) (2 ^ k)

digits_decide : (ds : List ℕ) → Decides (list_all (λ d. nat_lt (digit_value d) 10) ds) (AllDigits 10 ds)
digits_decide [] = (λ e. tt, λ h. refl)
digits_decide (d ∷ ds) = Decides-and _ _ (Decides-ltb (digit_value d) 10) (digits_decide ds)

-- the test of a number in so many bits
decimal_decides : (k : ℕ) (ds : List ℕ) → Decides (is_decimal k ds) (IsNumeral 10 ds × (digits_value 10 ds < 2 ^ k))
decimal_decides k ds =
    Decides-and _ _ (Decides-and _ _ (Decides-ltb 0 (length ds)) (digits_decide ds)) (Decides-ltb (digits_value 10 ds) (2 ^ k))

-- a number that `get_one` reads is the one that the text spells
pub one_number : (E : Type 0) (G : List ℕ → Result ℕ E → Type 0) (k : ℕ) (o : Option Text) (r : Option ℕ)
    → (o ≡ None → r ≡ None) → ((t : Text) → o ≡ Some t → ReadsOne G t r) → ((u : List ℕ) (x : Result ℕ E) → G u x → ParsesUnsigned k 10 u x)
    → r ≡ option_and_then (number_spelled k) o
one_number E G k None r none value only = none refl
one_number E G k (Some t) r none value only = go r (value t refl)
  where
    go : (q : Option ℕ) → ReadsOne G t q → q ≡ number_spelled k t
    go (Some n) h = let read = only t (Ok n) h in rw ((decimal_decides k (without_leading_plus t)).1 read.0) (ap Some read.1)
    go None h = rw (false_from_ne_true _ (λ e. only t (Err h.0) h.1 ((decimal_decides k (without_leading_plus t)).0 e))) refl

-- ---- numbers that passed a range

-- the number that a text spells is what reading the text gives
reads_decimal : (k : ℕ) (text : Text) → ReadsOne {T = ℕ} {E = Unit {0}} (λ u x. ParsesUnsigned k 10 u x) text (number_spelled k text)
reads_decimal k text =
    let decides = decimal_decides k (without_leading_plus text) in elim (cases_Bool (is_decimal k (without_leading_plus text))) [
      | inl is ↦ rw is (decides.0 is, refl)
      | inr not ↦ rw not (tt, not_from_Decides _ decides not)
    ]

-- the value passes the range
abbrev pub IsAccepted : ℕ → ℕ → Text → Type 0
IsAccepted least most v = accepts false (numbers least most) v ≡ true

-- the first of values that passed
pub first_number : (k least most : ℕ) (vs : List Text) → most < 2 ^ k → 0 < length vs → AllByRecursion (IsAccepted least most) vs
    → IsBetween least most (option_and_then (number_spelled k) (option_map (read_as WithoutMinus) (slice_get vs 0)))
first_number k least most [] fits h all = absurd (omega arith)
first_number k least most (v ∷ vs) fits h all =
    let read = reads_decimal k (without_minus v) in
    let passed = accepts-Accepts false (numbers least most) v all.0 in
    let got = signed_reads (Unit {0}) (λ u x. ParsesUnsigned k 10 u x) k least most v _ read (λ u x g. g) fits passed in
    (got.0, got.1, got.2, got.3)
