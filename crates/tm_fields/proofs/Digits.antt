-- The number that digits spell, digit by digit.
use Rattle.std.proofs.Common.{◌≡◌, ℕ, suc, ◌+◌, ◌-◌, ◌*◌, ◌<◌, ◌≤◌, true, List, [], ◌∷◌, ◌++◌, length, get_or, take, ap, ◌∙◌, arith, length-append}
use Rattle.std.specs.Char.{is_ascii_digit}
use Rattle.std.specs.List.{list_all}
use Rattle.std.proofs.lemmas.List.{take_more}
use Rattle.std.proofs.lemmas.List.Sums.{AllPass-from_list_all}
use Rattle.std.proofs.lemmas.Bool.Decides.{nat_tests}
use Rattle.std.proofs.Math.Nat.{pow-succ'}
use Rattle.tm_fields.specs.Values.{digits_number}

pub digits_number_more : (digits : List ℕ) (d : ℕ) → digits_number (digits ++ (d ∷ [])) ≡ 10 * digits_number digits + (d - 48)
digits_number_more [] d = omega arith
digits_number_more (x ∷ digits) d =
    let rest = digits_number_more digits d in
    let size : length (digits ++ (d ∷ [])) ≡ suc (length digits) = omega (arith, length-append digits (d ∷ [])) in
    rw (size, rest, pow-succ' 10 (length digits)) (omega arith)

pub digits_number_at : (digits : List ℕ) (i : ℕ) → i < length digits → digits_number (take (i + 1) digits) ≡ 10 * digits_number (take i digits) + (get_or digits i 0 - 48)
digits_number_at digits i h = ap digits_number (take_more digits i 0 h) ∙ digits_number_more (take i digits) (get_or digits i 0)

digit_within : (d : ℕ) → is_ascii_digit d ≡ true → (48 ≤ d) × (d ≤ 57)
digit_within d h = (grind (arith, nat_tests), grind (arith, nat_tests))

pub digit_at : (digits : List ℕ) (i : ℕ) → list_all is_ascii_digit digits ≡ true → i < length digits → (48 ≤ get_or digits i 0) × (get_or digits i 0 ≤ 57)
digit_at digits i all h = digit_within (get_or digits i 0) (AllPass-from_list_all is_ascii_digit digits all i 0 h)
