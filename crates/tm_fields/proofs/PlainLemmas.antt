-- Values that CSV writes as they are: numbers and raw digits.
use Rattle.std.proofs.Common.{◌≡◌, ℕ, zero, suc, ◌^◌, ◌<◌, ◌≤◌, Bool, true, false, ◌||◌, ◌==◌, ◌/◌, ◌%◌, List, [], ◌∷◌, ◌++◌, length, refl, ap, sym, ◌∙◌, append_assoc, inl, inr, arith, rules, slice_index}
use Rattle.std.specs.List.{list_any}
use Rattle.std.specs.Char.{digit_value}
use Rattle.std.specs.Fmt.{decimal}
use Rattle.std.specs.Str.Parse.{AllDigits}
use Rattle.std.proofs.lemmas.Bool.{cases_Bool, ne_eqb}
use Rattle.std.proofs.lemmas.Fmt.{decimal_is_IsNumeral, length-decimal-le}
use Rattle.std.proofs.lemmas.List.{append-nil}
use Rattle.std.proofs.lemmas.List.Folds.{list_any-append}
use Rattle.csv.specs.Writing.{default_writer, fields_text, needs_byte, needs_quotes, row_body}
use Rattle.hex.specs.Hex.{encode_lower, encode_with, lower_digits}
use Rattle.tm_bits.specs.Escape.{escaped, is_plain, octet_text}
use Rattle.tm_fields.specs.Rows.{raw}
use Rattle.tm_fields.proofs.LineLemmas.{fields_of_both}

-- an octet that CSV writes as it is
abbrev is_set_apart : ℕ → Bool
is_set_apart octet = needs_byte default_writer octet

column : (value : List ℕ) → list_any is_set_apart value ≡ false → fields_text default_writer (value ∷ []) ≡ 44 ∷ value
unfolding fields_text
column value plain = rw (plain, append-nil value) refl

digit_plain : (c : ℕ) → digit_value c < 10 → is_set_apart c ≡ false
digit_plain c digit =
    let comma = ne_eqb c 44 (λ e. let d = rw e at digit in omega (arith, d)) in
    let quote = ne_eqb c 34 (λ e. let d = rw e at digit in omega (arith, d)) in
    let return = ne_eqb c 13 (λ e. let d = rw e at digit in omega (arith, d)) in
    let feed = ne_eqb c 10 (λ e. let d = rw e at digit in omega (arith, d)) in
    rw (comma, quote, return, feed) refl

digits_plain : (digits : List ℕ) → AllDigits 10 digits → list_any is_set_apart digits ≡ false
digits_plain [] all = refl
digits_plain (c ∷ digits) all = rw (digit_plain c all.0, digits_plain digits all.1) refl

decimal_plain : (n : ℕ) → n < 2 ^ 64 → list_any is_set_apart (decimal n) ≡ false
decimal_plain n small = digits_plain (decimal n) (decimal_is_IsNumeral n small).0.1

pub twenty_digits : (n : ℕ) → n < 2 ^ 64 → length (decimal n) ≤ 20
twenty_digits n small = length-decimal-le 20 n (omega arith) (omega arith) (omega arith)

pub number_made : (n : ℕ) → n < 2 ^ 64 → 44 ∷ decimal n ≡ fields_text default_writer (decimal n ∷ [])
number_made n small = sym (column (decimal n) (decimal_plain n small))

pub negative_made : (n : ℕ) → n < 2 ^ 64 → 44 ∷ 45 ∷ decimal n ≡ fields_text default_writer ((45 ∷ decimal n) ∷ [])
negative_made n small = sym (column (45 ∷ decimal n) (decimal_plain n small))

pub ruleset number_rules = (twenty_digits, number_made)

pub ruleset negative_rules = (twenty_digits, negative_made)

-- four numbers with a comma before each but the first
pub lead_made : (n a b c : ℕ) → n < 2 ^ 64 → a < 2 ^ 64 → b < 2 ^ 64 → c < 2 ^ 64
    → decimal n ++ 44 ∷ (decimal a ++ 44 ∷ (decimal b ++ 44 ∷ (decimal c ++ [])))
    ≡ row_body default_writer (decimal n ∷ decimal a ∷ decimal b ∷ decimal c ∷ [])
lead_made n a b c n_small a_small b_small c_small =
    rw (
      append-nil (decimal c),
      decimal_plain n n_small,
      fields_of_both (decimal a ∷ []) (decimal b ∷ decimal c ∷ []),
      fields_of_both (decimal b ∷ []) (decimal c ∷ []),
      column (decimal a) (decimal_plain a a_small),
      column (decimal b) (decimal_plain b b_small),
      column (decimal c) (decimal_plain c c_small),
    ) refl

pub ten_digits : (n : ℕ) → n < 2 ^ 32 → length (decimal n) ≤ 10
ten_digits n small = length-decimal-le 10 n (omega arith) (omega arith) (omega arith)

pub ruleset lead_rules = (ten_digits, lead_made)

or_parts : (a b : Bool) → (a || b) ≡ false → (a ≡ false) × (b ≡ false)
or_parts false b none = (refl, none)
or_parts true b none = absurd (cc none)

-- each digit of a table in which none is set apart
digit_of : (table : List ℕ) (k : ℕ) → list_any is_set_apart table ≡ false → is_set_apart (slice_index table k) ≡ false
digit_of [] k plain = refl
digit_of (x ∷ table) zero plain = (or_parts (is_set_apart x) (list_any is_set_apart table) plain).0
digit_of (x ∷ table) (suc k) plain = digit_of table k (or_parts (is_set_apart x) (list_any is_set_apart table) plain).1

hex_plain : (octets : List ℕ) → list_any is_set_apart (encode_with lower_digits octets) ≡ false
unfolding encode_with
hex_plain [] = refl
hex_plain (octet ∷ octets) = rw (digit_of lower_digits (octet / 16) refl, digit_of lower_digits (octet % 16) refl, hex_plain octets) refl

-- an octet that is no comma and no quotation mark isn't set apart where it is printed
octet_plain : (octet : ℕ) → (octet == 44) ≡ false → (octet == 34) ≡ false → list_any is_set_apart (octet_text octet) ≡ false
octet_plain octet comma quote = elim (cases_Bool (is_plain octet)) [
  | inl plain ↦
      let low : 32 ≤ octet = search (rules, plain) in
      let return = ne_eqb octet 13 (λ e. omega (arith, e, low)) in
      let feed = ne_eqb octet 10 (λ e. omega (arith, e, low)) in
      rw (plain, comma, quote, return, feed) refl
  | inr other ↦ rw other (hex_plain (octet ∷ []))
]

printed_plain : (octets : List ℕ) → list_any (λ o. o == 44) octets ≡ false → list_any (λ o. o == 34) octets ≡ false
    → list_any is_set_apart (escaped octets) ≡ false
printed_plain [] commas quotes = refl
printed_plain (o ∷ octets) commas quotes =
    let comma = or_parts (o == 44) (list_any (λ o. o == 44) octets) commas in
    let quote = or_parts (o == 34) (list_any (λ o. o == 34) octets) quotes in
    rw (list_any-append is_set_apart (octet_text o) (escaped octets), octet_plain o comma.0 quote.0, printed_plain octets comma.1 quote.1) refl

pub escaped_plain : (octets : List ℕ) → list_any (λ o. o == 44) octets ≡ false → list_any (λ o. o == 34) octets ≡ false
    → needs_quotes default_writer (escaped octets) ≡ false
escaped_plain octets commas quotes = printed_plain octets commas quotes

pub text_made : (row octets : List ℕ) → needs_quotes default_writer (escaped octets) ≡ false
    → (row ++ 44 ∷ []) ++ escaped octets ≡ row ++ fields_text default_writer (escaped octets ∷ [])
text_made row octets plain = append_assoc row (44 ∷ []) (escaped octets) ∙ ap (λ value. row ++ value) (sym (column (escaped octets) plain))

pub raw_made : (octets : List ℕ) → 44 ∷ 48 ∷ 120 ∷ encode_lower octets ≡ fields_text default_writer (raw octets ∷ [])
raw_made octets = sym (column (raw octets) (hex_plain octets))
