-- The loop that marks the applications that are given.
use Rattle.std.proofs.Common.{◌≡◌, ℕ, zero, suc, ◌+◌, ◌<◌, ◌≤◌, Bool, true, false, ◌||◌, List, [], ◌∷◌, length, take, get_or, refl, sym, ap, ◌∙◌, ⊎_elim, arith, eqb}
use Rattle.std.specs.Prelude.{slice_set, nat_lt, replicate}
use Rattle.std.specs.List.{list_any}
use Rattle.std.proofs.Math.Bool.{or-false}
use Rattle.std.proofs.lemmas.List.{length-set, take_all, take_more, get_or-replicate, get_or-set_same, get_or-set_other}
use Rattle.std.proofs.lemmas.List.Folds.{list_any-append}
use Rattle.std.proofs.lemmas.Bool.{eq-eqb, ne_eqb, lt-ltb, le-ltb, or_left, or_right, cases_eq}
use Rattle.tm_feed.specs.Only.{AreTheseGiven, IsNoApplication, is_among, is_over}

-- what the loop keeps: the numbers so far are applications, and just these are marked
pub record KeepsGiven (applications : List ℕ) (only : List Bool) (i : ℕ) : Type 0 where
  pub few : is_over (take i applications) ≡ false
  pub all : length only ≡ 2048
  pub each : (application : ℕ) → application < 2048 → get_or only application false ≡ is_among (take i applications) application

pub given_start : (applications : List ℕ) → KeepsGiven applications (replicate 2048 false) 0
given_start applications = record { few = refl; all = refl; each = λ a small. get_or-replicate 2048 a false false small }

any_more : (p : ℕ → Bool) (xs : List ℕ) (i : ℕ) → i < length xs → list_any p (take (i + 1) xs) ≡ (list_any p (take i xs) || p (get_or xs i 0))
any_more p xs i h =
    ap (list_any p) (take_more xs i 0 h) ∙ list_any-append p (take i xs) (get_or xs i 0 ∷ [])
    ∙ ap (λ (b : Bool). list_any p (take i xs) || b) (or-false (p (get_or xs i 0)))

pub given_more : (applications : List ℕ) (only : List Bool) (i : ℕ) → KeepsGiven applications only i → i < length applications
    → get_or applications i 0 ≤ 2047
    → KeepsGiven applications (slice_set only (get_or applications i 0) true) (i + 1)
given_more applications only i k h small =
    let x : ℕ = get_or applications i 0 in
    let front : List ℕ = take i applications in
    let size = k.all in
    record {
      few = any_more (nat_lt 2047) applications i h ∙ rw (k.few, le-ltb 2047 x small) refl;
      all = length-set only x true ∙ k.all;
      each = λ a below.
          ⊎_elim
          (λ (e : a ≡ x).
          rw e (get_or-set_same only x true false (omega arith)
          ∙ sym (any_more (λ b. eqb b x) applications i h ∙ or_right (is_among front x) (eqb x x) (eq-eqb x x refl))))
          (λ (ne : a ≡ x → ⊥).
          get_or-set_other only x a true false ne ∙ k.each a below
          ∙ sym (any_more (λ b. eqb b a) applications i h ∙ rw (ne_eqb x a (λ (e : x ≡ a). ne (sym e))) (or-false (is_among front a))))
          (cases_eq a x);
    }

split_any : (p : ℕ → Bool) (xs : List ℕ) (i : ℕ) → i < length xs → p (get_or xs i 0) ≡ true → list_any p xs ≡ true
split_any p [] i h is = absurd (omega arith)
split_any p (x ∷ xs) zero h is = or_left (p x) (list_any p xs) is
split_any p (x ∷ xs) (suc i) h is = or_right (p x) (list_any p xs) (split_any p xs i (omega arith) is)

-- a number that is none
pub given_over : (applications : List ℕ) (i : ℕ) → i < length applications → 2047 < get_or applications i 0 → IsNoApplication applications
given_over applications i h big = split_any (nat_lt 2047) applications i h (lt-ltb 2047 (get_or applications i 0) big)

-- all numbers read
pub given_done : (applications : List ℕ) (only : List Bool) (i : ℕ) → KeepsGiven applications only i → length applications ≤ i
    → AreTheseGiven applications only
given_done applications only i k h =
    let all : take i applications ≡ applications = take_all i applications h in
    record {
      few = ap is_over (sym all) ∙ k.few;
      all = k.all;
      each = λ a below. k.each a below ∙ ap (λ (l : List ℕ). is_among l a) all;
    }

pub ruleset marks = (given_start, given_more, given_over, given_done)
