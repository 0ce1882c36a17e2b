-- The gap between two counts, by the count that should have been found.
use Rattle.std.proofs.lemmas.Option.{same_Some}
use Rattle.std.proofs.Common.{◌≡◌, ℕ, Bool, true, false, not, cond, Option, Some, None, [], ◌∷◌, refl, ap, ◌∙◌, eqb}
use Rattle.std.proofs.lemmas.Bool.{cond-true, cond-false}
use Rattle.tm_reassembly.specs.Chain.{ChainMember, has_frame_gap, next_frame_count}
use Rattle.tm_items.specs.Item.{Item}
use Rattle.tm_reassembly.specs.Items.{gap_at}
use Rattle.tm_reassembly.specs.code.Slots.{counted, missed_count}

same_test : (t : Bool) (n : ℕ) → cond t None (Some n) ≡ None → t ≡ true
same_test true n e = refl
same_test false n e = absurd (cc)

other_test : (t : Bool) (n m : ℕ) → cond t None (Some n) ≡ Some m → (t ≡ false) × (n ≡ m)
other_test true n m e = absurd (cc)
other_test false n m e = (refl, same_Some n m e)

pub none_missed : (before : Option ℕ) (seen found : ℕ) → missed_count before found ≡ None → has_frame_gap before (counted seen found) ≡ false
none_missed None seen found e = refl
none_missed (Some before) seen found e = ap not (same_test (eqb found (next_frame_count before)) (next_frame_count before) e)

pub one_missed : (before : Option ℕ) (seen found expected : ℕ) → missed_count before found ≡ Some expected → has_frame_gap before (counted seen found) ≡ true
one_missed None seen found expected e = absurd (cc)
one_missed (Some before) seen found expected e = ap not (other_test (eqb found (next_frame_count before)) (next_frame_count before) expected e).0

pub no_gap : (gap : ℕ → ChainMember → Item) (before : Option ℕ) (seen found : ℕ) → missed_count before found ≡ None → gap_at gap before (counted seen found) ≡ []
no_gap gap None seen found e = refl
no_gap gap (Some before) seen found e = cond-false (not (eqb found (next_frame_count before))) _ _ (none_missed (Some before) seen found e)

pub the_gap : (gap : ℕ → ChainMember → Item) (before : Option ℕ) (seen found expected : ℕ) → missed_count before found ≡ Some expected
    → gap_at gap before (counted seen found) ≡ gap expected (counted seen found) ∷ []
the_gap gap None seen found expected e = absurd (cc)
the_gap gap (Some before) seen found expected e =
    let test = other_test (eqb found (next_frame_count before)) (next_frame_count before) expected e in
    cond-true (not (eqb found (next_frame_count before))) _ _ (ap not test.0) ∙ ap (λ (n : ℕ). gap n (counted seen found) ∷ []) test.1
