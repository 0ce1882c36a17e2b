-- The records that a loop took one by one are `records` of the text.
use Rattle.std.proofs.Common.{◌≡◌, ℕ, zero, suc, ◌+◌, ◌-◌, ◌<◌, ◌≤◌, Bool, true, false, cond, List, [], ◌∷◌, ◌++◌, length, refl, sym, ap, ◌∙◌, arith, append-nil, inl, inr, Some}
use Rattle.std.proofs.lemmas.Bool.{cases_Bool, false≢true}
use Rattle.std.specs.Prelude.{if◌then◌else◌}
use Rattle.csv.specs.Machine.{Read, ends_at_end, field_after, fields_after, is_end, next_record, step}
use Rattle.csv.specs.Reading.{AreRecords, Reached, default_config, records, records_from, records_next}
use Rattle.csv.specs.declared.parser.State.{State}
use Rattle.csv.specs.declared.parser.State.TheVariants as st
use Rattle.csv.specs.declared.parser.Action.{Action}
use Rattle.csv.specs.declared.parser.Action.TheVariants as act

-- where a step ends a record, the end of the text ends no other
record Between (p : State × Action) : Type 0 where
  holds : is_end p.1 ≡ true → ends_at_end p.0 ≡ false

quiet : (s : State) (a : Action) → is_end a ≡ false → Between (s, a)
quiet s a e = record { holds = λ h. absurd (false≢true (sym e ∙ h)) }

either : (b : Bool) (x y : State × Action) → Between x → Between y → Between (cond b x y)
either true x y p q = p
either false x y p q = q

ending : (b : Bool) → Between ((if b then st.AfterCr else st.StartRecord), act.EndRecord)
ending true = record { holds = λ h. refl }
ending false = record { holds = λ h. refl }

between_step : (s : State) (c : ℕ) → Between (step default_config s c)
between_step st.StartRecord c = search (either, quiet, ending) depth 9
between_step _ c = search (either, quiet, ending) depth 9

-- after a record, the text is shorter, and its end ends no other
record After (size : ℕ) (q : Read) : Type 0 where
  state : ends_at_end q.1 ≡ false
  rest : length q.2 ≤ size

next_after : (s : State) (fields : List (List ℕ)) (field xs : List ℕ) (q : Read) → next_record default_config s fields field xs ≡ Some q → After (length xs - 1) q
unfolding next_record
next_after s fields field [] q e =
    elim (cases_Bool (ends_at_end s)) [
      | inl ends ↦ let same : (fields ++ (field ∷ []), st.StartRecord, []) ≡ q = cc (rw ends at e) in rw (← same) (record { state = refl; rest = omega arith })
      | inr goes ↦ absurd (cc (rw goes at e))
    ]
next_after s fields field (c ∷ rest) q e =
    let now : State × Action = step default_config s c in
    elim (cases_Bool (is_end now.1)) [
      | inl ends ↦
          let same : (fields_after now.1 fields field, now.0, rest) ≡ q = cc (rw ends at e) in
          rw (← same) (record { state = (between_step s c).holds ends; rest = omega arith })
      | inr goes ↦
          let h = next_after now.0 (fields_after now.1 fields field) (field_after now.1 c field) rest q (rw goes at e) in
          record { state = h.state; rest = omega (arith, h.rest) }
    ]

-- no record begins at the end of a text
next_some : (s : State) (xs : List ℕ) (q : Read) → ends_at_end s ≡ false → next_record default_config s [] [] xs ≡ Some q → 0 < length xs
unfolding next_record
next_some s [] q between e = let none = rw between at e in absurd (cc none)
next_some s (c ∷ rest) q between e = omega arith

-- the records reached so far begin `records_from`, which goes on from there
records_reached : (rows : List (List (List ℕ))) (n : ℕ) (s s2 : State) (xs ys : List ℕ) → ends_at_end s ≡ false → length xs < n → Reached default_config s xs rows s2 ys
    → (m : ℕ) × (records_from default_config n s xs ≡ rows ++ records_next (records_from default_config m) (next_record default_config s2 [] [] ys))
unfolding Reached records_from
records_reached rows zero s s2 xs ys between fuel h = absurd (omega arith)
records_reached [] (suc n) s s2 xs ys between fuel h = (n, rw (h.0, h.1) refl)
records_reached (r ∷ rows) (suc n) s s2 xs ys between fuel h =
    let (p, next, first, more) = h in
    let after = next_after s [] [] xs p next in
    let (m, rest) = records_reached rows n p.1 s2 p.2 ys after.state (omega (arith, after.rest, next_some s xs p between next)) more in
    (m, rw (next, first) (ap (λ l. p.0 ∷ l) rest))

pub records_are : (xs : List ℕ) (rows : List (List (List ℕ))) → AreRecords default_config st.StartRecord xs rows → records default_config xs ≡ rows
records_are xs rows (s2, ys, reached, none) =
    let (m, all) = records_reached rows (length xs + 1) st.StartRecord s2 xs ys refl (omega arith) reached in (rw none at all) ∙ append-nil rows

-- the records reached so far, and the next one, begin the records of the text
pub records_have : (xs : List ℕ) (rows : List (List (List ℕ))) (s2 : State) (ys : List ℕ) (p : Read) → Reached default_config st.StartRecord xs rows s2 ys → next_record default_config s2 [] [] ys ≡ Some p
    → (more : List (List (List ℕ))) × (records default_config xs ≡ rows ++ (p.0 ∷ more))
records_have xs rows s2 ys p reached next =
    let (m, all) = records_reached rows (length xs + 1) st.StartRecord s2 xs ys refl (omega arith) reached in
    (records_from default_config m p.1 p.2, rw next at all)
