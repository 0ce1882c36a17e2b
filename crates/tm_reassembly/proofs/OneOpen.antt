-- At a frame at most one start of earlier frames is open.
use Rattle.std.proofs.Common.{◌≡◌, ℕ, suc, ◌+◌, ◌-◌, ◌<◌, ◌≤◌, ◌⊎◌, Bool, true, false, ◌&&◌, if◌then◌else◌, Option, Some, None, List, [], ◌∷◌, ◌++◌, length, refl, sym, ap, subst, ◌∙◌, ⊎_elim, inl, inr, arith, append_assoc, ltb}
use Rattle.std.specs.List.{flat_map}
use Rattle.std.proofs.lemmas.List.{append-nil}
use Rattle.std.proofs.lemmas.Bool.{cases_Bool, ltb-true, eqb-true, and_parts}
use Rattle.tm_reassembly.specs.Chain.{ChainMember}
use Rattle.tm_reassembly.specs.Parts.{Claim, Start, text, reach_of, begins_packet, open_after, agrees, agrees_at, claim, claims, starts_from, starts_of}
use Rattle.tm_reassembly.specs.code.Field.{end_place_of, unfinished}
use Rattle.tm_reassembly.proofs.Long.{agrees-place}
use Rattle.tm_reassembly.proofs.Sweep.{step, own_claims, claims-push}
use Rattle.tm_reassembly.proofs.Split.{start_at, last_start, starts-past, starts-unfinished}
use Rattle.tm_reassembly.proofs.Fresh.{OpenTail, unfinished-open, claims_split}

module _ (limit : ℕ) where
  at-most : (b : Bool) (c : Claim) → length (if b then c ∷ [] else []) ≤ 1
  at-most true c = omega arith
  at-most false c = omega arith

  claim-one : (between ahead : List ChainMember) (start : Start) → length (claim limit between ahead start) ≤ 1
  claim-one between ahead start =
      at-most (begins_packet limit start.octets && open_after limit (reach_of start.octets (between ++ ahead)) (length start.octets) between)
      (record { reach = reach_of start.octets (between ++ ahead); at = length start.octets + length (text between) })

  last-one : (later : List ChainMember) (stop : ℕ) (u : List ℕ) → OpenTail limit u → length (flat_map (claim limit [] later) (last_start limit stop u)) ≤ 1
  last-one later stop [] h = omega arith
  last-one later stop (x ∷ xs) h =
      let start : Start = start_at limit (stop - suc (length xs)) (x ∷ xs) in
      subst (λ (cs : List Claim). length cs ≤ 1)
      (sym (ap (flat_map (claim limit [] later)) (starts-unfinished limit start.place x xs h.0 h.1) ∙ append-nil (claim limit [] later start))) (claim-one [] later start)

  -- a frame leaves at most one of its own starts open
  own-one : (m : ChainMember) (later : List ChainMember) → length (own_claims limit m later) ≤ 1
  own-one m later =
      elim m.place as (λ v. length (flat_map (claim limit [] later) (starts_from limit m.base v m.field)) ≤ 1) [
        | None ↦ omega arith
        | Some place ↦ subst (λ (cs : List Claim). length cs ≤ 1) (sym (claims_split limit later (end_place_of m) m.base place m.field refl))
            (last-one later (end_place_of m) (unfinished limit place m.field) (unfinished-open limit place m.field))
      ]

  -- a frame that agrees with a start that reaches past it has no starts: it has no place, or one that isn't inside its field
  pub no-starts : (reach at : ℕ) (m : ChainMember) → agrees limit reach at m ≡ true → at + length m.field < reach → starts_of limit m ≡ []
  no-starts reach at m agree past = by_place m.place (agrees-place limit reach at m agree)
    where
      by_place : (v : Option ℕ) → agrees_at reach at (length m.field) v ≡ true → starts_from limit m.base v m.field ≡ []
      by_place None e = refl
      by_place (Some place) e =
          starts-past limit m.base place m.field (omega (arith, eqb-true reach (at + place) e))

  -- and where an earlier start stays open past it, none
  step-one : (m : ChainMember) (later : List ChainMember) (c : Claim)
      → (step limit m c ≡ []) ⊎ ((length (step limit m c) ≡ 1) × (own_claims limit m later ≡ []))
  step-one m later c =
      ⊎_elim
      (λ (e : (agrees limit c.reach c.at m && ltb (c.at + length m.field) c.reach) ≡ true).
      let both = and_parts (agrees limit c.reach c.at m) (ltb (c.at + length m.field) c.reach) e in
      inr (rw e, ap (flat_map (claim limit [] later)) (no-starts c.reach c.at m both.0 (ltb-true (c.at + length m.field) c.reach both.1))))
      (λ (e : (agrees limit c.reach c.at m && ltb (c.at + length m.field) c.reach) ≡ false). inl (rw e))
      (cases_Bool (agrees limit c.reach c.at m && ltb (c.at + length m.field) c.reach))

  step-all : (m : ChainMember) (later : List ChainMember) (cs : List Claim) → length cs ≤ 1 → length (flat_map (step limit m) cs ++ own_claims limit m later) ≤ 1
  step-all m later [] h = own-one m later
  step-all m later (c ∷ d ∷ cs) h = absurd (omega arith)
  step-all m later (c ∷ []) h =
      ⊎_elim
      (λ (e : step limit m c ≡ []). rw e (own-one m later))
      (λ (both : (length (step limit m c) ≡ 1) × (own_claims limit m later ≡ [])).
      rw both.1 (omega (arith, ap length (append-nil (step limit m c ++ []) ∙ append-nil (step limit m c)), both.0)))
      (step-one m later c)

  one-more : (ms before later : List ChainMember) → length (claims limit before (ms ++ later)) ≤ 1 → length (claims limit (before ++ ms) later) ≤ 1
  one-more [] before later h = subst (λ (b : List ChainMember). length (claims limit b later) ≤ 1) (sym (append-nil before)) h
  one-more (m ∷ ms) before later h =
      subst (λ (b : List ChainMember). length (claims limit b later) ≤ 1) (append_assoc before (m ∷ []) ms)
      (one-more ms (before ++ m ∷ []) later
      (subst (λ (cs : List Claim). length cs ≤ 1) (sym (claims-push limit before (ms ++ later) m))
      (step-all m (ms ++ later) (claims limit before (m ∷ (ms ++ later))) h)))

  pub one-open : (before ahead : List ChainMember) → length (claims limit before ahead) ≤ 1
  one-open before ahead = one-more before [] ahead (omega arith)
