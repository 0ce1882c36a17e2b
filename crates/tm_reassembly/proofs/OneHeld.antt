-- At the end of a chain at most one part is held.
use Rattle.std.proofs.lemmas.Option.{none-some}
use Rattle.std.proofs.Common.{◌≡◌, ℕ, suc, zero, pred, ◌+◌, ◌<◌, ◌≤◌, ◌⊎◌, Bool, true, false, Option, Some, None, List, [], ◌∷◌, ◌++◌, map, length, refl, sym, ap, subst, ◌∙◌, ⊎_elim, inl, inr, arith, length-append, ltb, leb}
use Rattle.std.specs.List.{flat_map}
use Rattle.std.proofs.lemmas.List.{append-nil}
use Rattle.std.proofs.lemmas.List.Concat.{flat_map-append}
use Rattle.std.proofs.lemmas.Bool.{cases_Bool, cases_lt, cond_both, lt-ltb, leb-false}
use Rattle.tm_items.specs.declared.items.Reason.TheVariants as why
use Rattle.tm_items.specs.declared.items.Reason.{Reason}
use Rattle.tm_reassembly.specs.State.{Tail}
use Rattle.tm_reassembly.specs.Chain.{ChainMember, Run, Runs, End, Unended, Ended, runs_after, has_frame_gap, cut_before, with_member}
use Rattle.tm_reassembly.specs.Parts.{Part, Claim, Start, text, reach_of, begins_packet, agrees, breaker, starts, starts_from, starts_of, fate_at, packet_part, part_from, start_part, claims, lead, lead_part, reason_at, lead_octets, parts_from, parts}
use Rattle.tm_items.specs.OnePacket.{packet_length}
use Rattle.tm_reassembly.specs.Items.{held_part, chain_parts}
use Rattle.tm_reassembly.proofs.Split.{start_at, starts-last, starts-unfinished, start_part-whole}
use Rattle.tm_reassembly.proofs.OneOpen.{no-starts}

abbrev tails : List Part → List Tail
tails ps = flat_map (λ p. held_part p p.fate) ps

lead_part-tails : (m : ChainMember) (reason : Reason) (o : List ℕ) → tails (lead_part m reason o) ≡ []
lead_part-tails m reason [] = refl
lead_part-tails m reason (x ∷ xs) = refl

module _ (limit : ℕ) where
  -- a start that reaches past all later frames, and each of them agrees with it
  abbrev Stays : List ChainMember → Type 0
  Stays later = (start : List ℕ) × (breaker limit (reach_of start later) (length start) later ≡ None) × (length start + length (text later) < reach_of start later)

  lead-tails : (cs : List Claim) (m : ChainMember) → tails (lead limit cs m) ≡ []
  lead-tails [] m = lead_part-tails m why.NoStart (lead_octets m.place m.field)
  lead-tails (c ∷ more) m =
      cond_both (agrees limit c.reach c.at m) [] (lead_part m (reason_at c.reach c.at m) (lead_octets m.place m.field)) (λ (ps : List Part). tails ps ≡ [])
      (λ e. refl) (λ e. lead_part-tails m (reason_at c.reach c.at m) (lead_octets m.place m.field))

  -- the tails of a frame's starts, and of the frames after it
  split-tails : (before : List ChainMember) (m : ChainMember) (later : List ChainMember) (end : End)
      → tails (parts_from limit before (m ∷ later) end)
      ≡ tails (map (start_part limit m later end) (starts_of limit m)) ++ tails (parts_from limit (before ++ m ∷ []) later end)
  split-tails before m later end =
      let own : List Part = map (start_part limit m later end) (starts_of limit m) in
      let rest : List Part = parts_from limit (before ++ m ∷ []) later end in
      let first : List Part = lead limit (claims limit before (m ∷ later)) m in
      flat_map-append (λ p. held_part p p.fate) (first ++ own) rest
      ∙ ap (λ (ts : List Tail). ts ++ tails rest)
      (flat_map-append (λ p. held_part p p.fate) first own ∙ ap (λ (ts : List Tail). ts ++ tails own) (lead-tails (claims limit before (m ∷ later)) m))

  -- after such a start no frame has a start, so nothing is held
  stays-alone : (reach at : ℕ) (later : List ChainMember) → breaker limit reach at later ≡ None → at + length (text later) < reach
      → (before : List ChainMember) (end : End) → tails (parts_from limit before later end) ≡ []
  stays-alone reach at [] h past before end = refl
  stays-alone reach at (m ∷ later) h past before end =
      let len : length (m.field ++ text later) ≡ length m.field + length (text later) = length-append m.field (text later) in
      let there : ltb at reach ≡ true = lt-ltb at reach (omega arith) in
      ⊎_elim
      (λ (agree : agrees limit reach at m ≡ true).
      split-tails before m later end
      ∙ rw (no-starts limit reach at m agree (omega arith))
      (stays-alone reach (at + length m.field) later (rw (there, agree) at h) (omega arith) (before ++ m ∷ []) end))
      (λ (differ : agrees limit reach at m ≡ false). absurd (none-some m (sym (rw (there, differ) at h))))
      (cases_Bool (agrees limit reach at m))

  -- no tail, or one, of a start that stays
  abbrev OneTail : List Tail → List ChainMember → End → Type 0
  OneTail ts later end = (ts ≡ []) ⊎ ((length ts ≡ 1) × (end ≡ Unended) × Stays later)

  one-part : (first place : ℕ) (later : List ChainMember) (end : End) (start : List ℕ) → OneTail (tails (part_from limit first place later end start ∷ [])) later end
  one-part first place later end start =
      cond_both (begins_packet limit start) _ _ (λ (p : Part). OneTail (tails (p ∷ [])) later end)
      (λ v. broken (breaker limit (reach_of start later) (length start) later) refl)
      (λ v. inl refl)
    where
      by_end : (e : End) → Stays later
          → OneTail (tails (record { first = first; place = place; octets = start ++ text later; fate = fate_at e } ∷ [])) later e
      by_end Unended s = inr (refl, refl, s)
      by_end (Ended reason seen) s = inl refl

      broken : (b : Option ChainMember) → breaker limit (reach_of start later) (length start) later ≡ b
          → OneTail (tails (packet_part limit first place later end start (reach_of start later) b ∷ [])) later end
      broken (Some m) e = inl refl
      broken None e =
          cond_both (leb (reach_of start later) (length (start ++ text later))) _ _ (λ (p : Part). OneTail (tails (p ∷ [])) later end)
          (λ v. inl refl)
          (λ v.
          by_end end (start, e, omega (arith, leb-false (reach_of start later) (length (start ++ text later)) v, length-append start (text later))))

  module _ (m : ChainMember) (later : List ChainMember) (end : End) where
    -- a frame's starts leave no tail, or its last one does
    starts-tails : (at skip : ℕ) (o : List ℕ) → OneTail (tails (map (start_part limit m later end) (starts limit at skip o))) later end
    starts-tails at skip [] = inl refl
    starts-tails at (suc skip) (x ∷ xs) = starts-tails (at + 1) skip xs
    starts-tails at zero (x ∷ xs) =
        ⊎_elim
        (λ (p : begins_packet limit (x ∷ xs) ≡ true).
        ⊎_elim
        (λ less. alone (starts-unfinished limit at x xs p less))
        (λ whole.
        rw (start_part-whole limit m later end at (x ∷ xs) p whole, p) (starts-tails (at + 1) (pred (packet_length (x ∷ xs))) xs))
        (cases_lt (suc (length xs)) (packet_length (x ∷ xs))))
        (λ p. alone (starts-last limit at x xs p))
        (cases_Bool (begins_packet limit (x ∷ xs)))
      where
        alone : starts limit at 0 (x ∷ xs) ≡ start_at limit at (x ∷ xs) ∷ [] → OneTail (tails (map (start_part limit m later end) (starts limit at 0 (x ∷ xs)))) later end
        alone e =
            subst (λ (ss : List Start). OneTail (tails (map (start_part limit m later end) ss)) later end) (sym e) (one-part m.number at later end (x ∷ xs))

    own-tails : OneTail (tails (map (start_part limit m later end) (starts_of limit m))) later end
    own-tails =
        elim m.place as (λ v. OneTail (tails (map (start_part limit m later end) (starts_from limit m.base v m.field))) later end)
        [ None ↦ inl refl | Some place ↦ starts-tails m.base place m.field ]

  -- a run holds at most one
  run-tails : (before ms : List ChainMember) (end : End) → length (tails (parts_from limit before ms end)) ≤ 1
  run-tails before [] end = omega arith
  run-tails before (m ∷ later) end =
      let own : List Tail = tails (map (start_part limit m later end) (starts_of limit m)) in
      let rest : List Tail = tails (parts_from limit (before ++ m ∷ []) later end) in
      subst (λ (ts : List Tail). length ts ≤ 1) (sym (split-tails before m later end))
      (⊎_elim
      (λ none. rw none (run-tails (before ++ m ∷ []) later end))
      (λ one.
      let s = one.2 in
      let nothing : rest ≡ [] = stays-alone (reach_of s.0 later) (length s.0) later s.1 s.2 (before ++ m ∷ []) end in
      rw (nothing, append-nil own, one.0) (omega arith))
      (own-tails m later end))

  -- and none, if it is ended
  ended-tails : (before ms : List ChainMember) (reason : Reason) (seen : ℕ) → tails (parts_from limit before ms (Ended reason seen)) ≡ []
  ended-tails before [] reason seen = refl
  ended-tails before (m ∷ later) reason seen =
      split-tails before m later (Ended reason seen)
      ∙ ap (λ (ts : List Tail). ts ++ tails (parts_from limit (before ++ m ∷ []) later (Ended reason seen)))
      (⊎_elim (λ none. none) (λ one. let ended = one.1 in absurd (cc)) (own-tails m later (Ended reason seen)))
      ∙ ended-tails (before ++ m ∷ []) later reason seen

  -- a run that isn't ended is the last one, and the others hold at most one
  abbrev IsLast : Runs → Type 0
  IsLast rs = (length (tails (flat_map (parts limit) rs.others)) ≤ 1) × (rs.current.end ≡ Unended → rs.others ≡ [])

  runs-tails : (members : List ChainMember) (end : End) (others : List Run) → length (tails (flat_map (parts limit) others)) ≤ 1 → (end ≡ Unended → others ≡ [])
      → length (tails (flat_map (parts limit) (record { members = members; end = end } ∷ others))) ≤ 1
  runs-tails members Unended others h last =
      subst (λ (rs : List Run). length (tails (flat_map (parts limit) (record { members = members; end = Unended } ∷ rs))) ≤ 1) (sym (last refl))
      (subst (λ (ps : List Part). length (tails ps) ≤ 1) (sym (append-nil (parts_from limit [] members Unended))) (run-tails [] members Unended))
  runs-tails members (Ended reason seen) others h last =
      subst (λ (ts : List Tail). length ts ≤ 1)
      (sym
      (flat_map-append (λ p. held_part p p.fate) (parts_from limit [] members (Ended reason seen)) (flat_map (parts limit) others)
      ∙ ap (λ (ts : List Tail). ts ++ tails (flat_map (parts limit) others)) (ended-tails [] members reason seen)))
      h

  cut-last : (gap vca : Bool) (m : ChainMember) (rest : Runs) → IsLast rest → IsLast (cut_before gap m (with_member vca m rest))
  cut-last true true m rest h = (
    runs-tails [] (Ended why.Vca m.number) (rest.current ∷ rest.others) (runs-tails rest.current.members rest.current.end rest.others h.0 h.1) (λ e. cc),
    λ e. cc,
  )
  cut-last true false m rest h = (runs-tails (m ∷ rest.current.members) rest.current.end rest.others h.0 h.1, λ e. cc)
  cut-last false true m rest h = (runs-tails rest.current.members rest.current.end rest.others h.0 h.1, λ e. cc)
  cut-last false false m rest h = h

  all-last : (before : Option ℕ) (ms : List ChainMember) → IsLast (runs_after before ms)
  all-last before [] = (omega arith, λ e. refl)
  all-last before (m ∷ ms) = cut-last (has_frame_gap before m) m.is_vca m (runs_after (Some m.count) ms) (all-last (Some m.count) ms)

  pub one-held : (ms : List ChainMember) → length (flat_map (λ p. held_part p p.fate) (chain_parts limit ms)) ≤ 1
  one-held ms =
      let rs = runs_after None ms in
      let last = all-last None ms in
      runs-tails rs.current.members rs.current.end rs.others last.0 last.1
