-- Verdicts are settled: what is said of a start at a frame is the same whatever comes after that frame.
use Rattle.std.proofs.Common.{◌≡◌, ℕ, ◌+◌, ◌<◌, ◌≤◌, ◌⊎◌, Bool, true, false, ◌&&◌, is_none, List, [], ◌∷◌, ◌++◌, length, refl, sym, ap, ◌∙◌, ⊎_elim, inl, inr, arith, append_assoc, length-append, ltb, leb}
use Rattle.std.proofs.lemmas.List.{append-nil}
use Rattle.std.proofs.lemmas.List.Concat.{flat_map-append}
use Rattle.std.proofs.lemmas.Bool.{cases_lt, lt-ltb, le-leb, lt-leb, and_right}
use Rattle.tm_reassembly.specs.code.Fits.{PlacesFit}
use Rattle.tm_reassembly.specs.Chain.{ChainMember}
use Rattle.tm_reassembly.specs.Parts.{text, reach_of, is_long, begins_packet, agrees, open_after, breaker}
use Rattle.tm_items.specs.OnePacket.{packet_length}
use Rattle.tm_reassembly.specs.Verdict.{is_whole, ends_in}
use Rattle.tm_reassembly.proofs.Split.{breaker-settled}
use Rattle.tm_reassembly.proofs.Long.{not-long}
use Rattle.tm_reassembly.proofs.Step.{packet_length-two, PlaceFits, agrees_both}

module _ (limit : ℕ) where
  -- reach beyond the frames between, the number itself doesn't matter
  open_past : (d n a : ℕ) (between : List ChainMember) → PlacesFit between → a + length (text between) < d → a + length (text between) < n
      → a + length (text between) < 6 → open_after limit d a between ≡ open_after limit n a between
  open_past d n a [] fits h k short = lt-ltb a d (omega arith) ∙ sym (lt-ltb a n (omega arith))
  open_past d n a (m ∷ between) fits h k short =
      let len : length (text (m ∷ between)) ≡ length m.field + length (text between) = length-append m.field (text between) in
      let e : agrees limit d a m ≡ agrees limit n a m = agrees_both limit d n a m fits.0 (omega arith) (omega arith) (omega arith) in
      let f : open_after limit d (a + length m.field) between ≡ open_after limit n (a + length m.field) between =
      open_past d n (a + length m.field) between fits.1 (omega arith) (omega arith) (omega arith) in
      cc

  -- where a packet ends is settled by the frames between and m, or lies beyond m
  reach-settled : (start : List ℕ) (between : List ChainMember) (m : ChainMember) (more : List ChainMember)
      → (reach_of start (between ++ m ∷ more) ≡ reach_of start (between ++ m ∷ []))
      ⊎ (((length start + length (text between)) + length m.field < reach_of start (between ++ m ∷ more))
      × ((length start + length (text between)) + length m.field < reach_of start (between ++ m ∷ []))
      × ((length start + length (text between)) + length m.field < 6))
  reach-settled start between m more =
      let s : List ℕ = start ++ (text between ++ m.field) in
      let now : start ++ text (between ++ m ∷ []) ≡ start ++ (text between ++ m.field) = simp (flat_map-append, append-nil) in
      let all : start ++ text (between ++ m ∷ more) ≡ (start ++ (text between ++ m.field)) ++ text more = simp (flat_map-append, append_assoc) in
      let rnow : packet_length (start ++ text (between ++ m ∷ [])) ≡ packet_length (start ++ (text between ++ m.field)) = ap packet_length now in
      let rall : packet_length (start ++ text (between ++ m ∷ more)) ≡ packet_length ((start ++ (text between ++ m.field)) ++ text more) = ap packet_length all in
      let len : length (start ++ (text between ++ m.field)) ≡ length start + (length (text between) + length m.field) = simp (length-append) in
      ⊎_elim
      (λ e. inl (rall ∙ e ∙ sym rnow))
      (λ both. inr (omega (arith, rnow, rall, len, both.1), omega (arith, rnow, rall, len, both.0), omega (arith, len, both.2)))
      (packet_length-two s (text more))

  pub open-settled : (start : List ℕ) (between : List ChainMember) (m : ChainMember) (more : List ChainMember) → PlacesFit between
      → open_after limit (reach_of start (between ++ m ∷ more)) (length start) between ≡ open_after limit (reach_of start (between ++ m ∷ [])) (length start) between
  open-settled start between m more fits =
      ⊎_elim
      (λ e. ap (λ (d : ℕ). open_after limit d (length start) between) e)
      (λ both. open_past _ _ (length start) between fits (omega (arith, both.0)) (omega (arith, both.1)) (omega (arith, both.2)))
      (reach-settled start between m more)

  pub agreement-settled : (start : List ℕ) (between : List ChainMember) (m : ChainMember) (more : List ChainMember) → PlaceFits m.place (length m.field)
      → agrees limit (reach_of start (between ++ m ∷ more)) (length start + length (text between)) m
      ≡ agrees limit (reach_of start (between ++ m ∷ [])) (length start + length (text between)) m
  agreement-settled start between m more fits =
      ⊎_elim
      (λ e. ap (λ (d : ℕ). agrees limit d (length start + length (text between)) m) e)
      (λ both. agrees_both limit _ _ (length start + length (text between)) m fits both.0 both.1 both.2)
      (reach-settled start between m more)

  -- whether its packet is long there
  pub long-settled : (start : List ℕ) (between : List ChainMember) (m : ChainMember) (more : List ChainMember)
      → is_long limit (reach_of start (between ++ m ∷ more)) ((length start + length (text between)) + length m.field)
      ≡ is_long limit (reach_of start (between ++ m ∷ [])) ((length start + length (text between)) + length m.field)
  long-settled start between m more =
      ⊎_elim
      (λ e. ap (λ (d : ℕ). is_long limit d ((length start + length (text between)) + length m.field)) e)
      (λ both. not-long limit _ _ both.2 ∙ sym (not-long limit _ _ both.2))
      (reach-settled start between m more)

  -- and in its own frame
  pub own-long-settled : (start : List ℕ) (later : List ChainMember)
      → is_long limit (reach_of start later) (length start) ≡ is_long limit (packet_length start) (length start)
  own-long-settled start later =
      ⊎_elim
      (λ e. ap (λ (d : ℕ). is_long limit d (length start)) e)
      (λ both. not-long limit _ _ both.2 ∙ sym (not-long limit _ _ both.2))
      (packet_length-two start (text later))

  -- where a packet ends in m or before, the frames after m have no say
  breaker-within : (d a : ℕ) (between : List ChainMember) (m : ChainMember) (more : List ChainMember) → d ≤ (a + length (text between)) + length m.field
      → breaker limit d a (between ++ m ∷ more) ≡ breaker limit d a (between ++ m ∷ [])
  breaker-within d a [] m more h = rw (breaker-settled limit d (a + length m.field) more (omega arith))
  breaker-within d a (f ∷ between) m more h =
      rw (breaker-within d (a + length f.field) between m more (omega (arith, length-append f.field (text between))))

  enough-text : (d : ℕ) (start : List ℕ) (between : List ChainMember) (m : ChainMember) (more : List ChainMember) → d ≤ (length start + length (text between)) + length m.field
      → leb d (length (start ++ text (between ++ m ∷ more))) ≡ true
  enough-text d start between m more h =
      let len : length (start ++ text (between ++ m ∷ more)) ≡ length start + (length (text between) + (length m.field + length (text more))) =
      simp (flat_map-append, length-append) in
      le-leb _ _ (omega arith)

  past : (d a : ℕ) (m : ChainMember) → a + length m.field < d → ends_in d a m ≡ false
  past d a m h = and_right (ltb a d) (leb d (a + length m.field)) (lt-leb d (a + length m.field) h)

  -- whole, with its last octet in m
  pub whole-settled : (start : List ℕ) (between : List ChainMember) (m : ChainMember) (more : List ChainMember)
      → (is_whole limit start (between ++ m ∷ more) && ends_in (reach_of start (between ++ m ∷ more)) (length start + length (text between)) m)
      ≡ (is_whole limit start (between ++ m ∷ []) && ends_in (reach_of start (between ++ m ∷ [])) (length start + length (text between)) m)
  whole-settled start between m more =
      let a : ℕ = length start + length (text between) in
      let later : ℕ = reach_of start (between ++ m ∷ more) in
      let now : ℕ = reach_of start (between ++ m ∷ []) in
      ⊎_elim
      (λ e.
      ⊎_elim
      (λ beyond.
      no_say (is_whole limit start (between ++ m ∷ more)) _ (is_whole limit start (between ++ m ∷ [])) _
      (past later a m (omega (arith, e, beyond))) (past now a m beyond))
      (λ within. at_reach later now e within)
      (cases_lt (a + length m.field) now))
      (λ both.
      no_say (is_whole limit start (between ++ m ∷ more)) _ (is_whole limit start (between ++ m ∷ [])) _ (past later a m both.0) (past now a m both.1))
      (reach-settled start between m more)
    where
      no_say : (a b c d : Bool) → b ≡ false → d ≡ false → (a && b) ≡ (c && d)
      no_say a b c d p q = rw (p, q) (and_right a false refl ∙ sym (and_right c false refl))

      at_reach : (d n : ℕ) → d ≡ n → n ≤ (length start + length (text between)) + length m.field
          → ((begins_packet limit start && (is_none (breaker limit d (length start) (between ++ m ∷ more)) && leb d (length (start ++ text (between ++ m ∷ more)))))
          && ends_in d (length start + length (text between)) m)
          ≡ ((begins_packet limit start && (is_none (breaker limit n (length start) (between ++ m ∷ [])) && leb n (length (start ++ text (between ++ m ∷ [])))))
          && ends_in n (length start + length (text between)) m)
      at_reach d n e h =
          rw (e, breaker-within n (length start) between m more h, enough-text n start between m more h, enough-text n start between m [] h)
