-- The leads of frames, by the starts that are open there with places in the text.
use Rattle.std.proofs.Common.{◌≡◌, ℕ, ◌+◌, ◌≤◌, true, false, ◌&&◌, List, [], ◌∷◌, ◌++◌, length, refl, sym, ap, subst, ◌∙◌, inl, inr, arith, append_assoc, length-append}
use Rattle.std.specs.List.{flat_map}
use Rattle.std.proofs.lemmas.Bool.{cond-true, false_from_ne_true}
use Rattle.tm_items.specs.declared.items.Reason.TheVariants as why
use Rattle.tm_reassembly.specs.Chain.{ChainMember}
use Rattle.tm_reassembly.specs.Parts.{Start, Claim, text, reach_of, begins_packet, agrees, agrees_at, reason_at, open_after, starts_of, claim, claims, lead, lost_lead}
use Rattle.tm_reassembly.specs.Absolute.{packet_length_at, frame_begin, frame_end, IsLong, AgreesAt, Agrees, IsOpen, Iff, IsStart, IsIn, LiesAfter, FrameInRun, text_of_run, IsOpenIn, AgreesByPlace, lead_in}
use Rattle.tm_reassembly.proofs.OneOpen.{one-open}
use Rattle.tm_reassembly.proofs.Places.{place-at, agreement-at, open-at}
use Rattle.tm_items.specs.declared.items.Reason.{Reason}
use Rattle.tm_reassembly.proofs.Starts.{starts-there, starts-here}

-- where no start claims, nothing is claimed
no-claims : (g : Start → List Claim) (ss : List Start) → ((s : Start) → IsIn s ss → g s ≡ []) → flat_map g ss ≡ []
no-claims g [] h = refl
no-claims g (x ∷ ss) h = rw (h x (inl refl), no-claims g ss (λ s i. h s (inr i))) refl

-- what a start claims is among the claims
abbrev Has : Claim → List Claim → Type 0
Has c cs = (a : List Claim) × (b : List Claim) × (cs ≡ a ++ c ∷ b)

has-start : (g : Start → List Claim) (c : Claim) (s : Start) (ss : List Start) → IsIn s ss → g s ≡ c ∷ [] → Has c (flat_map g ss)
has-start g c s [] i e = absurd i
has-start g c s (x ∷ ss) (inl p) e = ([], flat_map g ss, ap (λ (cs : List Claim). cs ++ flat_map g ss) (ap g (sym p) ∙ e))
has-start g c s (x ∷ ss) (inr i) e =
    let rest = has-start g c s ss i e in
    (g x ++ rest.0, rest.1, ap (λ (cs : List Claim). g x ++ cs) rest.2 ∙ sym (append_assoc (g x) rest.0 (c ∷ rest.1)))

-- where there is at most one, it is that one
only-one : (c : Claim) (a b cs : List Claim) → cs ≡ a ++ c ∷ b → length cs ≤ 1 → cs ≡ c ∷ []
only-one c [] [] cs e one = e
only-one c [] (y ∷ b) cs e one = let len = ap (λ (z : List Claim). length z) e in absurd (omega arith)
only-one c (x ∷ a) b cs e one =
    let len = ap (λ (z : List Claim). length z) e in
    absurd (omega (arith, length-append a (c ∷ b)))

-- the text, split at the frame of a start
text-at : (before later earlier between : List ChainMember) (f m : ChainMember) → before ≡ earlier ++ f ∷ between
    → text (before ++ m ∷ later) ≡ text (earlier ++ f ∷ (between ++ m ∷ later))
text-at before later earlier between f m e =
    ap (λ (ms : List ChainMember). text (ms ++ m ∷ later)) e ∙ ap text (append_assoc earlier (f ∷ between) (m ∷ later))

module _ (limit : ℕ) where
  none-claimed : (before ahead : List ChainMember)
      → ((earlier between : List ChainMember) (f : ChainMember) (s : Start) → before ≡ earlier ++ f ∷ between → IsIn s (starts_of limit f) → claim limit between ahead s ≡ [])
      → claims limit before ahead ≡ []
  none-claimed [] ahead h = refl
  none-claimed (f ∷ before) ahead h =
      rw (
        no-claims (claim limit before ahead) (starts_of limit f) (λ s i. h [] before f s refl i),
        none-claimed before ahead (λ earlier between g s e i. h (f ∷ earlier) between g s (ap (λ (ms : List ChainMember). f ∷ ms) e) i),
      )
      refl

  has-claim : (earlier between ahead : List ChainMember) (f : ChainMember) (s : Start) (c : Claim) → IsIn s (starts_of limit f) → claim limit between ahead s ≡ c ∷ []
      → Has c (claims limit (earlier ++ f ∷ between) ahead)
  has-claim [] between ahead f s c i e =
      let one = has-start (claim limit between ahead) c s (starts_of limit f) i e in (
        one.0,
        one.1 ++ claims limit between ahead,
        ap (λ (cs : List Claim). cs ++ claims limit between ahead) one.2 ∙ append_assoc one.0 (c ∷ one.1) (claims limit between ahead),
      )
  has-claim (x ∷ earlier) between ahead f s c i e =
      let rest = has-claim earlier between ahead f s c i e in
      let first : List Claim = flat_map (claim limit (earlier ++ f ∷ between) ahead) (starts_of limit x) in (
        first ++ rest.0,
        rest.1,
        ap (λ (cs : List Claim). first ++ cs) rest.2 ∙ sym (append_assoc first rest.0 (c ∷ rest.1)),
      )

  -- The claims are one. The frame agrees with it, or does so by its place, if and only if it agrees so with the packet that
  -- starts at q. The frame begins at n.
  abbrev IsOne : List Claim → ChainMember → List ℕ → ℕ → ℕ → Type 0
  IsOne cs m t q n =
      (c : Claim) × (cs ≡ c ∷ []) × Iff (agrees limit c.reach c.at m ≡ true) (Agrees limit t q n m)
      × Iff (agrees_at c.reach c.at (length m.field) m.place ≡ true) (AgreesAt (packet_length_at t q) n (length m.field) m.place)

  one-start : (earlier between later : List ChainMember) (f m : ChainMember) (s : Start) (skipped : List ℕ) → IsIn s (starts_of limit f) → LiesAfter f s skipped
      → IsOpen limit (text (earlier ++ f ∷ (between ++ m ∷ later))) (length (text earlier) + length skipped) (earlier ++ f ∷ []) between
      → IsOne (claims limit (earlier ++ f ∷ between) (m ∷ later)) m (text (earlier ++ f ∷ (between ++ m ∷ later)))
      (length (text earlier) + length skipped) (length (text ((earlier ++ f ∷ []) ++ between)))
  one-start earlier between later f m s skipped i lies opened =
      let c : Claim = record { reach = reach_of s.octets (between ++ m ∷ later); at = length s.octets + length (text between) } in
      let own : claim limit between (m ∷ later) s ≡ c ∷ [] =
      cond-true (begins_packet limit s.octets && open_after limit (reach_of s.octets (between ++ m ∷ later)) (length s.octets) between) _ _
      ((open-at limit earlier f skipped s.octets lies.0 lies.2 between (between ++ m ∷ later)).1 opened) in
      let has = has-claim earlier between (m ∷ later) f s c i own in (
        c,
        only-one c has.0 has.1 (claims limit (earlier ++ f ∷ between) (m ∷ later)) has.2 (one-open limit (earlier ++ f ∷ between) (m ∷ later)),
        agreement-at limit earlier f skipped s.octets lies.0 between (between ++ m ∷ later) m,
        place-at limit earlier f skipped s.octets lies.0 between (between ++ m ∷ later) m,
      )

  module _ (r : FrameInRun) where
    -- no start is open
    pub lead-no_start : ((q : ℕ) → IsOpenIn limit r q → ⊥) → lead_in limit r ≡ lost_lead r.frame why.NoStart
    lead-no_start h = ap (λ (cs : List Claim). lead limit cs r.frame) (none-claimed r.before (r.frame ∷ r.later) none)
      where
        none : (earlier between : List ChainMember) (f : ChainMember) (s : Start) → r.before ≡ earlier ++ f ∷ between → IsIn s (starts_of limit f)
            → claim limit between (r.frame ∷ r.later) s ≡ []
        none earlier between f s e i =
            let there = starts-there limit earlier f (between ++ r.frame ∷ r.later) s i in
            let lies = there.1 in
            let q : ℕ = length (text earlier) + length there.0 in
            let same = sym (text-at r.before r.later earlier between f r.frame e) in
            let closed : (begins_packet limit s.octets && open_after limit (reach_of s.octets (between ++ r.frame ∷ r.later)) (length s.octets) between) ≡ false =
            false_from_ne_true _ (λ o.
            let opened = (open-at limit earlier f there.0 s.octets lies.0 lies.2 between (between ++ r.frame ∷ r.later)).0 o in
            h q (earlier, between, f, e, rw same at there.2, subst (λ (t : List ℕ). IsOpen limit t q (earlier ++ f ∷ []) between) same opened)) in
            rw closed

    one-at : (q : ℕ) → IsOpenIn limit r q → IsOne (claims limit r.before (r.frame ∷ r.later)) r.frame (text_of_run r) q (frame_begin r.before)
    one-at q o = moved o.0 o.1 o.2 o.3 o.4 o.5
      where
        moved : (earlier between : List ChainMember) (f : ChainMember) → r.before ≡ earlier ++ f ∷ between
            → IsStart limit (text_of_run r) (frame_begin earlier) (frame_end earlier f) f.place q
            → IsOpen limit (text_of_run r) q (earlier ++ f ∷ []) between
            → IsOne (claims limit r.before (r.frame ∷ r.later)) r.frame (text_of_run r) q (frame_begin r.before)
        moved earlier between f e start opened =
            let ahead : List ChainMember = r.frame ∷ r.later in
            let all : List ℕ = text (earlier ++ f ∷ (between ++ r.frame ∷ r.later)) in
            let same = text-at r.before r.later earlier between f r.frame e in
            let found = starts-here limit earlier f (between ++ r.frame ∷ r.later) q (rw same at start) in
            let place : ℕ = length (text earlier) + length found.1 in
            let one = one-start earlier between r.later f r.frame found.0 found.1 found.2 found.3 (rw (same, found.4) at opened) in
            subst (λ (t : List ℕ). IsOne (claims limit r.before ahead) r.frame t q (length (text r.before))) (sym same)
            (subst (λ (k : ℕ). IsOne (claims limit r.before ahead) r.frame all k (length (text r.before))) (sym found.4)
            (subst (λ (ms : List ChainMember). IsOne (claims limit ms ahead) r.frame all place (length (text ms))) (sym e)
            (subst (λ (ms : List ChainMember). IsOne (claims limit (earlier ++ f ∷ between) ahead) r.frame all place (length (text ms)))
            (append_assoc earlier (f ∷ []) between) one)))

    -- one is, and the frame agrees with it, or doesn't
    lead-differs : (c : Claim) (reason : Reason) → claims limit r.before (r.frame ∷ r.later) ≡ c ∷ []
        → (agrees limit c.reach c.at r.frame ≡ true → ⊥) → reason_at c.reach c.at r.frame ≡ reason → lead_in limit r ≡ lost_lead r.frame reason
    lead-differs c reason e differs why_not =
        ap (λ (cs : List Claim). lead limit cs r.frame) e ∙ rw (false_from_ne_true (agrees limit c.reach c.at r.frame) differs, why_not)

    pub lead-pointer : (q : ℕ) → IsOpenIn limit r q → (AgreesByPlace r q → ⊥) → lead_in limit r ≡ lost_lead r.frame why.Pointer
    lead-pointer q o differs =
        let one = one-at q o in
        lead-differs one.0 why.Pointer one.1 (λ agree. differs (one.2.0 agree).0)
        (rw (false_from_ne_true (agrees_at one.0.reach one.0.at (length r.frame.field) r.frame.place) (λ place. differs (one.3.0 place))))

    pub lead-long : (q : ℕ) → IsOpenIn limit r q → AgreesByPlace r q → IsLong limit (text_of_run r) q (frame_end r.before r.frame)
        → lead_in limit r ≡ lost_lead r.frame why.Length
    lead-long q o place long =
        let one = one-at q o in
        lead-differs one.0 why.Length one.1 (λ agree. (one.2.0 agree).1 long)
        (cond-true (agrees_at one.0.reach one.0.at (length r.frame.field) r.frame.place) _ _ (one.3.1 place))

    pub lead-joined : (q : ℕ) → IsOpenIn limit r q → Agrees limit (text_of_run r) q (frame_begin r.before) r.frame → lead_in limit r ≡ []
    lead-joined q o agree =
        let one = one-at q o in
        ap (λ (cs : List Claim). lead limit cs r.frame) one.1 ∙ cond-true (agrees limit one.0.reach one.0.at r.frame) _ _ (one.2.1 agree)
