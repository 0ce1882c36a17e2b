-- The definitions relative to a start are those with places in the text.
use Rattle.std.proofs.lemmas.Option.{none-some}
use Rattle.std.proofs.Common.{◌≡◌, ℕ, ◌+◌, ◌<◌, ◌≤◌, true, false, ◌&&◌, Option, Some, None, List, [], ◌∷◌, ◌++◌, length, take, drop, refl, sym, ap, ◌∙◌, ⊎_elim, arith, append_assoc, length-append, ltb, leb}
use Rattle.std.specs.Prelude.{is_none}
use Rattle.std.proofs.lemmas.List.{append-nil, take-append-le}
use Rattle.std.proofs.lemmas.List.Concat.{flat_map-append}
use Rattle.std.proofs.lemmas.Bool.{and_from, cases_Bool, cases_lt, ltb-true, leb-true, lt-ltb, le-leb, lt-leb, eqb-true, eq-eqb, and_parts, both_ways, false_from_ne_true, true_from_ne_false}
use Rattle.std.proofs.Math.Seq.{drop-append_seam}
use Rattle.tm_packet.specs.Header.{packet_version_of}
use Rattle.tm_reassembly.specs.Chain.{ChainMember}
use Rattle.tm_reassembly.specs.Parts.{text, reach_of, is_long, begins_packet, agrees, agrees_at, open_after, breaker}
use Rattle.tm_items.specs.OnePacket.{packet_length, is_packet}
use Rattle.tm_reassembly.specs.Verdict.{is_whole}
use Rattle.tm_reassembly.specs.Absolute.{packet_length_at, IsVersionZero, IsLong, BeginsPacket, AgreesAt, Agrees, IsOpen, IsWhole, Iff}
use Rattle.tm_items.proofs.Reaching.{packet_length-short, packet_length-long}
use Rattle.tm_reassembly.proofs.Long.{and_not, agrees-place, agrees-short, begins-zero, begins-short}
use Rattle.tm_reassembly.proofs.Settled.{own-long-settled}

-- a packet's end, from the start on
pub packet_length-place : (before t : List ℕ) → packet_length_at (before ++ t) (length before) ≡ length before + packet_length t
packet_length-place before t =
    let len : length (before ++ t) ≡ length before + length t = length-append before t in
    ⊎_elim
    (λ short. rw (lt-leb (length before + 6) (length (before ++ t)) (omega arith), packet_length-short t short))
    (λ long. rw (le-leb (length before + 6) (length (before ++ t)) (omega arith), drop-append_seam before t, packet_length-long t long))
    (cases_lt (length t) 6)

pub version-place : (before start t : List ℕ) → 0 < length start
    → packet_version_of (take 1 (drop (length before) (before ++ (start ++ t)))) ≡ packet_version_of (take 1 start)
version-place before start t some =
    rw (drop-append_seam before (start ++ t), take-append-le 1 start t (omega arith))

-- one frame
agrees-from : (q reach at len : ℕ) (place : Option ℕ) → Iff (agrees_at reach at len place ≡ true) (AgreesAt (q + reach) (q + at) len place)
agrees-from q reach at len None = (λ h. let e = leb-true (at + len) reach h in omega arith, λ h. le-leb (at + len) reach (omega arith))
agrees-from q reach at len (Some place) =
    (λ h. let e : reach ≡ at + place = eqb-true reach (at + place) h in omega arith, λ h. eq-eqb reach (at + place) (omega arith))

not_split : (earlier later : List ChainMember) (g : ChainMember) → [] ≡ earlier ++ g ∷ later → ⊥
not_split [] later g e = cc
not_split (x ∷ earlier) later g e = cc

-- where a frame ends in the text
pub prefix-length : (before : List ChainMember) (f : ChainMember) → length (text (before ++ f ∷ [])) ≡ length (text before) + length f.field
prefix-length before f = simp (flat_map-append, length-append, append-nil)

pub none-from : (b : Option ChainMember) → is_none b ≡ true → b ≡ None
none-from None h = refl
none-from (Some m) h = absurd (cc)

module _ (limit : ℕ) where
  -- whether a packet is long there
  long-from : (q reach at : ℕ) → Iff (is_long limit reach at ≡ true) ((q + limit < q + reach) × (q + 6 ≤ q + at))
  long-from q reach at = (
    λ h.
        let both = and_parts (leb 6 at) (ltb limit reach) h in
        let there = leb-true 6 at both.0 in
        let past = ltb-true limit reach both.1 in
        (omega arith, omega arith),
    λ h.
        and_from (leb 6 at) (ltb limit reach) (le-leb 6 at (omega (arith, h.0, h.1))) (lt-ltb limit reach (omega (arith, h.0, h.1))),
  )

  -- each frame between agrees
  abbrev pub AllAgree : ℕ → ℕ → List ChainMember → Type 0
  AllAgree reach at between =
      (earlier later : List ChainMember) (g : ChainMember) → between ≡ earlier ++ g ∷ later → agrees limit reach (at + length (text earlier)) g ≡ true

  each-cons : (reach at : ℕ) (m : ChainMember) (between : List ChainMember) → agrees limit reach at m ≡ true → AllAgree reach (at + length m.field) between → AllAgree reach at (m ∷ between)
  each-cons reach at m between a h [] later g e =
      let same : m ≡ g = cc in
      let z : at + 0 ≡ at = omega arith in
      rw (z, ← same) a
  each-cons reach at m between a h (x ∷ earlier) later g e =
      let same : m ≡ x = cc in
      let rest : between ≡ earlier ++ g ∷ later = cc in
      let size : length m.field ≡ length x.field = ap (λ (z : ChainMember). length z.field) same in
      ap (λ (k : ℕ). agrees limit reach k g) (omega (arith, length-append x.field (text earlier))) ∙ h earlier later g rest

  each-first : (reach at : ℕ) (m : ChainMember) (between : List ChainMember) → AllAgree reach at (m ∷ between) → agrees limit reach at m ≡ true
  each-first reach at m between h = let z : at ≡ at + 0 = omega arith in ap (λ (k : ℕ). agrees limit reach k m) z ∙ h [] between m refl

  each-rest : (reach at : ℕ) (m : ChainMember) (between : List ChainMember) → AllAgree reach at (m ∷ between) → AllAgree reach (at + length m.field) between
  each-rest reach at m between h earlier later g e =
      let len : length (m.field ++ text earlier) ≡ length m.field + length (text earlier) = length-append m.field (text earlier) in
      ap (λ (k : ℕ). agrees limit reach k g) (omega arith) ∙ h (m ∷ earlier) later g (ap (λ (ms : List ChainMember). m ∷ ms) e)

  pub open-to : (reach at : ℕ) (between : List ChainMember) → open_after limit reach at between ≡ true → (at + length (text between) < reach) × AllAgree reach at between
  open-to reach at [] h = (let e = ltb-true at reach h in omega arith, λ earlier later g e. absurd (not_split earlier later g e))
  open-to reach at (m ∷ between) h =
      let both = and_parts (agrees limit reach at m) (open_after limit reach (at + length m.field) between) h in
      let rest = open-to reach (at + length m.field) between both.1 in
      (let r = rest.0 in omega (arith, length-append m.field (text between)), each-cons reach at m between both.0 rest.1)

  open-from : (reach at : ℕ) (between : List ChainMember) → at + length (text between) < reach → AllAgree reach at between → open_after limit reach at between ≡ true
  open-from reach at [] h each = lt-ltb at reach (omega arith)
  open-from reach at (m ∷ between) h each =
      and_from (agrees limit reach at m) (open_after limit reach (at + length m.field) between) (each-first reach at m between each)
      (open-from reach (at + length m.field) between (omega (arith, length-append m.field (text between))) (each-rest reach at m between each))

  -- no frame breaks
  abbrev pub Unbroken : ℕ → ℕ → List ChainMember → Type 0
  Unbroken reach at later =
      (between more : List ChainMember) (m : ChainMember) → later ≡ between ++ m ∷ more → open_after limit reach at between ≡ true
      → agrees limit reach (at + length (text between)) m ≡ true

  unbroken-to : (reach at : ℕ) (later : List ChainMember) → breaker limit reach at later ≡ None → Unbroken reach at later
  unbroken-to reach at [] h between more m e o = absurd (not_split between more m e)
  unbroken-to reach at (f ∷ later) h [] more m e o =
      let same : f ≡ m = cc in
      let z : at + 0 ≡ at = omega arith in
      rw (z, ← same) (true_from_ne_false (agrees limit reach at f) (λ a. none-some f (sym (rw (o, a) at h))))
  unbroken-to reach at (f ∷ later) h (x ∷ between) more m e o =
      let same : f ≡ x = cc in
      let rest : later ≡ between ++ m ∷ more = cc in
      let both = and_parts (agrees limit reach at x) (open_after limit reach (at + length x.field) between) o in
      let past = open-to reach (at + length x.field) between both.1 in
      let size : length f.field ≡ length x.field = ap (λ (z : ChainMember). length z.field) same in
      let agreed : agrees limit reach at f ≡ true = ap (agrees limit reach at) same ∙ both.0 in
      let here : at < reach = let p = past.0 in omega (arith, length-append x.field (text between)) in
      let none : breaker limit reach (at + length f.field) later ≡ None = rw (lt-ltb at reach here, agreed) at h in
      ap (λ (k : ℕ). agrees limit reach k m) (omega (arith, length-append x.field (text between)))
      ∙ unbroken-to reach (at + length f.field) later none between more m rest (ap (λ (k : ℕ). open_after limit reach (at + k) between) size ∙ both.1)

  pub unbroken-from : (reach at : ℕ) (later : List ChainMember) → Unbroken reach at later → breaker limit reach at later ≡ None
  unbroken-from reach at [] h = refl
  unbroken-from reach at (f ∷ later) h =
      ⊎_elim
      (λ (here : ltb at reach ≡ true).
      let z : at ≡ at + 0 = omega arith in
      let agreed : agrees limit reach at f ≡ true = ap (λ (k : ℕ). agrees limit reach k f) z ∙ h [] later f refl here in
      rw (here, agreed)
      (unbroken-from reach (at + length f.field) later
      (λ between more m e o.
      ap (λ (k : ℕ). agrees limit reach k m) (omega (arith, length-append f.field (text between)))
      ∙ h (f ∷ between) more m (ap (λ (ms : List ChainMember). f ∷ ms) e) (and_from (agrees limit reach at f) _ agreed o))))
      (λ (past : ltb at reach ≡ false). rw past)
      (cases_Bool (ltb at reach))

  -- a start whose frame has the octets `skipped` before it
  module _ (before : List ChainMember) (f : ChainMember) (skipped start : List ℕ) (whole_field : f.field ≡ skipped ++ start) where
    pub text_split : (later : List ChainMember) → text (before ++ f ∷ later) ≡ (text before ++ skipped) ++ (start ++ text later)
    text_split later =
        flat_map-append (λ m. m.field) before (f ∷ later) ∙ ap (λ (o : List ℕ). text before ++ (o ++ text later)) whole_field ∙ simp append_assoc

    pub ends-at : (later : List ChainMember)
        → packet_length_at (text (before ++ f ∷ later)) (length (text before) + length skipped) ≡ (length (text before) + length skipped) + reach_of start later
    ends-at later =
        rw (text_split later, ← length-append (text before) skipped) (packet_length-place (text before ++ skipped) (start ++ text later))

    -- where a later frame begins
    pub begins-at : (between : List ChainMember)
        → length (text ((before ++ f ∷ []) ++ between)) ≡ (length (text before) + length skipped) + (length start + length (text between))
    begins-at between =
        let all : length (text ((before ++ f ∷ []) ++ between)) ≡ (length (text before) + length f.field) + length (text between) =
        simp (flat_map-append, length-append, append-nil) in
        omega (arith, ap length whole_field, length-append skipped start)

    -- where the start's own frame ends, and where a later one does
    pub own-end : length (text (before ++ f ∷ [])) ≡ (length (text before) + length skipped) + length start
    own-end = omega (arith, prefix-length before f, ap length whole_field, length-append skipped start)

    later-end : (between : List ChainMember) (m : ChainMember) → length (text ((before ++ f ∷ []) ++ between)) + length m.field
        ≡ (length (text before) + length skipped) + ((length start + length (text between)) + length m.field)
    later-end between m = let b = begins-at between in omega arith

    pub place-at : (between later : List ChainMember) (m : ChainMember)
        → Iff (agrees_at (reach_of start later) (length start + length (text between)) (length m.field) m.place ≡ true)
        (AgreesAt (packet_length_at (text (before ++ f ∷ later)) (length (text before) + length skipped)) (length (text ((before ++ f ∷ []) ++ between))) (length m.field) m.place)
    place-at between later m =
        rw (ends-at later, begins-at between)
        (agrees-from (length (text before) + length skipped) (reach_of start later) (length start + length (text between)) (length m.field) m.place)

    pub long-at : (between later : List ChainMember) (m : ChainMember)
        → Iff (is_long limit (reach_of start later) ((length start + length (text between)) + length m.field) ≡ true)
        (IsLong limit (text (before ++ f ∷ later)) (length (text before) + length skipped) (length (text ((before ++ f ∷ []) ++ between)) + length m.field))
    long-at between later m =
        rw (ends-at later, later-end between m)
        (long-from (length (text before) + length skipped) (reach_of start later) ((length start + length (text between)) + length m.field))

    pub agreement-at : (between later : List ChainMember) (m : ChainMember)
        → Iff (agrees limit (reach_of start later) (length start + length (text between)) m ≡ true)
        (Agrees limit (text (before ++ f ∷ later)) (length (text before) + length skipped) (length (text ((before ++ f ∷ []) ++ between))) m)
    agreement-at between later m =
        let at : ℕ = length start + length (text between) in
        let reach : ℕ = reach_of start later in (
          λ h. ((place-at between later m).0 (agrees-place limit reach at m h), λ l. both_ways _ (agrees-short limit reach at m h) ((long-at between later m).1 l)),
          λ h.
              and_not (agrees_at reach at (length m.field) m.place) (is_long limit reach (at + length m.field)) ((place-at between later m).1 h.0)
              (false_from_ne_true (is_long limit reach (at + length m.field)) (λ l. h.1 ((long-at between later m).0 l))),
        )

    -- in its own frame
    pub own-long-at : (later : List ChainMember)
        → Iff (is_long limit (packet_length start) (length start) ≡ true)
        (IsLong limit (text (before ++ f ∷ later)) (length (text before) + length skipped) (length (text (before ++ f ∷ []))))
    own-long-at later =
        rw (ends-at later, own-end, ← own-long-settled limit start later)
        (long-from (length (text before) + length skipped) (reach_of start later) (length start))

    module _ (some : 0 < length start) where
      version-at : (later : List ChainMember)
          → packet_version_of (take 1 (drop (length (text before) + length skipped) (text (before ++ f ∷ later)))) ≡ packet_version_of (take 1 start)
      version-at later =
          rw (text_split later, ← length-append (text before) skipped) (version-place (text before ++ skipped) start (text later) some)

      pub zero-at : (later : List ChainMember) → Iff (is_packet start ≡ true) (IsVersionZero (text (before ++ f ∷ later)) (length (text before) + length skipped))
      zero-at later = (
        λ h. version-at later ∙ eqb-true (packet_version_of (take 1 start)) 0 h,
        λ h. eq-eqb (packet_version_of (take 1 start)) 0 (sym (version-at later) ∙ h),
      )

      pub packet-begins : (later : List ChainMember)
          → Iff (begins_packet limit start ≡ true)
          (BeginsPacket limit (text (before ++ f ∷ later)) (length (text before) + length skipped) (length (text (before ++ f ∷ []))))
      packet-begins later = (
        λ h. ((zero-at later).0 (begins-zero limit start h), λ l. both_ways _ (begins-short limit start h) ((own-long-at later).1 l)),
        λ h.
            and_not (is_packet start) (is_long limit (packet_length start) (length start)) ((zero-at later).1 h.0)
            (false_from_ne_true (is_long limit (packet_length start) (length start)) (λ l. h.1 ((own-long-at later).0 l))),
      )

      pub open-at : (between later : List ChainMember)
          → Iff ((begins_packet limit start && open_after limit (reach_of start later) (length start) between) ≡ true)
          (IsOpen limit (text (before ++ f ∷ later)) (length (text before) + length skipped) (before ++ f ∷ []) between)
      open-at between later = (
        λ h.
            let both = and_parts (begins_packet limit start) (open_after limit (reach_of start later) (length start) between) h in
            let o = open-to (reach_of start later) (length start) between both.1 in (
              (packet-begins later).0 both.0,
              rw (ends-at later, begins-at between) (omega (arith, o.0)),
              λ earlier more g e. (agreement-at earlier later g).0 (o.1 earlier more g e),
            ),
        λ h.
            and_from (begins_packet limit start) (open_after limit (reach_of start later) (length start) between) ((packet-begins later).1 h.0)
            (open-from (reach_of start later) (length start) between
            (omega (arith, rw (ends-at later, begins-at between) at h.1))
            (λ earlier more g e. (agreement-at earlier later g).1 (h.2 earlier more g e))),
      )

      pub text-length : (later : List ChainMember) → length (text (before ++ f ∷ later)) ≡ (length (text before) + length skipped) + length (start ++ text later)
      text-length later =
          rw (text_split later, length-append (text before ++ skipped) (start ++ text later), length-append (text before) skipped)

      pub whole-at : (later : List ChainMember)
          → Iff (is_whole limit start later ≡ true)
          (IsWhole limit (text (before ++ f ∷ later)) (length (text before) + length skipped) (before ++ f ∷ []) later)
      whole-at later = (
        λ h.
            let one = and_parts (begins_packet limit start) (is_none (breaker limit (reach_of start later) (length start) later) && leb (reach_of start later) (length (start ++ text later))) h in
            let two = and_parts (is_none (breaker limit (reach_of start later) (length start) later)) (leb (reach_of start later) (length (start ++ text later))) one.1 in
            let unbroken = unbroken-to (reach_of start later) (length start) later (none-from _ two.0) in (
              (packet-begins later).0 one.0,
              rw (ends-at later, text-length later) (omega (arith, leb-true (reach_of start later) (length (start ++ text later)) two.1)),
              λ between more m e o.
                  (agreement-at between later m).0
                  (unbroken between more m e (and_parts (begins_packet limit start) (open_after limit (reach_of start later) (length start) between) ((open-at between later).1 o)).1),
            ),
        λ h.
            and_from (begins_packet limit start) _ ((packet-begins later).1 h.0)
            (and_from (is_none (breaker limit (reach_of start later) (length start) later)) (leb (reach_of start later) (length (start ++ text later)))
            (ap (λ (b : Option ChainMember). is_none b)
            (unbroken-from (reach_of start later) (length start) later
            (λ between more m e o.
            (agreement-at between later m).1
            (h.2 between more m e ((open-at between later).0 (and_from (begins_packet limit start) (open_after limit (reach_of start later) (length start) between) ((packet-begins later).1 h.0) o))))))
            (le-leb (reach_of start later) (length (start ++ text later)) (omega (arith, rw (ends-at later, text-length later) at h.1)))),
      )
