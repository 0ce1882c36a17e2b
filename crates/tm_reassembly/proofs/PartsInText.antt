-- Where a packet ends or is broken off, and the parts that starts become, with places in the text.
use Rattle.std.proofs.lemmas.Option.{none-some, same_Some}
use Rattle.tm_reassembly.proofs.Split.{holder-settled}
use Rattle.std.proofs.Common.{◌≡◌, ℕ, ◌+◌, ◌-◌, Bool, true, false, ◌&&◌, Option, Some, None, List, [], ◌∷◌, ◌++◌, length, take, refl, ap, ◌∙◌, ⊎_elim, arith, ◌<◌, ◌≤◌, length-append, leb, ltb}
use Rattle.std.specs.Prelude.{is_none}
use Rattle.std.proofs.Math.Seq.{drop-append_seam, take-append_seam, take-append-add, take-length}
use Rattle.std.proofs.lemmas.List.Concat.{flat_map-append}
use Rattle.std.proofs.lemmas.Bool.{cases_Bool, cond-true, lt-ltb, and_from, and_parts, both_ways, false_from_ne_true, lt-leb}
use Rattle.tm_items.specs.declared.items.Reason.TheVariants as why
use Rattle.tm_reassembly.specs.Chain.{ChainMember, End}
use Rattle.tm_reassembly.specs.Parts.{Part, Fate, Given, Lost, text, is_long, begins_packet, reason_at, unread_reason, agrees_at, fate_at, agrees, open_after, joined, breaker, holder}
use Rattle.tm_items.specs.OnePacket.{packet_length, is_packet}
use Rattle.tm_reassembly.specs.Absolute.{packet_length_at, frame_begin, frame_end, IsVersionZero, BeginsPacket, StartInRun, text_with, place_of_start, reach_of_start, frames_up_to, start_of, part_of_start, part_up_to, part_in_frame, part_before, IsLongUpTo, IsOpenBehind, GoesOnByPlace, GoesOnWith, IsWholeIn}
use Rattle.tm_reassembly.proofs.Long.{begins-zero, begins-short}
use Rattle.tm_items.specs.declared.items.Reason.{Reason}
use Rattle.tm_reassembly.proofs.Places.{none-from, open-to, unbroken-from, text_split, text-length, begins-at, ends-at, place-at, agreement-at, own-long-at, zero-at, packet-begins, open-at, whole-at}

-- a packet is seen at the record that holds its last octet
pub holder-is : (reach at number : ℕ) (between more : List ChainMember) (m : ChainMember)
    → at + length (text between) < reach → reach ≤ (at + length (text between)) + length m.field
    → holder reach at number (between ++ m ∷ more) ≡ m.number
holder-is reach at number [] more m h k = rw (lt-leb reach at (omega arith)) (holder-settled reach (at + length m.field) m.number more (omega arith))
holder-is reach at number (f ∷ between) more m h k =
    let len : length (f.field ++ text between) ≡ length f.field + length (text between) = length-append f.field (text between) in
    rw (lt-leb reach at (omega arith)) (holder-is reach (at + length f.field) f.number between more m (omega arith) (omega arith))

module _ (limit : ℕ) where
  -- the frame that breaks a start off: the start is open there, the frame doesn't agree, and those between are the ones that joined
  abbrev pub Breaks : ℕ → ℕ → List ChainMember → ChainMember → Type 0
  Breaks reach at later m =
      (between : List ChainMember) × (more : List ChainMember) × (later ≡ between ++ m ∷ more) × (open_after limit reach at between ≡ true)
      × (agrees limit reach (at + length (text between)) m ≡ false) × (joined limit reach at later ≡ between)

  pub breaker-is : (reach at : ℕ) (later : List ChainMember) (m : ChainMember) → breaker limit reach at later ≡ Some m → Breaks reach at later m
  breaker-is reach at [] m h = absurd (none-some m h)
  breaker-is reach at (f ∷ later) m h =
      ⊎_elim
      (λ (past : ltb at reach ≡ true).
      ⊎_elim
      (λ (agree : agrees limit reach at f ≡ true).
      let rest = breaker-is reach (at + length f.field) later m (rw (past, agree) at h) in
      let more = λ (ms : List ChainMember). f ∷ ms in
      let len : length (f.field ++ text rest.0) ≡ length f.field + length (text rest.0) = length-append f.field (text rest.0) in
      let there : at + length (f.field ++ text rest.0) ≡ (at + length f.field) + length (text rest.0) = omega arith in
      (f ∷ rest.0, rest.1, ap more rest.2, and_from (agrees limit reach at f) _ agree rest.3, rw there rest.4, cond-true (ltb at reach && agrees limit reach at f) _ _ (and_from (ltb at reach) _ past agree) ∙ ap more rest.5))
      (λ (differ : agrees limit reach at f ≡ false).
      let same : f ≡ m = same_Some f m (rw differ at (rw past at h)) in
      let z : at + 0 ≡ at = omega arith in
      ([], later, ap (λ (x : ChainMember). x ∷ later) same, past, rw (z, ← same) differ, rw (past, differ)))
      (cases_Bool (agrees limit reach at f)))
      (λ (past : ltb at reach ≡ false). absurd (none-some m (rw past at h)))
      (cases_Bool (ltb at reach))

  -- a start is broken off at the first frame that doesn't agree with it
  breaks-off : (reach at : ℕ) (between more : List ChainMember) (m : ChainMember) → open_after limit reach at between ≡ true
      → agrees limit reach (at + length (text between)) m ≡ false
      → (breaker limit reach at (between ++ m ∷ more) ≡ Some m) × (joined limit reach at (between ++ m ∷ more) ≡ between)
  breaks-off reach at [] more m o a =
      let z : at + 0 ≡ at = omega arith in
      let differ : agrees limit reach at m ≡ false = rw z at a in
      (rw (o, differ), rw (o, differ))
  breaks-off reach at (f ∷ between) more m o a =
      let both = and_parts (agrees limit reach at f) (open_after limit reach (at + length f.field) between) o in
      let past = open-to limit reach (at + length f.field) between both.1 in
      let reaches : ltb at reach ≡ true = lt-ltb at reach (omega (arith, past.0)) in
      let len : length (f.field ++ text between) ≡ length f.field + length (text between) = length-append f.field (text between) in
      let rest = breaks-off reach (at + length f.field) between more m both.1 (ap (λ (k : ℕ). agrees limit reach k m) (omega arith) ∙ a) in
      (rw (reaches, both.0) rest.0, rw (reaches, both.0) (ap (λ (ms : List ChainMember). f ∷ ms) rest.1))

  module _ (p : StartInRun) (some : 0 < length p.octets) where
    -- how many octets lie before the frame's end, and the octets of its packet that the text has
    abbrev reach : ℕ
    reach = reach_of_start p

    abbrev octets : List ℕ
    octets = p.octets ++ text p.later

    -- a part by how many octets it has
    part-place : (stop n : ℕ) (o : List ℕ) (fate : Fate) → stop ≡ place_of_start p + n → take n octets ≡ o
        → ◌≡◌ {A = Part} (record { first = p.frame.number; place = (start_of p).place; octets = o; fate = fate }) (part_up_to p stop fate)
    part-place stop n o fate e h =
        let back : (place_of_start p + n) - place_of_start p ≡ n = omega arith in
        rw (e, back, text_split limit p.before p.frame p.skipped p.octets p.field p.later, ← length-append (text p.before) p.skipped)
        (rw (drop-append_seam (text p.before ++ p.skipped) octets, h))

    -- a start at which no packet is read: the rest of its frame
    unread-by : (end : End) (r : Reason) → (begins_packet limit p.octets ≡ true → ⊥) → unread_reason p.octets ≡ r → part_of_start limit p end ≡ part_in_frame p r
    unread-by end r unread reason =
        let size : length p.frame.field ≡ length p.skipped + length p.octets = ap (λ (o : List ℕ). length o) p.field ∙ length-append p.skipped p.octets in
        rw (false_from_ne_true (begins_packet limit p.octets) unread, reason)
        (part-place (frame_end p.before p.frame) (length p.octets) p.octets (Lost r p.frame.number) (omega arith) (take-append_seam p.octets (text p.later)))

    -- another version
    pub unread-at : (end : End) → (IsVersionZero (text_with p) (place_of_start p) → ⊥) → part_of_start limit p end ≡ part_in_frame p why.Version
    unread-at end not_zero =
        let no_packet : is_packet p.octets ≡ true → ⊥ = (λ zero. not_zero ((zero-at limit p.before p.frame p.skipped p.octets p.field some p.later).0 zero)) in
        unread-by end why.Version (λ packet. no_packet (begins-zero limit p.octets packet)) (rw (false_from_ne_true (is_packet p.octets) no_packet))

    -- a packet over the limit
    pub unread_long-at : (end : End) → IsVersionZero (text_with p) (place_of_start p) → IsLongUpTo limit p (frame_begin (frames_up_to p))
        → part_of_start limit p end ≡ part_in_frame p why.Length
    unread_long-at end zero long =
        let is : is_long limit (packet_length p.octets) (length p.octets) ≡ true = (own-long-at limit p.before p.frame p.skipped p.octets p.field p.later).1 long in
        unread-by end why.Length (λ packet. both_ways _ (begins-short limit p.octets packet) is)
        (rw ((zero-at limit p.before p.frame p.skipped p.octets p.field some p.later).1 zero))

    -- a whole packet: the octets up to where it ends
    pub packet-at : (end : End) → IsWholeIn limit p
        → part_of_start limit p end ≡ part_up_to p (packet_length_at (text_with p) (place_of_start p)) (Given (holder reach (length p.octets) p.frame.number p.later))
    packet-at end whole =
        let fits : Bool = leb reach (length octets) in
        let one = and_parts (begins_packet limit p.octets) (is_none (breaker limit reach (length p.octets) p.later) && fits)
        ((whole-at limit p.before p.frame p.skipped p.octets p.field some p.later).1 whole) in
        let two = and_parts (is_none (breaker limit reach (length p.octets) p.later)) fits one.1 in
        rw (one.0, none-from _ two.0, two.1)
        (part-place (packet_length_at (text_with p) (place_of_start p)) reach (take reach octets) (Given (holder reach (length p.octets) p.frame.number p.later))
        (ends-at limit p.before p.frame p.skipped p.octets p.field p.later) refl)

    -- a start that a frame breaks off: the octets up to that frame
    module _ (end : End) (between more : List ChainMember) (m : ChainMember) (split : p.later ≡ between ++ m ∷ more) (opened : IsOpenBehind limit p between) where
      broken-by : (r : Reason) → (GoesOnWith limit p between m → ⊥) → reason_at reach (length p.octets + length (text between)) m ≡ r
          → part_of_start limit p end ≡ part_before p between m r
      broken-by r differs reason =
          let one = and_parts (begins_packet limit p.octets) (open_after limit reach (length p.octets) between)
          ((open-at limit p.before p.frame p.skipped p.octets p.field some between p.later).1 opened) in
          let differ : agrees limit reach (length p.octets + length (text between)) m ≡ false =
          false_from_ne_true _ (λ agree. differs ((agreement-at limit p.before p.frame p.skipped p.octets p.field between p.later m).0 agree)) in
          let off = breaks-off reach (length p.octets) between more m one.1 differ in
          let found : breaker limit reach (length p.octets) p.later ≡ Some m = ap (breaker limit reach (length p.octets)) split ∙ off.0 in
          let agreeing : joined limit reach (length p.octets) p.later ≡ between = ap (joined limit reach (length p.octets)) split ∙ off.1 in
          rw (one.0, found, agreeing, length-append p.octets (text between), reason)
          (part-place (frame_begin (frames_up_to p ++ between)) (length p.octets + length (text between)) (p.octets ++ text between) (Lost r m.number)
          (begins-at limit p.before p.frame p.skipped p.octets p.field between)
          (take-append-add p.octets (text p.later) (length (text between))
          ∙ ap (λ (o : List ℕ). p.octets ++ take (length (text between)) o) (ap text split ∙ flat_map-append (λ x. x.field) between (m ∷ more))
          ∙ ap (λ (o : List ℕ). p.octets ++ o) (take-append_seam (text between) (text (m ∷ more)))))

      -- by its place
      pub broken-at : (GoesOnByPlace p between m → ⊥) → part_of_start limit p end ≡ part_before p between m why.Pointer
      broken-at differs =
          broken-by why.Pointer (λ agree. differs agree.0)
          (rw (false_from_ne_true (agrees_at reach (length p.octets + length (text between)) (length m.field) m.place)
          (λ e. differs ((place-at limit p.before p.frame p.skipped p.octets p.field between p.later m).0 e))))

      -- only because the packet is over the limit
      pub broken_long-at : GoesOnByPlace p between m → IsLongUpTo limit p (frame_end (frames_up_to p ++ between) m)
          → part_of_start limit p end ≡ part_before p between m why.Length
      broken_long-at place long =
          broken-by why.Length (λ agree. agree.1 long) (rw ((place-at limit p.before p.frame p.skipped p.octets p.field between p.later m).1 place))

    -- a start that neither ends in the text nor is broken off: all the octets that follow
    pub unended-at : (end : End) → BeginsPacket limit (text_with p) (place_of_start p) (frame_begin (frames_up_to p)) → (IsWholeIn limit p → ⊥)
        → ((between more : List ChainMember) (m : ChainMember) → p.later ≡ between ++ m ∷ more → IsOpenBehind limit p between → GoesOnWith limit p between m)
        → part_of_start limit p end ≡ part_up_to p (length (text_with p)) (fate_at end)
    unended-at end zero not_whole each =
        let packet : begins_packet limit p.octets ≡ true = (packet-begins limit p.before p.frame p.skipped p.octets p.field some p.later).1 zero in
        let none : breaker limit reach (length p.octets) p.later ≡ None =
        unbroken-from limit reach (length p.octets) p.later
        (λ between more m e o.
        (agreement-at limit p.before p.frame p.skipped p.octets p.field between p.later m).1
        (each between more m e
        ((open-at limit p.before p.frame p.skipped p.octets p.field some between p.later).0
        (and_from (begins_packet limit p.octets) (open_after limit reach (length p.octets) between) packet o)))) in
        let past : leb reach (length octets) ≡ false =
        false_from_ne_true _ (λ fits. not_whole ((whole-at limit p.before p.frame p.skipped p.octets p.field some p.later).0
        (and_from (begins_packet limit p.octets) _ packet
        (and_from (is_none (breaker limit reach (length p.octets) p.later)) _ (ap (λ (b : Option ChainMember). is_none b) none) fits)))) in
        rw (packet, none, past)
        (part-place (length (text_with p)) (length octets) octets (fate_at end)
        (text-length limit p.before p.frame p.skipped p.octets p.field some p.later) (take-length octets))
