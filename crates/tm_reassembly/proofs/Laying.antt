-- Where the parts of a chain lie: each begins where the one before ends, at the record and the place that it tells.
use Rattle.std.proofs.Common.{◌≡◌, ℕ, suc, zero, pred, ◌+◌, ◌-◌, ◌<◌, ◌≤◌, Bool, true, false, Option, Some, None, List, [], ◌∷◌, ◌++◌, length, take, drop, refl, sym, ap, subst, ◌∙◌, ⊎_elim, arith, append_assoc, length-append}
use Rattle.std.proofs.lemmas.List.{append-nil, take-append-drop, map-append}
use Rattle.std.proofs.Math.Seq.{take-append-add, take-length}
use Rattle.std.proofs.lemmas.Bool.{leb-true, eqb-true, cases_lt, cases_Bool, le-leb, lt-leb}
use Rattle.tm_items.specs.declared.items.Reason.TheVariants as why
use Rattle.tm_items.specs.declared.items.Reason.{Reason}
use Rattle.tm_reassembly.specs.State.{Tail}
use Rattle.tm_reassembly.specs.Chain.{ChainMember}
use Rattle.tm_reassembly.proofs.Long.{agrees-place}
use Rattle.tm_reassembly.specs.Parts.{Part, agrees, agrees_at, begins_packet, reason_at, lead_part, lead_octets}
use Rattle.tm_items.specs.OnePacket.{packet_length}
use Rattle.tm_reassembly.specs.code.Field.{end_place_of, field_parts, unfinished, parts_in, left_in, tail_at, frame_parts, frame_tail, tail_parts, tail_left, step_parts, step_tail, ended_parts, chain_parts_at, chain_tail_at}
use Rattle.tm_reassembly.specs.Tiles.{Spot, field_spots, spot_octets, BeginsAt, IsHeld}
use Rattle.tm_items.proofs.Reaching.{packet_length_least}
use Rattle.tm_reassembly.proofs.Chained.{IsOpenTail}

abbrev pub Piece : List Spot → ℕ → ℕ → List ℕ → List Spot → Type 0
Piece spots first place octets rest =
    (these : List Spot) × (spots ≡ these ++ rest) × (spot_octets these ≡ octets) × BeginsAt first place these

abbrev pub Lay : List Spot → List Part → List Spot → Type 0
Lay spots [] rest = spots ≡ rest
Lay spots (p ∷ ps) rest = (middle : List Spot) × Piece spots p.first p.place p.octets middle × Lay middle ps rest

pub Lay-append : (a b c : List Spot) (ps qs : List Part) → Lay a ps b → Lay b qs c → Lay a (ps ++ qs) c
Lay-append a b c [] qs h k = subst (λ (s : List Spot). Lay s qs c) (sym h) k
Lay-append a b c (p ∷ ps) qs h k = (h.0, h.1, Lay-append h.0 b c ps qs h.2 k)

pub Lay-more : (a b more : List Spot) (ps : List Part) → Lay a ps b → Lay (a ++ more) ps (b ++ more)
Lay-more a b more [] h = ap (λ (s : List Spot). s ++ more) h
Lay-more a b more (p ∷ ps) h = (
  h.0 ++ more,
  (h.1.0, ap (λ (s : List Spot). s ++ more) h.1.1 ∙ append_assoc h.1.0 h.0 more, h.1.2, h.1.3),
  Lay-more h.0 b more ps h.2,
)

-- parts that leave the octets of a tail
abbrev pub Laid : List Spot → List Part → Option Tail → Type 0
Laid spots ps tail = (rest : List Spot) × Lay spots ps rest × IsHeld tail rest

octets-field : (number place : ℕ) (o : List ℕ) → spot_octets (field_spots number place o) ≡ o
octets-field number place [] = refl
octets-field number place (x ∷ xs) = ap (λ (t : List ℕ). x ∷ t) (octets-field number (place + 1) xs)

take-field : (k number place : ℕ) (o : List ℕ) → take k (field_spots number place o) ≡ field_spots number place (take k o)
take-field (suc k) number place (x ∷ xs) =
    ap (λ (t : List Spot). record { record_number = number; place = place; octet = x } ∷ t) (take-field k number (place + 1) xs)
take-field k number place o = refl

-- up to where a packet that a frame agrees with ends, there are the tail and the frame's lead
lead_taken : (place : Option ℕ) (d : ℕ) (t f : List ℕ) → agrees_at d (length t) (length f) place ≡ true → d ≤ length t + length f
    → take d (t ++ f) ≡ t ++ lead_octets place f
lead_taken None d t f e h =
    let all : d ≡ length t + length f = let l = leb-true (length t + length f) d e in omega arith in
    ap (λ (k : ℕ). take k (t ++ f)) all ∙ take-append-add t f (length f) ∙ ap (λ (o : List ℕ). t ++ o) (take-length f)
lead_taken (Some place) d t f e h = ap (λ (k : ℕ). take k (t ++ f)) (eqb-true d (length t + place) e) ∙ take-append-add t f place

take_next : {A : Type 0} (n : ℕ) (x : A) (xs : List A) → 0 < n → take n (x ∷ xs) ++ drop (pred n) xs ≡ x ∷ xs
take_next zero x xs h = absurd (omega arith)
take_next {A} (suc n) x xs h = ap (λ (t : List A). x ∷ t) (take-append-drop n xs)

begins-take : (n first place : ℕ) (x : Spot) (xs : List Spot) → 0 < n → BeginsAt first place (x ∷ xs) → BeginsAt first place (take n (x ∷ xs))
begins-take zero first place x xs h k = absurd (omega arith)
begins-take (suc n) first place x xs h k = k

begins-more : (first place : ℕ) (a b : List Spot) → BeginsAt first place a → BeginsAt first place (a ++ b)
begins-more first place [] b h = absurd h
begins-more first place (x ∷ a) b h = h

abbrev pub spots_of : ChainMember → List Spot
spots_of m = field_spots m.number m.base m.field

lead_lays : (m : ChainMember) (reason : Reason) (o : List ℕ) → Lay (field_spots m.number m.base o) (lead_part m reason o) []
lead_lays m reason [] = refl
lead_lays m reason (x ∷ xs) =
    ([], (field_spots m.number m.base (x ∷ xs), sym (append-nil (field_spots m.number m.base (x ∷ xs))), octets-field m.number m.base (x ∷ xs), (refl, refl)), refl)

ended_lays : (tail : Option Tail) (reason : Reason) (number : ℕ) (h : List Spot) → IsHeld tail h → Lay h (ended_parts tail reason number) []
ended_lays None reason number h held = held
ended_lays (Some t) reason number h held = ([], (h, sym (append-nil h), held.0, held.1), refl)

-- VCA frames are left out
abbrev pub plain_spots : Bool → List Spot → List Spot
plain_spots true spots = []
plain_spots false spots = spots

cut_lays : (tail : Option Tail) (reason : Reason) (number : ℕ) (h : List Spot) → IsHeld tail h → Laid (h ++ []) (ended_parts tail reason number) None
cut_lays tail reason number h held =
    ([], subst (λ (s : List Spot). Lay s (ended_parts tail reason number) []) (sym (append-nil h)) (ended_lays tail reason number h held), refl)

module _ (limit : ℕ) where
  -- the packets and the unread part of a field, and its unfinished packet
  field_lays : (number place stop skip : ℕ) (o : List ℕ) → stop ≡ place + length o
      → Laid (drop skip (field_spots number place o)) (field_parts limit number stop skip o) (tail_at number stop (unfinished limit skip o))
  field_lays number place stop (suc skip) (x ∷ xs) h = field_lays number (place + 1) stop skip xs (omega arith)
  field_lays number place stop zero (x ∷ xs) h =
      let back : place ≡ stop - suc (length xs) = omega arith in
      let some : 0 < packet_length (x ∷ xs) = omega (arith, packet_length_least (x ∷ xs)) in
      ⊎_elim
      (λ (p : begins_packet limit (x ∷ xs) ≡ true).
      ⊎_elim
      (λ less.
      rw (p, lt-leb (packet_length (x ∷ xs)) (suc (length xs)) less) (field_spots number place (x ∷ xs), refl, (octets-field number place (x ∷ xs), (refl, back))))
      (λ whole.
      let rest = field_lays number (place + 1) stop (pred (packet_length (x ∷ xs))) xs (omega arith) in
      let n : ℕ = packet_length (x ∷ xs) in
      let spot : Spot = record { record_number = number; place = place; octet = x } in
      let later : List Spot = field_spots number (place + 1) xs in
      let octets = ap spot_octets (take-field n number place (x ∷ xs)) ∙ octets-field number place (take n (x ∷ xs)) in
      let begins = begins-take n number (stop - suc (length xs)) spot later some (refl, back) in
      rw (p, le-leb (packet_length (x ∷ xs)) (suc (length xs)) whole)
      (rest.0, (drop (pred n) later, (take n (spot ∷ later), sym (take_next n spot later some), octets, begins), rest.1), rest.2))
      (cases_lt (suc (length xs)) (packet_length (x ∷ xs))))
      (λ (p : begins_packet limit (x ∷ xs) ≡ false).
      let all : List Spot = field_spots number place (x ∷ xs) in
      rw p ([], ([], (all, sym (append-nil all), octets-field number place (x ∷ xs), (refl, back)), refl), refl))
      (cases_Bool (begins_packet limit (x ∷ xs)))
  field_lays number place stop skip o h = ([], refl, refl)

  -- a frame past its lead
  rest_lays : (m : ChainMember)
      → (middle : List Spot) × (spots_of m ≡ field_spots m.number m.base (lead_octets m.place m.field) ++ middle) × Laid middle (frame_parts limit m) (frame_tail limit m)
  rest_lays m =
      elim m.place as (λ v.
      (middle : List Spot) × (field_spots m.number m.base m.field ≡ field_spots m.number m.base (lead_octets v m.field) ++ middle)
      × Laid middle (parts_in limit m.number (end_place_of m) v m.field) (tail_at m.number (end_place_of m) (left_in limit v m.field))) [
        | None ↦ ([], sym (append-nil (field_spots m.number m.base m.field)), ([], refl, refl))
        | Some place ↦
            let taken = take-field place m.number m.base m.field in
            (drop place (spots_of m), rw (← taken) (sym (take-append-drop place (spots_of m))), field_lays m.number m.base (end_place_of m) place m.field refl)
      ]

  frame_lays : (m : ChainMember) (reason : Reason)
      → Laid (spots_of m) (lead_part m reason (lead_octets m.place m.field) ++ frame_parts limit m) (frame_tail limit m)
  frame_lays m reason =
      let f = rest_lays m in
      let lead : List ℕ = lead_octets m.place m.field in
      let laid = Lay-more (field_spots m.number m.base lead) [] f.0 (lead_part m reason lead) (lead_lays m reason lead) in
      (f.2.0, rw f.1 (Lay-append _ f.0 f.2.0 (lead_part m reason lead) (frame_parts limit m) laid f.2.1), f.2.2)

  -- a tail and a frame
  tail_lays : (t : Tail) (m : ChainMember) (h : List Spot) → IsHeld (Some t) h
      → Laid (h ++ spots_of m) (tail_parts limit t m (packet_length (t.octets ++ m.field))) (tail_left limit t m (packet_length (t.octets ++ m.field)))
  tail_lays t m h held =
      let d : ℕ = packet_length (t.octets ++ m.field) in
      let a : ℕ = length t.octets in
      let whole : ℕ = length (t.octets ++ m.field) in
      ⊎_elim
      (λ (agree : agrees limit d a m ≡ true).
      ⊎_elim
      (λ past.
      let octets = both_octets h (spots_of m) t.octets m.field held.0 (octets-field m.number m.base m.field) in
      rw (agree, lt-leb d whole past) (h ++ spots_of m, refl, (octets, begins-more t.first t.place h (spots_of m) held.1)))
      (λ within.
      let lead : List Spot = field_spots m.number m.base (lead_octets m.place m.field) in
      let f = rest_lays m in
      let split = ap (λ (s : List Spot). h ++ s) f.1 ∙ sym (append_assoc h lead f.0) in
      let octets = both_octets h lead t.octets (lead_octets m.place m.field) held.0 (octets-field m.number m.base (lead_octets m.place m.field))
      ∙ sym (lead_taken m.place d t.octets m.field (agrees-place limit d a m agree) (omega (arith, length-append t.octets m.field))) in
      rw (agree, le-leb d whole within) (f.2.0, (f.0, (h ++ lead, split, octets, begins-more t.first t.place h lead held.1), f.2.1), f.2.2))
      (cases_lt whole d))
      (λ (differ : agrees limit d a m ≡ false).
      let f = frame_lays m (reason_at d a m) in
      rw differ (f.0, (spots_of m, (h, refl, held.0, held.1), f.1), f.2))
      (cases_Bool (agrees limit d a m))
    where
      both_octets : (a b : List Spot) (u v : List ℕ) → spot_octets a ≡ u → spot_octets b ≡ v → spot_octets (a ++ b) ≡ u ++ v
      both_octets a b u v e f = map-append (λ x. x.octet) a b ∙ rw (e, f)

  step_lays : (tail : Option Tail) (m : ChainMember) (h : List Spot) → IsOpenTail limit tail → IsHeld tail h
      → Laid (h ++ spots_of m) (step_parts limit tail m) (step_tail limit tail m)
  step_lays None m h unwhole held =
      subst (λ (s : List Spot). Laid (s ++ spots_of m) (step_parts limit None m) (step_tail limit None m)) (sym held) (frame_lays m why.NoStart)
  step_lays (Some t) m h unwhole held = tail_lays t m h held

  pub chain_lays : (gap vca : Bool) (tail : Option Tail) (m : ChainMember) (h : List Spot) → IsOpenTail limit tail → IsHeld tail h
      → Laid (h ++ plain_spots vca (spots_of m)) (chain_parts_at limit gap vca tail m) (chain_tail_at limit gap vca tail m)
  chain_lays true true tail m h unwhole held = cut_lays tail why.Gap m.number h held
  chain_lays false true tail m h unwhole held = cut_lays tail why.Vca m.number h held
  chain_lays false false tail m h unwhole held = step_lays tail m h unwhole held
  chain_lays true false tail m h unwhole held =
      let f = step_lays None m [] tt refl in (
        f.0,
        Lay-append (h ++ spots_of m) (spots_of m) f.0 (ended_parts tail why.Gap m.number) (step_parts limit None m)
            (Lay-more h [] (spots_of m) (ended_parts tail why.Gap m.number) (ended_lays tail why.Gap m.number h held)) f.1,
        f.2,
      )
