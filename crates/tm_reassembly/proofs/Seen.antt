-- At which record items are seen: what a member gives is seen at it, and no step leaves a tail that is not open.
use Rattle.std.proofs.lemmas.List.{length-take-le}
use Rattle.tm_items.proofs.Reaching.{packet_length_least}
use Rattle.tm_bits.proofs.Each.{Each, Each-append, Each-weaken, filter-all, filter-none}
use Rattle.std.proofs.Common.{◌≡◌, ℕ, suc, zero, pred, ◌<◌, Bool, true, false, Option, Some, None, List, [], ◌∷◌, ◌++◌, length, refl, ap, ◌∙◌, leb, eqb, take, ◌≤◌, ◌+◌, arith, length-append}
use Rattle.std.specs.List.{flat_map}
use Rattle.std.proofs.lemmas.Bool.{cond_both, leb-false, eq-eqb, ne_eqb, leb-true}
use Rattle.tm_items.specs.declared.items.Reason.{Reason}
use Rattle.tm_reassembly.specs.State.{Tail}
use Rattle.tm_items.specs.Item.{Item, seen_of}
use Rattle.tm_reassembly.specs.Chain.{ChainMember}
use Rattle.tm_reassembly.specs.Parts.{Part, Fate, Given, Lost, Held, agrees, begins_packet, lead, lead_part, lead_octets, is_long}
use Rattle.tm_items.specs.OnePacket.{packet_length}
use Rattle.tm_reassembly.specs.code.Field.{end_place_of, field_parts, unfinished, parts_in, left_in, tail_at, frame_parts, frame_tail, step_parts, step_tail, ended_parts, chain_parts_at, chain_tail_at}
use Rattle.tm_reassembly.specs.Items.{seen_at, held_part}
use Rattle.tm_reassembly.proofs.Long.{begins-longer, begins-short, agrees-short, within-limit}
use Rattle.tm_reassembly.proofs.Fresh.{OpenTail, unfinished-open}
use Rattle.tm_reassembly.proofs.Chained.{IsTail, IsOpenTail}

-- each item is seen where P holds
abbrev pub AllSeen : (ℕ → Type 0) → List Item → Type 0
AllSeen P xs = Each (λ x. P (seen_of x)) xs

pub seen_at-all : (n : ℕ) (xs : List Item) → AllSeen (λ s. s ≡ n) xs → seen_at n xs ≡ xs
seen_at-all n xs h =
    filter-all (λ x. eqb (seen_of x) n) xs (Each-weaken (λ x. seen_of x ≡ n) (λ x. eqb (seen_of x) n ≡ true) xs (λ x e. eq-eqb (seen_of x) n e) h)

pub seen_at-none : (n : ℕ) (xs : List Item) → AllSeen (λ s. s ≡ n → ⊥) xs → seen_at n xs ≡ []
seen_at-none n xs h =
    filter-none (λ x. eqb (seen_of x) n) xs (Each-weaken (λ x. seen_of x ≡ n → ⊥) (λ x. eqb (seen_of x) n ≡ false) xs (λ x ne. ne_eqb (seen_of x) n ne) h)

module _ (limit : ℕ) where
  -- a part is given at this record and has no more octets than the limit, or is lost there; and none is held
  abbrev pub IsAt : ℕ → Part → Fate → Type 0
  IsAt n p (Given seen) = (seen ≡ n) × (length p.octets ≤ limit)
  IsAt n p (Lost reason seen) = seen ≡ n
  IsAt n p Held = ⊥

  abbrev pub AllAt : ℕ → List Part → Type 0
  AllAt n ps = Each (λ p. IsAt n p p.fate) ps

  pub held-none : (n : ℕ) (ps : List Part) → AllAt n ps → flat_map (λ p. held_part p p.fate) ps ≡ []
  held-none n [] h = refl
  held-none n (p ∷ ps) h = ap (λ (ts : List Tail). ts ++ flat_map (λ q. held_part q q.fate) ps) (one p.fate h.0) ∙ held-none n ps h.1
    where
      one : (f : Fate) → IsAt n p f → held_part p f ≡ []
      one Held e = absurd e
      one f e = refl

  lead_part-at : (m : ChainMember) (reason : Reason) (o : List ℕ) → AllAt m.number (lead_part m reason o)
  lead_part-at m reason [] = tt
  lead_part-at m reason (x ∷ xs) = (refl, tt)

  ended_parts-at : (tail : Option Tail) (reason : Reason) (number : ℕ) → AllAt number (ended_parts tail reason number)
  ended_parts-at None reason number = tt
  ended_parts-at (Some t) reason number = (refl, tt)

  -- a packet that isn't long where it ends has no more octets than the limit
  whole-most : (o : List ℕ) (stop : ℕ) → is_long limit (packet_length o) stop ≡ false → packet_length o ≤ length o → length o ≤ stop → length (take (packet_length o) o) ≤ limit
  whole-most o stop short fits inside =
      let most = within-limit limit (packet_length o) stop (omega (arith, packet_length_least o)) short in
      omega (arith, packet_length_least o, length-take-le (packet_length o) o fits)

  field_parts-at : (number stop skip : ℕ) (o : List ℕ) → AllAt number (field_parts limit number stop skip o)
  field_parts-at number stop skip [] = tt
  field_parts-at number stop (suc skip) (x ∷ xs) = field_parts-at number stop skip xs
  field_parts-at number stop zero (x ∷ xs) =
      cond_both (begins_packet limit (x ∷ xs)) _ _ (AllAt number)
      (λ p. cond_both (leb (packet_length (x ∷ xs)) (length (x ∷ xs))) _ _ (AllAt number)
      (λ q. (
        (refl, whole-most (x ∷ xs) (length (x ∷ xs)) (begins-short limit (x ∷ xs) p) (leb-true (packet_length (x ∷ xs)) (length (x ∷ xs)) q) (omega arith)),
        field_parts-at number stop (pred (packet_length (x ∷ xs))) xs,
      )) (λ q. tt))
      (λ p. (refl, tt))

  frame_parts-at : (m : ChainMember) → AllAt m.number (frame_parts limit m)
  frame_parts-at m = elim m.place as (λ v. AllAt m.number (parts_in limit m.number (end_place_of m) v m.field)) [ None ↦ tt | Some place ↦ field_parts-at m.number (end_place_of m) place m.field ]

  step_parts-at : (tail : Option Tail) (m : ChainMember) → AllAt m.number (step_parts limit tail m)
  step_parts-at None m = Each-append (λ p. IsAt m.number p p.fate) (lead limit [] m) (frame_parts limit m) (lead_part-at m _ (lead_octets m.place m.field)) (frame_parts-at m)
  step_parts-at (Some t) m =
      let reach : ℕ = packet_length (t.octets ++ m.field) in
      cond_both (agrees limit reach (length t.octets) m) _ _ (AllAt m.number)
      (λ p. cond_both (leb reach (length (t.octets ++ m.field))) _ _ (AllAt m.number)
      (λ q. (
        (
          refl,
          whole-most (t.octets ++ m.field) (length t.octets + length m.field) (agrees-short limit reach (length t.octets) m p)
              (leb-true reach (length (t.octets ++ m.field)) q) (omega (arith, length-append t.octets m.field)),
        ),
        frame_parts-at m,
      )) (λ q. tt))
      (λ p. (refl, Each-append (λ p. IsAt m.number p p.fate) _ (frame_parts limit m) (lead_part-at m _ (lead_octets m.place m.field)) (frame_parts-at m)))

  pub chain_parts_at-at : (gap vca : Bool) (tail : Option Tail) (m : ChainMember) → AllAt m.number (chain_parts_at limit gap vca tail m)
  chain_parts_at-at true true tail m = ended_parts-at tail _ m.number
  chain_parts_at-at true false tail m = Each-append (λ p. IsAt m.number p p.fate) _ _ (ended_parts-at tail _ m.number) (step_parts-at None m)
  chain_parts_at-at false true tail m = ended_parts-at tail _ m.number
  chain_parts_at-at false false tail m = step_parts-at tail m

  -- the tail that a step leaves is open
  tail_at-open : (number stop : ℕ) (u : List ℕ) → OpenTail limit u → IsOpenTail limit (tail_at number stop u)
  tail_at-open number stop [] h = tt
  tail_at-open number stop (x ∷ xs) h = h

  frame_tail-open : (m : ChainMember) → IsOpenTail limit (frame_tail limit m)
  frame_tail-open m =
      elim m.place as (λ v. IsOpenTail limit (tail_at m.number (end_place_of m) (left_in limit v m.field)))
      [ None ↦ tt | Some place ↦ tail_at-open m.number (end_place_of m) (unfinished limit place m.field) (unfinished-open limit place m.field) ]

  step_tail-open : (tail : Option Tail) (m : ChainMember) → IsOpenTail limit tail → IsOpenTail limit (step_tail limit tail m)
  step_tail-open None m h = frame_tail-open m
  step_tail-open (Some t) m h =
      cond_both (agrees limit (packet_length (t.octets ++ m.field)) (length t.octets) m) _ _ (IsOpenTail limit)
      (λ p.
      cond_both (leb (packet_length (t.octets ++ m.field)) (length (t.octets ++ m.field))) _ _ (IsOpenTail limit)
      (λ q. frame_tail-open m)
      (λ q. longer t.octets h p (leb-false (packet_length (t.octets ++ m.field)) (length (t.octets ++ m.field)) q)))
      (λ p. frame_tail-open m)
    where
      longer : (o : List ℕ) → IsTail limit o → agrees limit (packet_length (o ++ m.field)) (length o) m ≡ true → length (o ++ m.field) < packet_length (o ++ m.field) → IsTail limit (o ++ m.field)
      longer [] h a k = absurd h
      longer (x ∷ xs) h a k = (begins-longer limit x xs m h.0 a, k)

  pub chain_tail_at-open : (gap vca : Bool) (tail : Option Tail) (m : ChainMember) → IsOpenTail limit tail → IsOpenTail limit (chain_tail_at limit gap vca tail m)
  chain_tail_at-open gap true tail m h = tt
  chain_tail_at-open true false tail m h = frame_tail-open m
  chain_tail_at-open false false tail m h = step_tail-open tail m h
