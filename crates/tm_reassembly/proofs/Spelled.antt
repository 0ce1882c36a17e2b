-- What is read is the spelling of what it is read as.
use Rattle.std.proofs.Common.{◌≡◌, ℕ, zero, suc, ◌+◌, ◌-◌, ◌*◌, ◌/◌, ◌%◌, ◌<◌, ◌≤◌, Bool, true, false, not, ◌||◌, Ok, Err, Result, Option, Some, None, List, [], ◌∷◌, ◌++◌, length, take, drop, refl, sym, ap, subst, ◌∙◌, arith, length-drop, ltb, leb, eqb}
use Rattle.std.specs.Prelude.{IfOk, slice_index, slice_range}
use Rattle.std.specs.List.{flat_map, slice_get}
use Rattle.std.proofs.lemmas.Bool.{and_parts, cond_both, ltb-true, ltb-false, eqb-true, eqb-false, not-false, or_parts}
use Rattle.std.proofs.lemmas.List.{length-take-le}
use Rattle.std.proofs.Math.Seq.{take-add}
use Rattle.tm_bits.specs.Bits.{AreOctets, two_octets, two_at}
use Rattle.tm_bits.proofs.PartLemmas.{octets_behind}
use Rattle.tm_frame.specs.declared.layout.LayoutParts.{LayoutParts}
use Rattle.tm_reassembly.specs.declared.fault.StateFault.{StateFault}
use Rattle.tm_frame.specs.Rules.{Rules, chooses}
use Rattle.tm_items.specs.OnePacket.{packet_length}
use Rattle.tm_reassembly.specs.Parts.{begins_packet}
use Rattle.tm_reassembly.specs.State.{Last, Tail}
use Rattle.tm_reassembly.proofs.Chained.{IsTail}
use Rattle.tm_reassembly.proofs.Fits.{octets_take}
use Rattle.tm_reassembly.proofs.States.{Keeps}
use Rattle.tm_reassembly.specs.Checkpoint.{four_octets, block, master_octets, state_spelling, old_spelling, four_at, ReadBlock, ReadBlocks, DecodedState, is_unfinished, tail_block, block_read, blocks_read, in_front, and_then_blocks, ReadMaster, master_read, with_channels, with_master, state_decoding_of, old_decoding_of}

-- ---- numbers

two_again : (a b : ℕ) → a < 256 → b < 256 → two_octets (256 * a + b) ≡ a ∷ b ∷ []
two_again a b p q =
    let x : (256 * a + b) / 256 ≡ a = omega arith in
    let y : (256 * a + b) % 256 ≡ b = omega arith in
    rw (x, y) refl

four_again : (a b c d : ℕ) → a < 256 → b < 256 → c < 256 → d < 256 → four_octets (65536 * (256 * a + b) + (256 * c + d)) ≡ a ∷ b ∷ c ∷ d ∷ []
four_again a b c d p q r s =
    let x : (65536 * (256 * a + b) + (256 * c + d)) / 65536 ≡ 256 * a + b = omega arith in
    let y : (65536 * (256 * a + b) + (256 * c + d)) % 65536 ≡ 256 * c + d = omega arith in
    ap (λ (n : ℕ). two_octets n ++ two_octets ((65536 * (256 * a + b) + (256 * c + d)) % 65536)) x
    ∙ ap (λ (n : ℕ). two_octets (256 * a + b) ++ two_octets n) y
    ∙ ap (λ (l : List ℕ). l ++ two_octets (256 * c + d)) (two_again a b p q)
    ∙ ap (λ (l : List ℕ). (a ∷ b ∷ []) ++ l) (two_again c d r s)

-- ---- a block

-- the first n octets are there, and they are these
pub record Begins (xs : List ℕ) (n : ℕ) (these : List ℕ) : Type 0 where
  pub inside : n ≤ length xs
  pub same : take n xs ≡ these

both : (xs : List ℕ) (n m : ℕ) (a b : List ℕ) → Begins xs n a → Begins (drop n xs) m b → Begins xs (n + m) (a ++ b)
both xs n m a b h k =
    let first = h.inside in
    let later = k.inside in
    let len = length-drop n xs in
    record { inside = omega arith; same = take-add n m xs ∙ ap (λ (l : List ℕ). l ++ take m (drop n xs)) h.same ∙ ap (λ (l : List ℕ). a ++ l) k.same }

four_spelled : (xs : List ℕ) → AreOctets xs → 4 ≤ length xs → Begins xs 4 (four_octets (four_at xs 0))
four_spelled (a ∷ b ∷ c ∷ d ∷ more) h long = record { inside = long; same = sym (four_again a b c d (h.below 0) (h.below 1) (h.below 2) (h.below 3)) }
four_spelled xs h long = absurd (omega arith)

-- what is kept of a channel: nothing, or what a chosen channel may keep
abbrev pub Kept : ℕ → LayoutParts → ℕ → Bool → Option Last → Type 0
Kept limit layout records chosen None = Unit {0}
Kept limit layout records chosen (Some last) = (chosen ≡ true) × Keeps limit layout records last

open-of : (limit : ℕ) (o : List ℕ) → 0 < length o → is_unfinished limit o ≡ true → IsTail limit o
open-of limit [] some h = absurd (omega arith)
open-of limit (x ∷ xs) some h =
    let both = and_parts (begins_packet limit (x ∷ xs)) (ltb (suc (length xs)) (packet_length (x ∷ xs))) h in
    (both.0, ltb-true (suc (length xs)) (packet_length (x ∷ xs)) both.1)

abbrev tail_of : List ℕ → ℕ → Tail
tail_of xs size = record { first = four_at xs 2; place = two_at xs 6; octets = slice_range xs 12 (12 + size) }

-- the fixed parts of a tail, and its octets
tail_spelled : (xs : List ℕ) (size : ℕ) → AreOctets xs → slice_index xs 0 ≡ 2 → size ≡ four_at xs 8 → 12 + size ≤ length xs
    → take (12 + size) xs ≡ block (Some (record { count = slice_index xs 1; tail = Some (tail_of xs size) }))
tail_spelled (x0 ∷ x1 ∷ x2 ∷ x3 ∷ x4 ∷ x5 ∷ x6 ∷ x7 ∷ x8 ∷ x9 ∷ x10 ∷ x11 ∷ more) size h flag s long =
    let n : 12 + size ≡ suc (suc (suc (suc (suc (suc (suc (suc (suc (suc (suc (suc size))))))))))) = omega arith in
    let m : 12 + size - 12 ≡ size = omega arith in
    let xs : List ℕ = x0 ∷ x1 ∷ x2 ∷ x3 ∷ x4 ∷ x5 ∷ x6 ∷ x7 ∷ x8 ∷ x9 ∷ x10 ∷ x11 ∷ more in
    let octets : List ℕ = take size more in
    let all : slice_range xs 12 (12 + size) ≡ octets = ap (λ (k : ℕ). take k more) m in
    let len : length octets ≡ size = length-take-le size more (omega arith) in
    let first : four_octets (four_at xs 2) ≡ x2 ∷ x3 ∷ x4 ∷ x5 ∷ [] = four_again x2 x3 x4 x5 (h.below 2) (h.below 3) (h.below 4) (h.below 5) in
    let place : two_octets (two_at xs 6) ≡ x6 ∷ x7 ∷ [] = two_again x6 x7 (h.below 6) (h.below 7) in
    let number : four_octets (length octets) ≡ x8 ∷ x9 ∷ x10 ∷ x11 ∷ [] = ap (λ (k : ℕ). four_octets k) (len ∙ s) ∙ four_again x8 x9 x10 x11 (h.below 8) (h.below 9) (h.below 10) (h.below 11) in
    ap (λ (k : ℕ). take k xs) n
    ∙ ap (λ (f : ℕ). f ∷ x1 ∷ x2 ∷ x3 ∷ x4 ∷ x5 ∷ x6 ∷ x7 ∷ x8 ∷ x9 ∷ x10 ∷ x11 ∷ octets) flag
    ∙ sym
    (ap (λ (o : List ℕ). 2 ∷ x1 ∷ (four_octets (four_at xs 2) ++ two_octets (two_at xs 6) ++ four_octets (length o) ++ o)) all
    ∙ ap (λ (l : List ℕ). 2 ∷ x1 ∷ (l ++ two_octets (two_at xs 6) ++ four_octets (length octets) ++ octets)) first
    ∙ ap (λ (l : List ℕ). 2 ∷ x1 ∷ ((x2 ∷ x3 ∷ x4 ∷ x5 ∷ []) ++ l ++ four_octets (length octets) ++ octets)) place
    ∙ ap (λ (l : List ℕ). 2 ∷ x1 ∷ ((x2 ∷ x3 ∷ x4 ∷ x5 ∷ []) ++ (x6 ∷ x7 ∷ []) ++ l ++ octets)) number)
tail_spelled xs size h flag s long = absurd (omega arith)

-- the flag 1, and a count
count_spelled : (xs : List ℕ) → slice_index xs 0 ≡ 1 → 2 ≤ length xs → take 2 xs ≡ block (Some (record { count = slice_index xs 1; tail = None }))
count_spelled (x ∷ y ∷ more) e long = ap (λ (f : ℕ). f ∷ y ∷ []) e
count_spelled xs e long = absurd (omega arith)

-- the flag 0
none_spelled : (xs : List ℕ) → slice_index xs 0 ≡ 0 → 1 ≤ length xs → take 1 xs ≡ block None
none_spelled (x ∷ more) e long = ap (λ (f : ℕ). f ∷ []) e
none_spelled [] e long = absurd (omega arith)

module _ (limit : ℕ) (layout : LayoutParts) (records : ℕ) (chosen : Bool) (xs : List ℕ) where
  -- the octets at the front are the block of what was read, which may be kept
  abbrev IsSpelled : Result ReadBlock StateFault → Type 0
  IsSpelled r = IfOk r (λ one. Begins xs one.octets (block one.last) × Kept limit layout records chosen one.last)

  tail_sound : AreOctets xs → chosen ≡ true → 12 ≤ length xs → slice_index xs 0 ≡ 2 → IsSpelled (tail_block limit layout records xs)
  tail_sound h is_chosen enough flag =
      let size : ℕ = four_at xs 8 in
      cond_both (not (ltb (four_at xs 2) records) || ltb layout.frame_length (two_at xs 6 + 7)) _ _ IsSpelled (λ u. tt)
      (λ u.
      cond_both (eqb size 0 || leb limit size) _ _ IsSpelled (λ v. tt)
      (λ v.
      cond_both (ltb (length xs) (12 + size)) _ _ IsSpelled (λ w. tt)
      (λ w.
      cond_both (not (is_unfinished limit (slice_range xs 12 (12 + size)))) _ _ IsSpelled (λ x. tt)
      (λ x.
      let bounds = or_parts (not (ltb (four_at xs 2) records)) (ltb layout.frame_length (two_at xs 6 + 7)) u in
      let some : size ≡ 0 → ⊥ = eqb-false size 0 (or_parts (eqb size 0) (leb limit size) v).0 in
      let long : 12 + size ≤ length xs = ltb-false (length xs) (12 + size) w in
      let first_in : four_at xs 2 < records = ltb-true (four_at xs 2) records (not-false (ltb (four_at xs 2) records) bounds.0) in
      let place_in : two_at xs 6 + 7 ≤ layout.frame_length = ltb-false layout.frame_length (two_at xs 6 + 7) bounds.1 in
      let l : length (slice_range xs 12 (12 + size)) ≡ (12 + size) - 12 = length-take-le ((12 + size) - 12) (drop 12 xs) (omega (arith, length-drop 12 xs)) in (
        record { inside = long; same = tail_spelled xs size h flag refl long },
        (
          is_chosen,
          record {
            count = h.below 1;
            open_tail = open-of limit (slice_range xs 12 (12 + size)) (omega arith) (not-false (is_unfinished limit (slice_range xs 12 (12 + size))) x);
            within = record { first = first_in; place = place_in; octets = octets_take ((12 + size) - 12) (drop 12 xs) (octets_behind 12 xs h) };
          },
        ),
      )))))

  block_spelled : AreOctets xs → IsSpelled (block_read limit layout chosen records xs)
  unfolding block_read
  block_spelled h =
      let flag : ℕ = slice_index xs 0 in
      cond_both (eqb (length xs) 0) _ _ IsSpelled (λ p. tt)
      (λ p.
      let some : 1 ≤ length xs = let z = eqb-false (length xs) 0 p in omega arith in
      cond_both (eqb flag 0) _ _ IsSpelled (λ q. (record { inside = some; same = none_spelled xs (eqb-true flag 0 q) some }, tt))
      (λ q.
      cond_both (not chosen || ltb 2 flag) _ _ IsSpelled (λ r. tt)
      (λ r.
      let is_chosen : chosen ≡ true = not-false chosen (or_parts (not chosen) (ltb 2 flag) r).0 in
      cond_both (eqb flag 1) _ _ IsSpelled
      (λ s.
      cond_both (ltb (length xs) 2) _ _ IsSpelled (λ t. tt)
      (λ t.
      let two : 2 ≤ length xs = ltb-false (length xs) 2 t in
      (record { inside = two; same = count_spelled xs (eqb-true flag 1 s) two }, (is_chosen, record { count = h.below 1; open_tail = tt; within = tt }))))
      (λ s.
      cond_both (ltb (length xs) 12) _ _ IsSpelled (λ t. tt)
      (λ t. tail_sound h is_chosen (ltb-false (length xs) 12 t) (is_two flag q (or_parts (not chosen) (ltb 2 flag) r).1 s))))))
    where
      is_two : (n : ℕ) → eqb n 0 ≡ false → ltb 2 n ≡ false → eqb n 1 ≡ false → n ≡ 2
      is_two n p q r = let a = eqb-false n 0 p in let b = ltb-false 2 n q in let c = eqb-false n 1 r in omega arith

-- ---- the blocks

-- so many channels from c on, and each keeps what it may
pub record SoundAll (rules : Rules) (records : ℕ) (n c : ℕ) (channels : List (Option Last)) : Type 0 where
  pub many : length channels ≡ n
  pub each : (i : ℕ) (x : Option Last) → slice_get channels i ≡ Some x → Kept rules.max_packet rules.layout records (chooses rules (c + i)) x

-- the octets at the front are the blocks of what was read, which may be kept
abbrev AllSpelled : Rules → ℕ → ℕ → ℕ → List ℕ → Result ReadBlocks StateFault → Type 0
AllSpelled rules records n c xs r = IfOk r (λ all. Begins xs all.octets (flat_map block all.channels) × SoundAll rules records n c all.channels)

module _ (rules : Rules) (records n c : ℕ) (xs : List ℕ) where
  then_spelled : (x : Result ReadBlock StateFault) (others : ℕ → Result ReadBlocks StateFault) → IsSpelled rules.max_packet rules.layout records (chooses rules c) xs x
      → ((used : ℕ) → AllSpelled rules records n (c + 1) (drop used xs) (others used)) → AllSpelled rules records (suc n) c xs (and_then_blocks x others)
  then_spelled (Err found) others h g = tt
  then_spelled (Ok one) others h g = by_rest (others one.octets) (g one.octets)
    where
      by_rest : (x : Result ReadBlocks StateFault) → AllSpelled rules records n (c + 1) (drop one.octets xs) x → AllSpelled rules records (suc n) c xs (in_front one x)
      by_rest (Err found) k = tt
      by_rest (Ok rest) k =
          (both xs one.octets rest.octets (block one.last) (flat_map block rest.channels) h.0 k.0, record { many = ap suc k.1.many; each = λ i x e. at i x e })
        where
          at : (i : ℕ) (x : Option Last) → slice_get (one.last ∷ rest.channels) i ≡ Some x → Kept rules.max_packet rules.layout records (chooses rules (c + i)) x
          at zero x e =
              let same : one.last ≡ x = cc in
              let z : c + 0 ≡ c = omega arith in
              rw z (subst (Kept rules.max_packet rules.layout records (chooses rules c)) same h.1)
          at (suc i) x e =
              let z : (c + 1) + i ≡ c + suc i = omega arith in
              subst (λ (k : ℕ). Kept rules.max_packet rules.layout records (chooses rules k) x) z (k.1.each i x e)

blocks_spelled : (rules : Rules) (records n c : ℕ) (xs : List ℕ) → AreOctets xs → AllSpelled rules records n c xs (blocks_read rules records n c xs)
unfolding blocks_read
blocks_spelled rules records zero c xs h = (record { inside = omega arith; same = refl }, record { many = refl; each = λ i x e. absurd (cc) })
blocks_spelled rules records (suc n) c xs h =
    then_spelled rules records n c xs (block_read rules.max_packet rules.layout (chooses rules c) records xs) (λ used. blocks_read rules records n (c + 1) (drop used xs))
    (block_spelled rules.max_packet rules.layout records (chooses rules c) xs h)
    (λ used. blocks_spelled rules records n (c + 1) (drop used xs) (octets_behind used xs h))

pub blocks_sound : (rules : Rules) (records n c : ℕ) (xs : List ℕ) (all : ReadBlocks) → AreOctets xs → blocks_read rules records n c xs ≡ Ok all
    → SoundAll rules records n c all.channels
blocks_sound rules records n c xs all h e = (subst (AllSpelled rules records n c xs) e (blocks_spelled rules records n c xs h)).1

-- ---- the state

-- the last master channel count
abbrev MasterSpelled : List ℕ → Result ReadMaster StateFault → Type 0
MasterSpelled xs r = IfOk r (λ read. Begins xs read.octets (master_octets read.count))

master_spelled : (xs : List ℕ) → MasterSpelled xs (master_read xs)
unfolding master_read
master_spelled [] = tt
master_spelled (flag ∷ xs) =
    cond_both (eqb flag 0) _ _ (MasterSpelled (flag ∷ xs))
    (λ p. record { inside = omega arith; same = ap (λ (n : ℕ). n ∷ []) (eqb-true flag 0 p) })
    (λ p.
    cond_both (ltb 1 flag) _ _ (MasterSpelled (flag ∷ xs)) (λ q. tt)
    (λ q.
    cond_both (eqb (length xs) 0) _ _ (MasterSpelled (flag ∷ xs)) (λ r. tt)
    (λ r.
    let some : 0 < length xs = omega (arith, eqb-false (length xs) 0 r) in
    record { inside = omega (arith, some); same = counted xs (omega (arith, eqb-false flag 0 p, ltb-false 1 flag q)) some })))
  where
    counted : (ys : List ℕ) → flag ≡ 1 → 0 < length ys → take 2 (flag ∷ ys) ≡ 1 ∷ slice_index ys 0 ∷ []
    counted [] e h = absurd (omega arith)
    counted (y ∷ ys) e h = ap (λ (n : ℕ). n ∷ y ∷ []) e

-- the octets at the front are the spelling of what was read
abbrev StateSpelled : List ℕ → Result DecodedState StateFault → Type 0
StateSpelled xs r = IfOk r (λ d. Begins xs d.octets (state_spelling d.state))

channels_spelled : (rules : Rules) (xs : List ℕ) (read : ReadMaster) (x : Result ReadBlocks StateFault) → AreOctets xs → 4 ≤ length xs → Begins (drop 4 xs) read.octets (master_octets read.count)
    → AllSpelled rules (four_at xs 0) 8 0 (drop read.octets (drop 4 xs)) x → StateSpelled xs (with_channels (four_at xs 0) read.count (4 + read.octets) x)
channels_spelled rules xs read (Ok all) h long m g =
    let n : 4 + (read.octets + all.octets) ≡ (4 + read.octets) + all.octets = omega arith in
    subst (λ (k : ℕ). Begins xs k (four_octets (four_at xs 0) ++ (master_octets read.count ++ flat_map block all.channels))) n
    (both xs 4 (read.octets + all.octets) _ _ (four_spelled xs h long) (both (drop 4 xs) read.octets all.octets _ _ m g.0))
channels_spelled rules xs read (Err found) h long m g = tt

master_then : (rules : Rules) (xs : List ℕ) (x : Result ReadMaster StateFault) → AreOctets xs → 4 ≤ length xs → MasterSpelled (drop 4 xs) x
    → StateSpelled xs (with_master rules (four_at xs 0) (drop 4 xs) x)
master_then rules xs (Ok read) h long m =
    channels_spelled rules xs read (blocks_read rules (four_at xs 0) 8 0 (drop read.octets (drop 4 xs))) h long m
    (blocks_spelled rules (four_at xs 0) 8 0 (drop read.octets (drop 4 xs)) (octets_behind read.octets (drop 4 xs) (octets_behind 4 xs h)))
master_then rules xs (Err found) h long m = tt

decoding_spelled : (rules : Rules) (xs : List ℕ) → AreOctets xs → StateSpelled xs (state_decoding_of rules xs)
unfolding state_decoding_of
decoding_spelled rules xs h =
    cond_both (ltb (length xs) 4) _ _ (StateSpelled xs) (λ p. tt)
    (λ p. master_then rules xs (master_read (drop 4 xs)) h (ltb-false (length xs) 4 p) (master_spelled (drop 4 xs)))

pub spelled-again : (rules : Rules) (octets : List ℕ) (d : DecodedState) → AreOctets octets → state_decoding_of rules octets ≡ Ok d
    → (d.octets ≤ length octets) × (take d.octets octets ≡ state_spelling d.state)
spelled-again rules octets d h e =
    let b : Begins octets d.octets (state_spelling d.state) = subst (StateSpelled octets) e (decoding_spelled rules octets h) in (b.inside, b.same)

-- ---- the same in the form of versions 1 and 2

abbrev OldSpelled : List ℕ → Result DecodedState StateFault → Type 0
OldSpelled xs r = IfOk r (λ d. Begins xs d.octets (old_spelling d.state) × (d.state.master ≡ None))

old_channels_spelled : (rules : Rules) (xs : List ℕ) (x : Result ReadBlocks StateFault) → AreOctets xs → 4 ≤ length xs → AllSpelled rules (four_at xs 0) 8 0 (drop 4 xs) x
    → OldSpelled xs (with_channels (four_at xs 0) None 4 x)
old_channels_spelled rules xs (Ok all) h long g = (both xs 4 all.octets _ _ (four_spelled xs h long) g.0, refl)
old_channels_spelled rules xs (Err found) h long g = tt

old_decoding_spelled : (rules : Rules) (xs : List ℕ) → AreOctets xs → OldSpelled xs (old_decoding_of rules xs)
unfolding old_decoding_of
old_decoding_spelled rules xs h =
    cond_both (ltb (length xs) 4) _ _ (OldSpelled xs) (λ p. tt)
    (λ p.
    old_channels_spelled rules xs (blocks_read rules (four_at xs 0) 8 0 (drop 4 xs)) h (ltb-false (length xs) 4 p)
    (blocks_spelled rules (four_at xs 0) 8 0 (drop 4 xs) (octets_behind 4 xs h)))

pub old-spelled-again : (rules : Rules) (octets : List ℕ) (d : DecodedState) → AreOctets octets → old_decoding_of rules octets ≡ Ok d
    → (d.octets ≤ length octets) × (take d.octets octets ≡ old_spelling d.state) × (d.state.master ≡ None)
old-spelled-again rules octets d h e =
    let b : Begins octets d.octets (old_spelling d.state) × (d.state.master ≡ None) = subst (OldSpelled octets) e (old_decoding_spelled rules octets h) in
    (b.0.inside, b.0.same, b.1)
