-- Folding in pairs of words, each as 16 octets.
use Rattle.std.proofs.Common.{◌≡◌, ℕ, zero, suc, ◌+◌, ◌-◌, ◌*◌, ◌%◌, ◌<◌, ◌≤◌, Bool, false, List, [], ◌∷◌, ◌++◌, length, take, drop, refl, sym, ap, ap₂, ◌∙◌, arith, length-append, append_assoc, length-drop, take_at}
use Rattle.std.specs.Prelude.{bit_xor, replicate}
use Rattle.std.specs.Int.Bits.{xor_assoc, xor_zero_r}
use Rattle.std.specs.List.{range_with_len}
use Rattle.std.proofs.lemmas.Nat.{xor_comm}
use Rattle.std.proofs.lemmas.List.{length-take-le, take-append-drop, drop-append-le, drop_at, take_all, take-replicate, drop-replicate, length-replicate, replicate-append-replicate}
use Rattle.std.proofs.lemmas.Simd.{length-zip2, length-chunk, put_chunk_is, take_more_put_chunk, pick_l-range_with_len}
use Rattle.std.proofs.Math.Seq.{take-add, drop-drop}
use lib.Lanes.{zip2, put_chunk, pick_l}
use Rattle.tm_bits.specs.Bits.{low_bits, bits_of, number}
use Rattle.tm_bits.proofs.BitLemmas.{length-low_bits, length-bits_of, bits_of-append}
use Rattle.tm_frame.specs.ErrorControl.{differ, subtract, long_division}
use Rattle.tm_frame.specs.code.Folding.{Folds, remainder_from, octets_remainder, rest_of_pair, shifted}
use Rattle.tm_frame.proofs.Division.{low_bits-zero, low_bits-xor, remainder_from-append, remainder_from-nil, remainder_from-lt, octets_apart, error_control_of-remainder}
use Rattle.tm_frame.proofs.Linear.{xor_exchange, remainder_from-xor, remainder_from-zeros, passed_linear}
use Rattle.tm_frame.proofs.Fold.{passed, shifted-passed, remainder-apart, zeros-passed, bits-fold}

-- ---- octets are added

subtract-append : (xs ys ds es : List Bool) → length xs ≡ length ds → subtract (xs ++ ys) (ds ++ es) ≡ subtract xs ds ++ subtract ys es
unfolding subtract
subtract-append [] ys [] es same = refl
subtract-append [] ys (d ∷ ds) es same = absurd (omega arith)
subtract-append (x ∷ xs) ys [] es same = absurd (omega arith)
subtract-append (x ∷ xs) ys (d ∷ ds) es same = ap (λ l. differ x d ∷ l) (subtract-append xs ys ds es (omega arith))

bits_of-xor : (xs ys : List ℕ) → length xs ≡ length ys → bits_of (zip2 bit_xor xs ys) ≡ subtract (bits_of xs) (bits_of ys)
unfolding bits_of subtract
bits_of-xor [] [] same = refl
bits_of-xor [] (y ∷ ys) same = absurd (omega arith)
bits_of-xor (x ∷ xs) [] same = absurd (omega arith)
bits_of-xor (x ∷ xs) (y ∷ ys) same =
    ap₂ (λ p q. p ++ q) (low_bits-xor 8 x y) (bits_of-xor xs ys (omega arith))
    ∙ sym (subtract-append (low_bits 8 x) (bits_of xs) (low_bits 8 y) (bits_of ys) (length-low_bits 8 x ∙ sym (length-low_bits 8 y)))

shifted-sum : (n : ℕ) (xs ys : List Bool) → length xs ≡ length ys → shifted n (subtract xs ys) ≡ bit_xor (shifted n xs) (shifted n ys)
shifted-sum n xs ys same =
    shifted-passed n (subtract xs ys)
    ∙ ap (passed n) (remainder_from-xor 0 0 xs ys same)
    ∙ (passed_linear n).joins (remainder_from 0 xs) (remainder_from 0 ys)
    ∙ sym (ap₂ bit_xor (shifted-passed n xs) (shifted-passed n ys))

shifted-octets : (n : ℕ) (xs ys : List ℕ) → length xs ≡ length ys
    → shifted n (bits_of (zip2 bit_xor xs ys)) ≡ bit_xor (shifted n (bits_of xs)) (shifted n (bits_of ys))
shifted-octets n xs ys same =
    ap (shifted n) (bits_of-xor xs ys same)
    ∙ shifted-sum n (bits_of xs) (bits_of ys) (length-bits_of xs ∙ ap (λ k. 8 * k) same ∙ sym (length-bits_of ys))

-- the octets in front apart from those after
front-apart : (front back : List ℕ) (n : ℕ) → length back ≡ n
    → octets_remainder (front ++ back) ≡ bit_xor (shifted (8 * n) (bits_of front)) (octets_remainder back)
front-apart front back n width =
    ap (remainder_from 0) (bits_of-append front back)
    ∙ remainder-apart (bits_of front) (bits_of back)
    ∙ ap (λ k. bit_xor (shifted k (bits_of front)) (octets_remainder back)) (length-bits_of back ∙ ap (λ k. 8 * k) width)

moved_last : (a b c r : ℕ) → bit_xor a (bit_xor (bit_xor b c) r) ≡ bit_xor (bit_xor a (bit_xor b r)) c
moved_last a b c r =
    ap (bit_xor a) (xor_assoc b c r ∙ ap (bit_xor b) (xor_comm c r) ∙ sym (xor_assoc b r c)) ∙ sym (xor_assoc a (bit_xor b r) c)

pub pair_added : (octets pair : List ℕ) (at : ℕ) → at + 16 ≤ length octets → length pair ≡ 16
    → octets_remainder (put_chunk at octets (zip2 bit_xor (take 16 (drop at octets)) pair))
    ≡ bit_xor (octets_remainder octets) (shifted (8 * (length octets - (at + 16))) (bits_of pair))
pair_added octets pair at room sixteen =
    let front : List ℕ = take at octets in
    let rest : List ℕ = drop at octets in
    let there : List ℕ = take 16 rest in
    let back : List ℕ = drop 16 rest in
    let sum : List ℕ = zip2 bit_xor there pair in
    let left : length rest ≡ length octets - at = length-drop at octets in
    let few : length there ≡ 16 = length-chunk at 16 octets room in
    let same : length there ≡ length pair = few ∙ sym sixteen in
    let as_few : length sum ≡ 16 = length-zip2 bit_xor there pair same ∙ few in
    let n : ℕ = length octets - (at + 16) in
    let behind : length back ≡ n = length-drop 16 rest ∙ omega (arith, left) in
    let both : (xs : List ℕ) → length xs ≡ 16 → length (xs ++ back) ≡ 16 + n = λ xs is. length-append xs back ∙ omega (arith, is, behind) in
    let old : octets ≡ front ++ (there ++ back) = sym (take-append-drop at octets) ∙ ap (λ l. front ++ l) (sym (take-append-drop 16 rest)) in
    let new : put_chunk at octets sum ≡ front ++ (sum ++ back) =
    put_chunk_is at octets sum (omega (arith, as_few)) ∙ ap (λ k. front ++ (sum ++ drop k rest)) as_few in
    let a : ℕ = shifted (8 * (16 + n)) (bits_of front) in
    let b : ℕ = shifted (8 * n) (bits_of there) in
    let c : ℕ = shifted (8 * n) (bits_of pair) in
    let r : ℕ = octets_remainder back in
    let before : octets_remainder octets ≡ bit_xor a (bit_xor b r) =
    ap octets_remainder old ∙ front-apart front (there ++ back) (16 + n) (both there few) ∙ ap (bit_xor a) (front-apart there back n behind) in
    ap octets_remainder new
    ∙ front-apart front (sum ++ back) (16 + n) (both sum as_few)
    ∙ ap (bit_xor a) (front-apart sum back n behind ∙ ap (λ k. bit_xor k r) (shifted-octets (8 * n) there pair same))
    ∙ moved_last a b c r
    ∙ ap (λ k. bit_xor k c) (sym before)

-- ---- the two parts of a pair

shifted-append : (n : ℕ) (xs ys : List Bool) → shifted n (xs ++ ys) ≡ bit_xor (shifted (length ys + n) xs) (shifted n ys)
shifted-append n xs ys =
    ap (remainder_from 0) (append_assoc xs ys (replicate n false))
    ∙ remainder-apart xs (ys ++ replicate n false)
    ∙ ap (λ k. bit_xor (shifted k xs) (shifted n ys)) (length-append ys (replicate n false) ∙ ap (λ k. length ys + k) (length-replicate n false))

-- octets before k others. After the others there are n, and so after these there are m
octets_apart_at : (n m k : ℕ) (xs ys : List ℕ) → length ys ≡ k → m ≡ k + n
    → shifted (8 * n) (bits_of (xs ++ ys)) ≡ bit_xor (shifted (8 * m) (bits_of xs)) (shifted (8 * n) (bits_of ys))
octets_apart_at n m k xs ys many further =
    let behind : length (bits_of ys) + 8 * n ≡ 8 * m = omega (arith, length-bits_of ys, many, further) in
    ap (shifted (8 * n)) (bits_of-append xs ys)
    ∙ shifted-append (8 * n) (bits_of xs) (bits_of ys)
    ∙ ap (λ j. bit_xor (shifted j (bits_of xs)) (shifted (8 * n) (bits_of ys))) behind

pub across : (first : ℕ) (pair next : List ℕ) → first ≤ 16 → length pair ≡ 16 → length next ≡ 16
    → pick_l 0 (pair ++ next) (range_with_len first 16) ≡ drop first pair ++ take first next
across first pair next few both sixteen =
    let rest : List ℕ = drop first pair in
    let front : List ℕ = take first next in
    let seam : length (rest ++ front) ≡ 16 =
    length-append rest front ∙ omega (arith, few, length-drop first pair, length-take-le first next (omega (arith, few, sixteen)), both) in
    pick_l-range_with_len 0 (pair ++ next) first 16 (omega (arith, few, length-append pair next, both, sixteen))
    ∙ ap (take 16) (drop-append-le first pair next (omega (arith, few, both)) ∙ ap (λ l. rest ++ l) (sym (take-append-drop first next)) ∙ sym (append_assoc rest front (drop first next)))
    ∙ take_at (rest ++ front) (drop first next) 16 seam

zero_octets : (n : ℕ) → bits_of (replicate n 0) ≡ replicate (8 * n) false
unfolding bits_of
zero_octets zero = refl
zero_octets (suc n) =
    let more : 8 + 8 * n ≡ 8 * suc n = omega arith in
    rw (low_bits-zero 8, zero_octets n, replicate-append-replicate 8 (8 * n) false, more) refl

-- zeros add nothing
zeros_add : (r n k : ℕ) → bit_xor r (shifted n (bits_of (replicate k 0))) ≡ r
zeros_add r n k =
    ap (bit_xor r)
    (ap (shifted n) (zero_octets k) ∙ shifted-passed n (replicate (8 * k) false) ∙ ap (passed n) (remainder_from-zeros (8 * k)) ∙ remainder_from-zeros n)
    ∙ xor_zero_r r

-- ---- pairs are taken away

regrouped : (r a p f c s : ℕ)
    → bit_xor (bit_xor (bit_xor (bit_xor r a) (bit_xor p f)) c) s ≡ bit_xor (bit_xor (bit_xor a (bit_xor (bit_xor f s) c)) r) p
regrouped r a p f c s =
    let q : ℕ = bit_xor (bit_xor f s) c in
    xor_assoc (bit_xor (bit_xor r a) (bit_xor p f)) c s
    ∙ xor_assoc (bit_xor r a) (bit_xor p f) (bit_xor c s)
    ∙ ap₂ bit_xor (xor_comm r a) (xor_assoc p f (bit_xor c s) ∙ ap (bit_xor p) (ap (bit_xor f) (xor_comm c s) ∙ sym (xor_assoc f s c)) ∙ xor_comm p q)
    ∙ xor_exchange a r q p
    ∙ sym (xor_assoc (bit_xor a q) r p)

-- What stands after a pair, with the pair added at the three places, has the remainder of both. The rest of the pair before
-- is added there as well, and the pair's own one is left out.
pub pair_folds : (step : ℕ) (before pair octets joined : List ℕ) (first second third m n : ℕ) → Folds (8 * step) → 4 ≤ step → step ≤ 8
    → third ≡ bit_xor second (shifted (8 * (n - ((16 * step - 16) + 16))) (bits_of pair))
    → second ≡ bit_xor first (shifted (8 * (m - ((12 * step - 32) + 16))) (bits_of joined))
    → first ≡ bit_xor (octets_remainder octets) (shifted (8 * (length octets - ((4 * step - 16) + 16))) (bits_of pair))
    → joined ≡ drop step before ++ take step pair
    → n ≡ m → m ≡ length octets → 16 * step ≤ length octets → length pair ≡ 16
    → bit_xor third (rest_of_pair step (length octets - (11 * step)) pair)
    ≡ bit_xor (octets_remainder (pair ++ octets)) (rest_of_pair step (length octets - (11 * step - 16)) before)
pair_folds step before pair octets joined first second third m n folds few many is_third is_second is_first is_joined same_n same_m room sixteen =
    let long : ℕ = length octets in
    let width : ℕ = 8 * step in
    let left : ℕ = 8 * (long - 16 * step) in
    let there : ℕ = long - (12 * step - 16) in
    let at : ℕ → ℕ = λ k. shifted k (bits_of pair) in
    let r : ℕ = octets_remainder octets in
    let a : ℕ = at (left + 12 * width) in
    let b : ℕ = at (left + 5 * width) in
    let c : ℕ = at left in
    let p : ℕ = rest_of_pair step (long - (11 * step - 16)) before in
    let s : ℕ = rest_of_pair step (long - (11 * step)) pair in
    let f : ℕ = shifted (8 * there) (bits_of (take step pair)) in
    let at_first : 8 * (long - ((4 * step - 16) + 16)) ≡ left + 12 * width = omega (arith, few, many, room) in
    let at_second : left + 5 * width ≡ 8 * (long - (11 * step)) = omega (arith, few, many, room) in
    let at_joined : 8 * (m - ((12 * step - 32) + 16)) ≡ 8 * there = omega (arith, few, many, room, same_m) in
    let at_third : 8 * (n - ((16 * step - 16) + 16)) ≡ left = omega (arith, few, many, room, same_n, same_m) in
    let all : 8 * long ≡ left + 16 * width = omega (arith, few, many, room) in
    let words : b ≡ bit_xor f s =
    ap at at_second
    ∙ ap (λ l. shifted (8 * (long - (11 * step))) (bits_of l)) (sym (take-append-drop step pair))
    ∙ octets_apart_at (long - (11 * step)) there (16 - step) (take step pair) (drop step pair) (length-drop step pair ∙ omega (arith, sixteen)) (omega (arith, few, many, room)) in
    let one : first ≡ bit_xor r a = is_first ∙ ap (λ k. bit_xor r (at k)) at_first in
    let two : second ≡ bit_xor (bit_xor r a) (bit_xor p f) =
    is_second
    ∙ ap₂ bit_xor one
    (ap₂ (λ k l. shifted k (bits_of l)) at_joined is_joined
    ∙ octets_apart_at there (long - (11 * step - 16)) step (drop step before) (take step pair) (length-take-le step pair (omega (arith, many, sixteen))) (omega (arith, few, many, room))) in
    let three : third ≡ bit_xor (bit_xor (bit_xor r a) (bit_xor p f)) c = is_third ∙ ap₂ bit_xor two (ap at at_third) in
    let whole : octets_remainder (pair ++ octets) ≡ bit_xor (bit_xor a (bit_xor (bit_xor f s) c)) r =
    front-apart pair octets long refl
    ∙ ap (λ k. bit_xor k r) (ap at all ∙ bits-fold width left (bits_of pair) folds ∙ ap (λ k. bit_xor a (bit_xor k c)) words) in
    ap (λ k. bit_xor k s) three ∙ regrouped r a p f c s ∙ ap (λ k. bit_xor k p) (sym whole)

-- before the first pair there is none
pub first_pair : (step : ℕ) (octets : List ℕ) (n : ℕ) → bit_xor (octets_remainder octets) (rest_of_pair step n (replicate 16 0)) ≡ octets_remainder octets
first_pair step octets n =
    ap (λ l. bit_xor (octets_remainder octets) (shifted (8 * n) (bits_of l))) (drop-replicate {X = ℕ} step 16 0)
    ∙ zeros_add (octets_remainder octets) (8 * n) (16 - step)

-- a pair in the front of the octets
pair_of_front : (octets : List ℕ) (k : ℕ) → k + 16 ≤ length octets → take 16 (drop k (take (k + 16) octets)) ≡ take 16 (drop k octets)
pair_of_front octets k room =
    let pair : List ℕ = take 16 (drop k octets) in
    ap (λ l. take 16 (drop k l)) (take-add k 16 octets)
    ∙ ap (take 16) (drop_at (take k octets) pair k (length-take-le k octets (omega arith)))
    ∙ take_all 16 pair (omega (arith, length-chunk k 16 octets room))

-- the pairs up to the next one are taken away
pub pair_taken : (step : ℕ) (octets front behind after before : List ℕ) (i total : ℕ) → 4 ≤ step → 16 * i + 16 + 16 * step ≤ length octets
    → front ≡ take (16 * i + 16) octets → behind ≡ drop (16 * i + 16) octets → length after ≡ length behind
    → bit_xor (octets_remainder after) (rest_of_pair step (length behind - (11 * step)) (take 16 (drop (16 * i) front)))
    ≡ bit_xor (octets_remainder (take 16 (drop (16 * i) front) ++ behind)) (rest_of_pair step (length behind - (11 * step - 16)) before)
    → bit_xor (octets_remainder (drop (16 * i) octets)) (rest_of_pair step (length octets - 16 * i - (11 * step)) before) ≡ total
    → bit_xor (octets_remainder (drop (16 * (i + 1)) (front ++ after))) (rest_of_pair step (length (front ++ after) - 16 * (i + 1) - (11 * step)) (take 16 (drop (16 * i) front))) ≡ total
pair_taken step octets front behind after before i total few inside first last as_long taken so_far =
    let k : ℕ = 16 * i in
    let rest : List ℕ = drop k octets in
    let pair : List ℕ = take 16 (drop k front) in
    let next : 16 * (i + 1) ≡ k + 16 = omega arith in
    let seam : length front ≡ k + 16 = ap length first ∙ length-take-le (k + 16) octets (omega (arith, inside)) in
    let left : length behind ≡ length octets - (k + 16) = ap length last ∙ length-drop (k + 16) octets in
    let all : length (front ++ after) ≡ length octets = length-append front after ∙ omega (arith, inside, seam, as_long, left) in
    let here : length (front ++ after) - 16 * (i + 1) - (11 * step) ≡ length behind - (11 * step) = omega (arith, all, left) in
    let there : length behind - (11 * step - 16) ≡ length octets - k - (11 * step) = omega (arith, few, inside, left) in
    let pair_is : pair ≡ take 16 rest = ap (λ l. take 16 (drop k l)) first ∙ pair_of_front octets k (omega (arith, inside)) in
    let behind_is : behind ≡ drop 16 rest = last ∙ sym (drop-drop 16 k octets) in
    let whole : pair ++ behind ≡ rest = ap₂ (λ p q. p ++ q) pair_is behind_is ∙ take-append-drop 16 rest in
    ap₂ (λ l n. bit_xor (octets_remainder l) (rest_of_pair step n pair)) (ap (λ n. drop n (front ++ after)) next ∙ drop_at front after (k + 16) seam) here
    ∙ taken
    ∙ ap₂ (λ l n. bit_xor (octets_remainder l) (rest_of_pair step n before)) whole there
    ∙ so_far

-- the rest of the last pair is added
pub last_added : (step : ℕ) (octets front left after before joined : List ℕ) (i n total : ℕ) → 4 ≤ step → step ≤ 8
    → n ≡ length octets → 16 * step ≤ n → 16 * i + 16 * step ≡ n
    → front ≡ take (length octets - 16 * step) octets → left ≡ drop (length octets - 16 * step) octets
    → octets_remainder after ≡ bit_xor (octets_remainder left) (shifted (8 * (length left - ((12 * step - 16) + 16))) (bits_of joined))
    → joined ≡ drop step before ++ take step (replicate 16 0)
    → bit_xor (octets_remainder (drop (16 * i) octets)) (rest_of_pair step (length octets - 16 * i - (11 * step)) before) ≡ total
    → octets_remainder (drop (n - 16 * step) (front ++ after)) ≡ total
last_added step octets front left after before joined i n total few many as_long room at first last added is_joined so_far =
    let k : ℕ = n - 16 * step in
    let m : ℕ = length octets - 16 * step in
    let start : m ≡ 16 * i = omega (arith, as_long, at) in
    let first_long : length front ≡ m = ap length first ∙ length-take-le m octets (omega (arith, as_long)) in
    let seam : length front ≡ k = omega (arith, first_long, as_long) in
    let left_long : length left ≡ length octets - m = ap length last ∙ length-drop m octets in
    let behind : 8 * (length left - ((12 * step - 16) + 16)) ≡ 8 * (4 * step) = omega (arith, few, room, left_long, as_long) in
    let end : 5 * step ≡ length octets - 16 * i - (11 * step) = omega (arith, as_long, at) in
    let rest : ℕ = rest_of_pair step (5 * step) before in
    let further : 5 * step ≡ step + 4 * step = omega arith in
    let zeros : take step (replicate 16 0) ≡ replicate step 0 = take-replicate {X = ℕ} step 16 0 (omega (arith, many)) in
    let one : shifted (8 * (length left - ((12 * step - 16) + 16))) (bits_of joined) ≡ rest =
    ap₂ (λ j l. shifted j (bits_of l)) behind (is_joined ∙ ap (λ l. drop step before ++ l) zeros)
    ∙ octets_apart_at (4 * step) (5 * step) step (drop step before) (replicate step 0) (length-replicate {A = ℕ} step 0) further
    ∙ zeros_add rest (8 * (4 * step)) step in
    ap octets_remainder (drop_at front after k seam)
    ∙ added
    ∙ ap₂ (λ l x. bit_xor (octets_remainder l) x) (last ∙ ap (λ j. drop j octets) start) (one ∙ ap (λ j. rest_of_pair step j before) end)
    ∙ so_far

-- a pair has 16 octets
pub ruleset pair_by_pair = (length-chunk)

-- ---- octets are given

pub pair_copied : (to from : List ℕ) (i : ℕ) → 16 * i + 16 ≤ length to → length from ≡ length to
    → take (16 * i) to ≡ take (16 * i) from
    → take (16 * (i + 1)) (put_chunk (16 * i) to (take 16 (drop (16 * i) from))) ≡ take (16 * (i + 1)) from
pair_copied to from i room as_long before =
    let k : ℕ = 16 * i in
    let pair : List ℕ = take 16 (drop k from) in
    let next : 16 * (i + 1) ≡ k + 16 = omega arith in
    take_more_put_chunk k to pair (16 * (i + 1)) (omega (arith, length-chunk k 16 from (omega (arith, as_long)))) (omega arith)
    ∙ ap (λ l. l ++ pair) before
    ∙ sym (ap (λ n. take n from) next ∙ take-add k 16 from)

-- ---- the first octets

preset : remainder_from (remainder_from 0 (low_bits 8 0x84)) (low_bits 8 0xCF) ≡ 65535
unfolding remainder_from number long_division subtract low_bits
preset = refl

preset_octets : (octets : List ℕ) → remainder_from 0 (bits_of (0x84 ∷ 0xCF ∷ octets)) ≡ remainder_from 65535 (bits_of octets)
unfolding bits_of
preset_octets octets =
    remainder_from-append 0 (low_bits 8 0x84) (low_bits 8 0xCF ++ bits_of octets)
    ∙ remainder_from-append (remainder_from 0 (low_bits 8 0x84)) (low_bits 8 0xCF) (bits_of octets)
    ∙ ap (λ r. remainder_from r (bits_of octets)) preset

-- zeros in front change nothing, and the two octets after them are a register of ones
first_octets : (n : ℕ) (octets : List ℕ) → octets_remainder (replicate n 0 ++ 0x84 ∷ 0xCF ∷ octets) ≡ remainder_from 65535 (bits_of octets)
first_octets n octets =
    let behind : List ℕ = 0x84 ∷ 0xCF ∷ octets in
    ap (remainder_from 0) (bits_of-append (replicate n 0) behind ∙ ap (λ l. l ++ bits_of behind) (zero_octets n))
    ∙ zeros-passed (8 * n) (bits_of behind)
    ∙ preset_octets octets

-- the last 128 octets are held
held_last : (k : ℕ) (held folded filled : List ℕ) → held ≡ take 128 (drop k folded) → octets_remainder (drop (length filled - 128) folded) ≡ octets_remainder filled
    → length filled ≡ k + 128 → length folded ≡ length filled → octets_remainder held ≡ octets_remainder filled
held_last k held folded filled is_held same long as_long =
    let last : length (drop k folded) ≤ 128 = omega (arith, length-drop k folded, long, as_long) in
    let front : k ≡ length filled - 128 = omega (arith, long) in
    ap octets_remainder (is_held ∙ take_all 128 (drop k folded) last) ∙ ap (λ j. octets_remainder (drop j folded)) front ∙ same

-- those that are held first: all but one pair of zeros, the two octets and the first octets
pub begun : (held folded front preset back first : List ℕ) → held ≡ take 128 (drop 16 folded)
    → octets_remainder (drop (length (front ++ (preset ++ back)) - 128) folded) ≡ octets_remainder (front ++ (preset ++ back))
    → length folded ≡ length (front ++ (preset ++ back))
    → front ≡ take (142 - length first) (replicate 144 0) → preset ≡ 0x84 ∷ 0xCF ∷ [] → back ≡ first → length first < 128
    → octets_remainder held ≡ remainder_from 65535 (bits_of first)
begun held folded front preset back first is_held same as_long zeros two all few =
    let n : ℕ = 142 - length first in
    let octets : front ++ (preset ++ back) ≡ replicate n 0 ++ 0x84 ∷ 0xCF ∷ first = rw (zeros, two, all, take-replicate {X = ℕ} n 144 0 (omega arith)) refl in
    let long : length (front ++ (preset ++ back)) ≡ 16 + 128 =
    ap length octets ∙ length-append (replicate n 0) (0x84 ∷ 0xCF ∷ first) ∙ omega (arith, length-replicate {A = ℕ} n 0) in
    held_last 16 held folded (front ++ (preset ++ back)) is_held same long as_long ∙ ap octets_remainder octets ∙ first_octets n first

-- those that are held after a block
pub appended : (held folded front back old block : List ℕ) → held ≡ take 128 (drop 128 folded)
    → octets_remainder (drop (length (front ++ back) - 128) folded) ≡ octets_remainder (front ++ back)
    → length folded ≡ length (front ++ back)
    → front ≡ old → back ≡ block → length old ≡ 128 → length block ≡ 128
    → octets_remainder held ≡ remainder_from (octets_remainder old) (bits_of block)
appended held folded front back old block is_held same as_long is_old is_block first last =
    held_last 128 held folded (front ++ back) is_held same (length-append front back ∙ omega (arith, first, last, ap length is_old, ap length is_block)) as_long
    ∙ ap (remainder_from 0) (bits_of-append front back ∙ ap₂ (λ p q. bits_of p ++ bits_of q) is_old is_block)
    ∙ remainder_from-append 0 (bits_of old) (bits_of block)

-- the second half
pub second_half : (half : ℕ) (old new : List ℕ) → length old ≡ half + half → length new ≡ half + half → take half (drop half new) ≡ drop (length old - half) new
second_half half old new long as_long =
    let front : half ≡ length old - half = omega (arith, long) in
    take_all half (drop half new) (omega (arith, length-drop half new, as_long)) ∙ ap (λ n. drop n new) front

-- where no block is left, no octet is
pub blocks_done : (held rest : List ℕ) → length rest % 128 ≡ 0 → length rest < 128 → remainder_from (octets_remainder held) (bits_of rest) ≡ octets_remainder held
unfolding bits_of
blocks_done held [] whole few = remainder_from-nil (octets_remainder held) (remainder_from-lt 0 (bits_of held))
blocks_done held (x ∷ rest) whole few = absurd (omega arith)

pub ruleset by_blocks = (octets_apart, blocks_done, error_control_of-remainder)
