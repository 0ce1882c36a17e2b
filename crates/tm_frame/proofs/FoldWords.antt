-- Folding in words of 64 bits.
use Rattle.std.proofs.Common.{◌≡◌, ℕ, zero, suc, ◌+◌, ◌-◌, ◌*◌, ◌^◌, ◌/◌, ◌%◌, ◌<◌, ◌≤◌, Bool, true, false, List, [], ◌∷◌, ◌++◌, length, take, drop, get_or, set, refl, sym, ap, ap₂, ◌∙◌, arith, length-append, append_assoc, append-nil, length-drop}
use Rattle.std.specs.Prelude.{bit_xor, replicate}
use Rattle.std.specs.Int.Bits.{xor_assoc}
use Rattle.std.proofs.lemmas.Nat.{xor_comm, shl-shr, shr-shr}
use Rattle.std.proofs.Math.Seq.{take-add}
use Rattle.byteorder.specs.Endian.{big_number}
use Rattle.std.proofs.lemmas.List.{length-set, length-take-le, get_or-take, drop_all, drop_at, drop_more, at_drop_more, take_more_set, take_rest, length-replicate, replicate-append-replicate}
use Rattle.tm_bits.specs.Bits.{low_bits, bits_of, number, AreOctets}
use Rattle.tm_bits.proofs.BitLemmas.{length-low_bits, low_bits-mod, bits_spelled, low_bits-split, bits_of-append}
use Rattle.tm_bits.proofs.PartLemmas.{octets_behind, length-bits_of-take}
use Rattle.tm_frame.specs.code.Folding.{Folds, remainder_from, shifted, bits_of_words, words_remainder}
use Rattle.tm_frame.proofs.HeaderLemmas.{number-bits_of-take}
use Rattle.tm_frame.proofs.Division.{low_bits-zero, low_bits-shl}
use Rattle.tm_frame.specs.ErrorControl.{subtract, long_division}
use Rattle.tm_frame.proofs.Linear.{IsLinear, agree, linear_agree, same_linear, sum_linear, shr_linear, shl_linear, passed_linear, bits_linear, after_linear, xor_exchange}
use Rattle.tm_frame.proofs.Fold.{passed, passed-add, shifted-passed, remainder-apart, zeros-passed, bits-fold}

-- ---- the bits of words

bits_of_words-cons : (w : ℕ) (ws : List ℕ) → bits_of_words (w ∷ ws) ≡ low_bits 64 w ++ bits_of_words ws
unfolding bits_of_words
bits_of_words-cons w ws = refl

pub bits_of_words-one : (w : ℕ) → bits_of_words (w ∷ []) ≡ low_bits 64 w
unfolding bits_of_words
bits_of_words-one w = append-nil (low_bits 64 w)

pub bits_of_words-append : (xs ys : List ℕ) → bits_of_words (xs ++ ys) ≡ bits_of_words xs ++ bits_of_words ys
unfolding bits_of_words
bits_of_words-append [] ys = refl
bits_of_words-append (x ∷ xs) ys = rw (bits_of_words-append xs ys) (sym (append_assoc (low_bits 64 x) (bits_of_words xs) (bits_of_words ys)))

length-bits_of_words : (ws : List ℕ) → length (bits_of_words ws) ≡ 64 * length ws
unfolding bits_of_words
length-bits_of_words [] = refl
length-bits_of_words (w ∷ ws) = length-append (low_bits 64 w) (bits_of_words ws) ∙ omega (arith, length-low_bits 64 w, length-bits_of_words ws)

-- the first word apart
words_remainder-cons : (w n : ℕ) (ws : List ℕ) → length ws ≡ n
    → words_remainder (w ∷ ws) ≡ bit_xor (shifted (64 * n) (low_bits 64 w)) (words_remainder ws)
words_remainder-cons w n ws width =
    ap (remainder_from 0) (bits_of_words-cons w ws)
    ∙ remainder-apart (low_bits 64 w) (bits_of_words ws)
    ∙ ap (λ k. bit_xor (shifted k (low_bits 64 w)) (words_remainder ws)) (length-bits_of_words ws ∙ ap (λ k. 64 * k) width)

-- ---- a word is added

shifted-xor : (n x y : ℕ) → shifted n (low_bits 64 (bit_xor x y)) ≡ bit_xor (shifted n (low_bits 64 x)) (shifted n (low_bits 64 y))
shifted-xor n x y =
    let at : (z : ℕ) → shifted n (low_bits 64 z) ≡ remainder_from (remainder_from 0 (low_bits 64 z)) (replicate n false) = λ z. shifted-passed n (low_bits 64 z) in
    at (bit_xor x y) ∙ (after_linear (passed_linear n) (bits_linear 64)).joins x y ∙ sym (ap₂ bit_xor (at x) (at y))

-- the words, with a word added without carries to the one at a place
abbrev pub with_added : List ℕ → ℕ → ℕ → List ℕ
with_added ws i v = set ws i (bit_xor (get_or ws i 0) v)

pub words_remainder-added : (ws : List ℕ) (i n v : ℕ) → i + suc n ≡ length ws
    → words_remainder (with_added ws i v) ≡ bit_xor (words_remainder ws) (shifted (64 * n) (low_bits 64 v))
words_remainder-added [] i n v place = absurd (omega arith)
words_remainder-added (w ∷ ws) zero n v place =
    let width : length ws ≡ n = omega arith in
    let a : ℕ = shifted (64 * n) (low_bits 64 w) in
    let b : ℕ = shifted (64 * n) (low_bits 64 v) in
    let r : ℕ = words_remainder ws in
    words_remainder-cons (bit_xor w v) n ws width
    ∙ ap (λ k. bit_xor k r) (shifted-xor (64 * n) w v ∙ xor_comm a b)
    ∙ xor_assoc b a r
    ∙ ap (bit_xor b) (sym (words_remainder-cons w n ws width))
    ∙ xor_comm b (words_remainder (w ∷ ws))
words_remainder-added (w ∷ ws) (suc i) n v place =
    let a : ℕ = shifted (64 * length ws) (low_bits 64 w) in
    let b : ℕ = shifted (64 * n) (low_bits 64 v) in
    words_remainder-cons w (length ws) (with_added ws i v) (length-set ws i (bit_xor (get_or ws i 0) v))
    ∙ ap (bit_xor a) (words_remainder-added ws i n v (omega arith))
    ∙ sym (xor_assoc a (words_remainder ws) b)
    ∙ ap (λ k. bit_xor k b) (sym (words_remainder-cons w (length ws) ws refl))

-- a word that lies across two: its high bits in the first, the others in the second
across : (m s j x : ℕ) → s + j ≡ 64 → x < 2 ^ 64
    → shifted (64 * m + j) (low_bits 64 x)
    ≡ bit_xor (shifted (64 * suc m) (low_bits 64 (x / 2 ^ s))) (shifted (64 * m) (low_bits 64 (x * 2 ^ j % 2 ^ 64)))
across m s j x parts fits =
    let first : List Bool = low_bits 64 (x / 2 ^ s) in
    let second : List Bool = low_bits 64 (x * 2 ^ j % 2 ^ 64) in
    let word : List Bool = low_bits 64 x in
    let z : ℕ → List Bool = λ n. replicate n false in
    let all : j + s ≡ 64 = omega (arith, parts) in
    let width : 128 ≡ s + 64 + j = omega (arith, parts) in
    let none : x / 2 ^ 64 ≡ 0 = omega (arith, fits) in
    let high : x * 2 ^ j / 2 ^ 64 ≡ x / 2 ^ s = ap (λ n. x * 2 ^ j / 2 ^ n) (sym all) ∙ sym (shr-shr (x * 2 ^ j) j s) ∙ ap (λ n. n / 2 ^ s) (shl-shr x j) in
    let both : z s ++ word ++ z j ≡ first ++ second =
    sym (ap (λ l. l ++ z j) (low_bits-split s 64 x ∙ ap (λ n. low_bits s n ++ word) none ∙ ap (λ l. l ++ word) (low_bits-zero s)))
    ∙ sym (low_bits-shl (s + 64) j x)
    ∙ ap (λ n. low_bits n (x * 2 ^ j)) (sym width)
    ∙ low_bits-split 64 64 (x * 2 ^ j)
    ∙ ap₂ (λ n l. low_bits 64 n ++ l) high (sym (low_bits-mod 64 (x * 2 ^ j))) in
    let back : 64 * m + j ≡ j + 64 * m = omega arith in
    let behind : length (second ++ z (64 * m)) ≡ 64 * suc m =
    length-append second (z (64 * m)) ∙ omega (arith, length-low_bits 64 (x * 2 ^ j % 2 ^ 64), length-replicate (64 * m) false) in
    let joined : z s ++ (word ++ z (j + 64 * m)) ≡ first ++ (second ++ z (64 * m)) =
    ap (λ l. z s ++ (word ++ l)) (sym (replicate-append-replicate j (64 * m) false)) ∙ simp (← append_assoc) (ap (λ l. l ++ z (64 * m)) both) in
    ap (λ n. shifted n word) back
    ∙ sym (zeros-passed s (word ++ z (j + 64 * m)))
    ∙ ap (remainder_from 0) joined
    ∙ remainder-apart first (second ++ z (64 * m))
    ∙ ap (λ n. bit_xor (shifted n first) (shifted (64 * m) second)) behind

-- a word is added at the place of one
pub added_at : (ws : List ℕ) (place at x : ℕ) → place ≡ 64 * at → place + 64 ≤ 64 * length ws
    → words_remainder (with_added ws at x) ≡ bit_xor (words_remainder ws) (shifted (64 * length ws - (place + 64)) (low_bits 64 x))
added_at ws place at x is room =
    let n : ℕ = length ws - suc at in
    let e : 64 * n ≡ 64 * length ws - (place + 64) = omega (arith, is) in
    words_remainder-added ws at n x (omega (arith, is)) ∙ ap (λ k. bit_xor (words_remainder ws) (shifted k (low_bits 64 x))) e

-- a word is added across two
pub added_across : (ws : List ℕ) (place at within x : ℕ) → place ≡ 64 * at + within → 0 < within → within < 64 → place + 64 ≤ 64 * length ws → x < 2 ^ 64
    → words_remainder (with_added (with_added ws at (x / 2 ^ within)) (at + 1) (x * 2 ^ (64 - within) % 2 ^ 64))
    ≡ bit_xor (words_remainder ws) (shifted (64 * length ws - (place + 64)) (low_bits 64 x))
added_across ws place at within x is some inside room fits =
    let m : ℕ = length ws - (at + 2) in
    let first : ℕ = x / 2 ^ within in
    let second : ℕ = x * 2 ^ (64 - within) % 2 ^ 64 in
    let one : List ℕ = with_added ws at first in
    let same : length one ≡ length ws = length-set ws at (bit_xor (get_or ws at 0) first) in
    let r : ℕ = words_remainder ws in
    let a : ℕ = shifted (64 * suc m) (low_bits 64 first) in
    let b : ℕ = shifted (64 * m) (low_bits 64 second) in
    let e : 64 * m + (64 - within) ≡ 64 * length ws - (place + 64) = omega (arith, is) in
    words_remainder-added one (at + 1) m second (omega (arith, is, same))
    ∙ ap (λ k. bit_xor k b) (words_remainder-added ws at (suc m) first (omega (arith, is)))
    ∙ xor_assoc r a b
    ∙ ap (bit_xor r) (sym (across m within (64 - within) x (omega arith) fits) ∙ ap (λ k. shifted k (low_bits 64 x)) e)

-- ---- a word is taken away

-- what stands after a word, with the word added at the three places, has the remainder of both
pub word_folds : (width w : ℕ) (ws : List ℕ) (first second third m n : ℕ)
    → third ≡ bit_xor second (shifted (64 * n - (16 * width - 64 + 64)) (low_bits 64 w))
    → second ≡ bit_xor first (shifted (64 * m - (11 * width - 64 + 64)) (low_bits 64 w))
    → first ≡ bit_xor (words_remainder ws) (shifted (64 * length ws - (4 * width - 64 + 64)) (low_bits 64 w))
    → n ≡ m → m ≡ length ws → Folds width → 16 ≤ width → 16 * width ≤ 64 * length ws
    → third ≡ words_remainder (w ∷ ws)
word_folds width w ws first second third m n is_third is_second is_first same_n same_m folds wide room =
    let bits : List Bool = low_bits 64 w in
    let r : ℕ = words_remainder ws in
    let left : ℕ = 64 * length ws - 16 * width in
    let at_first : 64 * length ws - (4 * width - 64 + 64) ≡ left + 12 * width = omega arith in
    let at_second : 64 * m - (11 * width - 64 + 64) ≡ left + 5 * width = omega (arith, same_m) in
    let at_third : 64 * n - (16 * width - 64 + 64) ≡ left = omega (arith, same_n, same_m) in
    let all : 64 * length ws ≡ left + 16 * width = omega arith in
    let at : ℕ → ℕ = λ k. shifted k bits in
    let a : ℕ = at (left + 12 * width) in
    let b : ℕ = at (left + 5 * width) in
    let c : ℕ = at left in
    let front : words_remainder (w ∷ ws) ≡ bit_xor (bit_xor a (bit_xor b c)) r =
    words_remainder-cons w (length ws) ws refl ∙ ap (λ k. bit_xor k r) (ap at all ∙ bits-fold width left bits folds) in
    let one : first ≡ bit_xor r a = is_first ∙ ap (λ k. bit_xor r (at k)) at_first in
    let two : second ≡ bit_xor (bit_xor r a) b = is_second ∙ ap₂ (λ p k. bit_xor p (at k)) one at_second in
    is_third
    ∙ ap₂ (λ p k. bit_xor p (at k)) two at_third
    ∙ xor_assoc (bit_xor r a) b c
    ∙ xor_assoc r a (bit_xor b c)
    ∙ xor_comm r (bit_xor a (bit_xor b c))
    ∙ sym front

-- the words up to the next one are taken away
pub word_taken : (ws front behind after : List ℕ) (i total : ℕ) → i < length ws → front ≡ take (i + 1) ws → behind ≡ drop (i + 1) ws
    → words_remainder after ≡ words_remainder (get_or front i 0 ∷ behind) → words_remainder (drop i ws) ≡ total
    → words_remainder (drop (i + 1) (front ++ after)) ≡ total
word_taken ws front behind after i total inside first last taken before =
    let seam : length front ≡ i + 1 = ap length first ∙ length-take-le (i + 1) ws (omega arith) in
    let word : get_or front i 0 ≡ get_or ws i 0 = ap (λ l. get_or l i 0) first ∙ get_or-take (i + 1) ws i 0 (omega arith) in
    ap words_remainder (drop_at front after (i + 1) seam)
    ∙ taken
    ∙ ap₂ (λ x l. words_remainder (x ∷ l)) word last
    ∙ sym (at_drop_more words_remainder ws i 0 inside)
    ∙ before

-- ---- a word is taken away by its quotient

-- the quotients of a word by the generator's powers 8 and 4
abbrev by_eight : ℕ → ℕ
by_eight n = bit_xor n (n / 2 ^ 32)

abbrev by_four : ℕ → ℕ
by_four n = bit_xor (by_eight n) (bit_xor (by_eight n / 2 ^ 16) (by_eight n / 2 ^ 44))

-- what they add to the words that follow
abbrev to_next : ℕ → ℕ
to_next n = bit_xor (by_eight n * 2 ^ 32 % 2 ^ 64) (by_eight n / 2 ^ 24)

abbrev to_after : ℕ → ℕ
to_after n = bit_xor (by_eight n * 2 ^ 40 % 2 ^ 64) (by_eight n)

abbrev to_last : ℕ → ℕ
to_last n = bit_xor (bit_xor (by_four n * 2 ^ 48 % 2 ^ 64) (by_four n * 2 ^ 20 % 2 ^ 64)) (by_four n)

by_eight_linear : IsLinear by_eight
by_eight_linear = sum_linear same_linear (shr_linear 32)

to_next_linear : IsLinear to_next
to_next_linear = after_linear (sum_linear (shl_linear 32 64) (shr_linear 24)) by_eight_linear

to_after_linear : IsLinear to_after
to_after_linear = after_linear (sum_linear (shl_linear 40 64) same_linear) by_eight_linear

to_last_linear : IsLinear to_last
to_last_linear =
    after_linear (sum_linear (sum_linear (shl_linear 48 64) (shl_linear 20 64)) same_linear)
    (after_linear (sum_linear same_linear (sum_linear (shr_linear 16) (shr_linear 44))) by_eight_linear)

-- what division leaves of a word, and then of n zeros
abbrev left_by : ℕ → ℕ → ℕ
left_by n word = passed n (remainder_from 0 (low_bits 64 word))

left_linear : {f : ℕ → ℕ} (n : ℕ) → IsLinear f → IsLinear (λ word. left_by n (f word))
left_linear n linear = after_linear (passed_linear n) (after_linear (bits_linear 64) linear)

-- they are right for each single bit, and so for each word
two_agree : agree (λ k. left_by 128 (2 ^ k)) (λ k. bit_xor (left_by 64 (to_next (2 ^ k))) (left_by 0 (to_after (2 ^ k)))) 64 ≡ true
unfolding remainder_from number long_division subtract low_bits
two_agree = refl

one_agrees : agree (λ k. left_by 64 (2 ^ k)) (λ k. left_by 0 (to_last (2 ^ k))) 64 ≡ true
unfolding remainder_from number long_division subtract low_bits
one_agrees = refl

left_by_two : (word : ℕ) → word < 2 ^ 64 → left_by 128 word ≡ bit_xor (left_by 64 (to_next word)) (left_by 0 (to_after word))
left_by_two =
    linear_agree (left_by 128) (λ word. bit_xor (left_by 64 (to_next word)) (left_by 0 (to_after word)))
    (left_linear 128 same_linear) (sum_linear (left_linear 64 to_next_linear) (left_linear 0 to_after_linear)) 64 two_agree

left_by_one : (word : ℕ) → word < 2 ^ 64 → left_by 64 word ≡ left_by 0 (to_last word)
left_by_one = linear_agree (left_by 64) (λ word. left_by 0 (to_last word)) (left_linear 64 same_linear) (left_linear 0 to_last_linear) 64 one_agrees

-- a word with n and then m zeros after it
left_apart : (n m k word : ℕ) → k ≡ n + m → shifted k (low_bits 64 word) ≡ passed m (left_by n word)
left_apart n m k word e =
    shifted-passed k (low_bits 64 word)
    ∙ ap (λ j. passed j (remainder_from 0 (low_bits 64 word))) e
    ∙ passed-add n m (remainder_from 0 (low_bits 64 word))

-- before two words and m others
pub word_into_two : (word next after : ℕ) → word < 2 ^ 64 → (ws : List ℕ)
    → words_remainder (bit_xor next (to_next word) ∷ bit_xor after (to_after word) ∷ ws) ≡ words_remainder (word ∷ next ∷ after ∷ ws)
word_into_two word next after small ws =
    let m : ℕ = length ws in
    let at : ℕ → ℕ → ℕ = λ n x. shifted (64 * n) (low_bits 64 x) in
    let r : ℕ = words_remainder ws in
    let a : ℕ = at (suc m) next in
    let b : ℕ = at m after in
    let d : ℕ = at (suc m) (to_next word) in
    let e : ℕ = at m (to_after word) in
    let front : at (suc (suc m)) word ≡ bit_xor d e =
    left_apart 128 (64 * m) (64 * suc (suc m)) word (omega arith)
    ∙ ap (passed (64 * m)) (left_by_two word small)
    ∙ (passed_linear (64 * m)).joins (left_by 64 (to_next word)) (left_by 0 (to_after word))
    ∙ sym (ap₂ bit_xor (left_apart 64 (64 * m) (64 * suc m) (to_next word) (omega arith)) (left_apart 0 (64 * m) (64 * m) (to_after word) (omega arith))) in
    words_remainder-cons (bit_xor next (to_next word)) (suc m) (bit_xor after (to_after word) ∷ ws) refl
    ∙ ap₂ bit_xor (shifted-xor (64 * suc m) next (to_next word))
    (words_remainder-cons (bit_xor after (to_after word)) m ws refl ∙ ap (λ k. bit_xor k r) (shifted-xor (64 * m) after (to_after word)))
    ∙ ap₂ bit_xor (xor_comm a d) (ap (λ k. bit_xor k r) (xor_comm b e) ∙ xor_assoc e b r)
    ∙ xor_exchange d a e (bit_xor b r)
    ∙ ap₂ bit_xor (sym front) (ap (bit_xor a) (sym (words_remainder-cons after m ws refl)) ∙ sym (words_remainder-cons next (suc m) (after ∷ ws) refl))
    ∙ sym (words_remainder-cons word (suc (suc m)) (next ∷ after ∷ ws) refl)

-- before one word
pub word_into_one : (word next : ℕ) → word < 2 ^ 64 → words_remainder (bit_xor next (to_last word) ∷ []) ≡ words_remainder (word ∷ next ∷ [])
word_into_one word next small =
    let r : ℕ = words_remainder [] in
    let a : ℕ = shifted 0 (low_bits 64 next) in
    let t : ℕ = shifted 0 (low_bits 64 (to_last word)) in
    let front : shifted 64 (low_bits 64 word) ≡ t =
    shifted-passed 64 (low_bits 64 word) ∙ left_by_one word small ∙ sym (shifted-passed 0 (low_bits 64 (to_last word))) in
    words_remainder-cons (bit_xor next (to_last word)) 0 [] refl
    ∙ ap (λ k. bit_xor k r) (shifted-xor 0 next (to_last word) ∙ xor_comm a t)
    ∙ xor_assoc t a r
    ∙ ap₂ bit_xor (sym front) (sym (words_remainder-cons next 0 [] refl))
    ∙ sym (words_remainder-cons word 1 (next ∷ []) refl)

-- ---- words and octets

-- the bits of a word are those of its octets
word_read : (xs : List ℕ) → AreOctets xs → 8 ≤ length xs → low_bits 64 (big_number 8 xs) ≡ bits_of (take 8 xs)
word_read xs octets room =
    bits_spelled 64 (big_number 8 xs) (bits_of (take 8 xs)) (length-bits_of-take 8 xs room) (sym (number-bits_of-take 8 xs octets room))

-- no word, and one word more
pub fill_none : bits_of_words [] ≡ bits_of []
unfolding bits_of_words bits_of
fill_none = refl

pub fill_step : (ws octets : List ℕ) (i v : ℕ) → i < length ws → 8 * i + 8 ≤ length octets → AreOctets octets
    → v ≡ big_number 8 (take (length octets - 8 * i) (drop (8 * i) octets))
    → bits_of_words (take i ws) ≡ bits_of (take (8 * i) octets)
    → bits_of_words (take (i + 1) (set ws i v)) ≡ bits_of (take (8 * (i + 1)) octets)
fill_step ws octets i v inside room are read before =
    let left : 8 ≤ length (drop (8 * i) octets) = omega (arith, length-drop (8 * i) octets) in
    let next : 8 * (i + 1) ≡ 8 * i + 8 = omega arith in
    let word : bits_of_words (v ∷ []) ≡ bits_of (take 8 (drop (8 * i) octets)) =
    bits_of_words-one v ∙ ap (low_bits 64) (read ∙ ap (big_number 8) (take_rest octets (8 * i))) ∙ word_read (drop (8 * i) octets) (octets_behind (8 * i) octets are) left in
    ap bits_of_words (take_more_set ws i v inside)
    ∙ bits_of_words-append (take i ws) (v ∷ [])
    ∙ ap₂ (λ p q. p ++ q) before word
    ∙ sym (bits_of-append (take (8 * i) octets) (take 8 (drop (8 * i) octets)))
    ∙ ap bits_of (sym (ap (λ n. take n octets) next ∙ take-add (8 * i) 8 octets))

-- the last four of eight words
pub last_four : (ws : List ℕ) → length ws ≡ 8 → get_or ws 4 0 ∷ get_or ws 5 0 ∷ get_or ws 6 0 ∷ get_or ws 7 0 ∷ [] ≡ drop 4 ws
last_four ws all =
    let at : (i : ℕ) → i < 8 → drop i ws ≡ get_or ws i 0 ∷ drop (i + 1) ws = λ i inside. drop_more ws i 0 (omega (arith, all)) in
    sym (
    rw (at 4 (omega arith), at 5 (omega arith), at 6 (omega arith), at 7 (omega arith), drop_all 8 ws (omega (arith, all))) refl
    )
