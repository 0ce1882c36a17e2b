-- A word of 64 bits divided by shifts.
use Rattle.std.proofs.Common.{◌≡◌, ℕ, ◌*◌, ◌/◌, ◌%◌, ◌^◌, ◌<◌, true, [], ◌∷◌, refl, sym, ap, ap₂, ◌∙◌}
use Rattle.std.specs.Prelude.{bit_and, bit_xor}
use Rattle.std.proofs.lemmas.Nat.{and_mask, xor_mod}
use Rattle.tm_bits.specs.Bits.{low_bits, number}
use Rattle.tm_frame.specs.ErrorControl.{subtract, long_division}
use Rattle.tm_frame.specs.code.Folding.{remainder_from, words_remainder}
use Rattle.tm_frame.proofs.FoldWords.{bits_of_words-one}
use Rattle.tm_frame.proofs.Linear.{IsLinear, agree, linear_agree, same_linear, sum_linear, after_linear, shr_linear, shl_linear, bits_linear}

-- ---- what the code computes of a word

abbrev fourth : ℕ → ℕ
fourth n = bit_xor n (n / 2 ^ 32)

abbrev third : ℕ → ℕ
third n = bit_xor n (bit_xor (n / 2 ^ 16) (n / 2 ^ 44))

abbrev second : ℕ → ℕ
second n = bit_xor n (bit_xor (bit_xor (n / 2 ^ 8) (n / 2 ^ 22)) (n / 2 ^ 32))

abbrev first : ℕ → ℕ
first n = bit_xor n (bit_xor (bit_xor (n / 2 ^ 4) (n / 2 ^ 11)) (n / 2 ^ 16))

-- the lowest 16 bits of the generator times the number
abbrev multiplied : ℕ → ℕ
multiplied n = bit_xor (bit_xor (bit_and n 65535) (bit_and n 65535 * 2 ^ 5 % 2 ^ 16)) (bit_and n 65535 * 2 ^ 12 % 2 ^ 16)

abbrev pub divided : ℕ → ℕ
divided n = multiplied (first (second (third (fourth n))))

-- ---- it is linear

low_linear : IsLinear (λ n. bit_and n 65535)
low_linear = record { joins = λ a b. and_mask (bit_xor a b) 16 ∙ xor_mod a b 16 ∙ sym (ap₂ bit_xor (and_mask a 16) (and_mask b 16)) }

three_linear : (i j k : ℕ) → IsLinear (λ n. bit_xor n (bit_xor (bit_xor (n / 2 ^ i) (n / 2 ^ j)) (n / 2 ^ k)))
three_linear i j k = sum_linear same_linear (sum_linear (sum_linear (shr_linear i) (shr_linear j)) (shr_linear k))

third_linear : IsLinear third
third_linear = sum_linear same_linear (sum_linear (shr_linear 16) (shr_linear 44))

moved_linear : (k : ℕ) → IsLinear (λ n. bit_and n 65535 * 2 ^ k % 2 ^ 16)
moved_linear k = after_linear (shl_linear k 16) low_linear

multiplied_linear : IsLinear multiplied
multiplied_linear = sum_linear (sum_linear low_linear (moved_linear 5)) (moved_linear 12)

divided_linear : IsLinear divided
divided_linear =
    after_linear multiplied_linear
    (after_linear (three_linear 4 11 16) (after_linear (three_linear 8 22 32) (after_linear third_linear (sum_linear same_linear (shr_linear 32)))))

-- ---- it is right for each single bit, and so for each word

bits_agree : agree (λ k. divided (2 ^ k)) (λ k. remainder_from 0 (low_bits 64 (2 ^ k))) 64 ≡ true
unfolding remainder_from number long_division subtract low_bits
bits_agree = refl

bits_divided : (word : ℕ) → word < 2 ^ 64 → divided word ≡ remainder_from 0 (low_bits 64 word)
bits_divided = linear_agree divided (λ n. remainder_from 0 (low_bits 64 n)) divided_linear (bits_linear 64) 64 bits_agree

pub word_divided : (word : ℕ) → word < 2 ^ 64 → divided word ≡ words_remainder (word ∷ [])
word_divided word small = bits_divided word small ∙ ap (remainder_from 0) (sym (bits_of_words-one word))
