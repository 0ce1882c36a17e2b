-- Octet by octet: a register moves on by the entry of one octet.
use Rattle.std.proofs.Common.{◌≡◌, ℕ, ◌+◌, ◌*◌, ◌/◌, ◌%◌, ◌^◌, ◌<◌, true, false, List, [], ◌∷◌, ◌++◌, length, take, get_or, refl, sym, ap, ◌∙◌, arith}
use Rattle.std.specs.Prelude.{replicate, bit_xor, slice_index}
use Rattle.std.specs.Int.Bits.{xor_assoc}
use Rattle.std.proofs.lemmas.List.{take_all, take_more}
use Rattle.tm_bits.specs.Bits.{low_bits, bits_of, number}
use Rattle.tm_bits.proofs.BitLemmas.{bits_of-append, bits_of-one}
use Rattle.tm_frame.specs.declared.table.TheConstants.{TABLE}
use Rattle.tm_frame.specs.ErrorControl.{subtract, long_division, table_entry_of}
use Rattle.tm_frame.specs.code.Folding.{remainder_from}
use Rattle.tm_frame.proofs.Division.{subtract-zeros, remainder_from-nil, remainder_from-append, error_control_of-remainder}
use Rattle.tm_frame.proofs.Linear.{agree, agree_at, linear_agree, sum_linear, after_linear, shr_linear, shl_linear, passed_linear, bits_linear, remainder_from-apart}

table_entry_of-is : (octet : ℕ) → table_entry_of octet ≡ remainder_from 0 (low_bits 8 octet)
unfolding table_entry_of remainder_from bits_of low_bits
table_entry_of-is octet = ap (λ l. number (long_division 8 l)) (sym (subtract-zeros 16 (low_bits 8 octet ++ replicate 16 false)))

-- computed: each of the 256 octets is divided
table_agrees : agree (slice_index TABLE) table_entry_of 256 ≡ true
unfolding table_entry_of number long_division subtract bits_of low_bits
table_agrees = refl

pub table_is : (octet : ℕ) → octet < 256 → table_entry_of octet ≡ slice_index TABLE octet
table_is octet small = sym (agree_at (slice_index TABLE) table_entry_of 256 octet table_agrees small)

-- a register's high half chooses the entry, and the low half goes eight bits to the front
halves_agree : agree (λ k. bit_xor (2 ^ k * 2 ^ 8 % 2 ^ 16) (remainder_from 0 (low_bits 8 (2 ^ k / 2 ^ 8)))) (λ k. remainder_from (2 ^ k) (replicate 8 false)) 16 ≡ true
unfolding remainder_from number long_division subtract low_bits
halves_agree = refl

-- the octet is added to the high half
pub octet_by_entry : (register octet : ℕ) → register < 2 ^ 16 → octet < 2 ^ 8
    → bit_xor (register * 2 ^ 8 % 2 ^ 16) (table_entry_of (bit_xor (register / 2 ^ 8) octet)) ≡ remainder_from register (low_bits 8 octet)
unfolding low_bits
octet_by_entry register octet fits small =
    let front : ℕ = register * 2 ^ 8 % 2 ^ 16 in
    let entry : ℕ → ℕ = λ n. remainder_from 0 (low_bits 8 n) in
    ap (bit_xor front) (table_entry_of-is (bit_xor (register / 2 ^ 8) octet) ∙ (bits_linear 8).joins (register / 2 ^ 8) octet)
    ∙ sym (xor_assoc front (entry (register / 2 ^ 8)) (entry octet))
    ∙ ap (λ n. bit_xor n (entry octet))
    (linear_agree (λ n. bit_xor (n * 2 ^ 8 % 2 ^ 16) (remainder_from 0 (low_bits 8 (n / 2 ^ 8)))) (λ n. remainder_from n (replicate 8 false))
    (sum_linear (shl_linear 8 16) (after_linear (bits_linear 8) (shr_linear 8))) (passed_linear 8) 16 halves_agree register fits)
    ∙ sym (remainder_from-apart register (low_bits 8 octet))

-- the register after no octet, after one octet more, and after the last
pub octets_none : remainder_from 65535 (bits_of []) ≡ 65535
unfolding bits_of
octets_none = remainder_from-nil 65535 (omega arith)

pub octets_step : (octets : List ℕ) (i : ℕ) → i < length octets
    → remainder_from 65535 (bits_of (take (i + 1) octets)) ≡ remainder_from (remainder_from 65535 (bits_of (take i octets))) (low_bits 8 (get_or octets i 0))
octets_step octets i inside =
    let x : ℕ = get_or octets i 0 in
    rw (take_more octets i 0 inside, bits_of-append (take i octets) (x ∷ []), bits_of-one x, remainder_from-append 65535 (bits_of (take i octets)) (low_bits 8 x)) refl

pub ruleset octet_by_octet = (octets_none, octets_step, take_all, error_control_of-remainder)
