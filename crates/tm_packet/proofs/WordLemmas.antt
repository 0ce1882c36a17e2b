-- The words of a header, and its fields.
use Rattle.std.proofs.Common.{◌≡◌, ℕ, zero, suc, ◌+◌, ◌*◌, ◌/◌, ◌%◌, ◌<◌, Bool, true, false, ◌==◌, refl, arith}
use Rattle.tm_bits.specs.Bits.{digit}
use Rattle.tm_packet.specs.declared.header.Flags.{Flags}
use Rattle.tm_packet.specs.declared.header.Flags.TheVariants as flag
use Rattle.tm_packet.specs.declared.header.Header.TheInside.{Inside}
use Rattle.tm_packet.specs.Header.{AreInRange, Fields, flags_of, flags_number}
use Rattle.tm_packet.specs.code.Headers.{AreWords, header_fields, header_words}

-- a bit as a number
digit_of : (n : ℕ) → n < 2 → digit (n == 1) ≡ n
digit_of zero small = refl
digit_of (suc zero) small = refl
digit_of (suc (suc n)) small = absurd (omega arith)

bit_of : (b : Bool) → (digit b == 1) ≡ b
bit_of true = refl
bit_of false = refl

number_of_flags : (n : ℕ) → n < 4 → flags_number (flags_of n) ≡ n
number_of_flags zero small = refl
number_of_flags (suc zero) small = refl
number_of_flags (suc (suc zero)) small = refl
number_of_flags (suc (suc (suc zero))) small = refl
number_of_flags (suc (suc (suc (suc n)))) small = absurd (omega arith)

pub flags_of_number : (f : Flags) → flags_of (flags_number f) ≡ f
flags_of_number flag.Continuation = refl
flags_of_number flag.First = refl
flags_of_number flag.Last = refl
flags_of_number flag.Unsegmented = refl

-- words of version 0
pub are_words : (h : Inside) → h.identification < 8192 → h.sequence < 65536 → h.data_length < 65536 → AreWords h
are_words h version small few = record {
  version = version;
  length = few;
  back =
      let i : (digit (h.identification / 4096 == 1) * 2 + digit (h.identification / 2048 % 2 == 1)) * 2048 + h.identification % 2048 ≡ h.identification =
      omega (arith, version, digit_of (h.identification / 4096) (omega (arith, version)), digit_of (h.identification / 2048 % 2) (omega arith)) in
      let s : flags_number (flags_of (h.sequence / 16384)) * 16384 + h.sequence % 16384 ≡ h.sequence =
      omega (arith, number_of_flags (h.sequence / 16384) (omega (arith, small))) in
      rw (i, s) refl;
}

-- numbers within their bits
digit_below : (b : Bool) → digit b < 2
digit_below true = omega arith
digit_below false = omega arith

pub few_flags : (f : Flags) → flags_number f < 4
few_flags flag.Continuation = omega arith
few_flags flag.First = omega arith
few_flags flag.Last = omega arith
few_flags flag.Unsegmented = omega arith

-- words that were made of fields give them back
pub fields_back : (v : Fields) → v.application < 2048 → v.count < 16384 → header_fields (header_words v) ≡ v
fields_back v small few =
    let t = digit_below v.telecommand in
    let s = digit_below v.secondary in
    let i : ℕ = (digit v.telecommand * 2 + digit v.secondary) * 2048 + v.application in
    let n : ℕ = flags_number v.flags * 16384 + v.count in
    let first : i / 4096 ≡ digit v.telecommand = omega arith in
    let second : i / 2048 % 2 ≡ digit v.secondary = omega arith in
    let third : i % 2048 ≡ v.application = omega arith in
    let fourth : n / 16384 ≡ flags_number v.flags = omega arith in
    let fifth : n % 16384 ≡ v.count = omega arith in
    rw (first, second, third, fourth, fifth, bit_of v.telecommand, bit_of v.secondary, flags_of_number v.flags) refl

-- the fields are in range
pub in_range : (h : Inside) → AreWords h → AreInRange (header_fields h)
in_range h are = record { application = omega arith; count = omega arith; data_length = are.length }

pub ruleset words = (are_words, fields_back)
