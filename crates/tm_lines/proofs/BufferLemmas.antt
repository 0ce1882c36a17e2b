-- How many octets numbers and words have, and what a buffer holds after it was written.
use Rattle.std.proofs.Common.{◌≡◌, ℕ, ◌+◌, ◌-◌, ◌<◌, ◌≤◌, ◌^◌, zero, suc, List, [], ◌∷◌, ◌++◌, length, take, drop, get_or, set, refl, sym, ap, ◌∙◌, arith, length-drop}
use Rattle.std.specs.Fmt.{decimal}
use Rattle.std.proofs.lemmas.Fmt.{decimal_digit, length-decimal-le}
use Rattle.std.proofs.lemmas.List.{drop-append-le, drop-drop, drop-set, drop-set-add, drop-take, drop_all, take_at}
use Rattle.tm_frame.specs.declared.fault.FrameFault.{FrameFault}
use Rattle.tm_frame.specs.declared.fault.FrameFault.TheVariants.{Crc, Version, Spacecraft, SecondaryFlag, OcfFlag, SecondaryVersion, Layout, Pointer}
use Rattle.tm_frame.specs.FaultWords.{fault_word}
use Rattle.tm_items.specs.declared.items.Reason.{Reason}
use Rattle.tm_items.specs.declared.items.Reason.TheVariants as reason
use Rattle.tm_items.specs.Reasons.{reason_word}

pub ten_digits : (n : ℕ) → n < 2 ^ 32 → length (decimal n) ≤ 10
ten_digits n small = length-decimal-le 10 n (omega arith) (omega arith) (omega arith)

pub twenty_digits : (n : ℕ) → n < 2 ^ 64 → length (decimal n) ≤ 20
twenty_digits n small = length-decimal-le 20 n (omega arith) (omega arith) (omega arith)

pub short_fault_word : (fault : FrameFault) → length (fault_word fault) ≤ 17
short_fault_word Crc = omega arith
short_fault_word Version = omega arith
short_fault_word Spacecraft = omega arith
short_fault_word SecondaryFlag = omega arith
short_fault_word OcfFlag = omega arith
short_fault_word SecondaryVersion = omega arith
short_fault_word Layout = omega arith
short_fault_word Pointer = omega arith

pub short_reason_word : (why : Reason) → length (reason_word why) ≤ 8
short_reason_word reason.Pointer = omega arith
short_reason_word reason.Gap = omega arith
short_reason_word reason.Vca = omega arith
short_reason_word reason.Close = omega arith
short_reason_word reason.NoStart = omega arith
short_reason_word reason.Version = omega arith
short_reason_word reason.Length = omega arith

-- after the last octet of a buffer there is none
pub nothing_behind : (buffer : List ℕ) → length buffer ≡ 320 → drop 320 buffer ≡ []
nothing_behind buffer e = drop_all 320 buffer (omega arith)

-- how many octets stand after a place of a buffer
pub behind_begin : (begin : ℕ) (buffer : List ℕ) → length buffer ≡ 320 → length (drop begin buffer) ≡ 320 - begin
behind_begin begin buffer e = omega (arith, length-drop begin buffer)

-- the end of a buffer whose last octet was set
pub last_set : (buffer : List ℕ) (last octet : ℕ) → length buffer ≡ last + 1 → drop last (set buffer last octet) ≡ octet ∷ []
last_set [] last octet e = absurd (omega arith)
last_set (x ∷ []) zero octet e = refl
last_set (x ∷ y ∷ buffer) zero octet e = absurd (omega arith)
last_set (x ∷ buffer) (suc last) octet e = last_set buffer last octet (omega arith)

-- a digit in front of what stands in a buffer
pub digit_before : (buffer : List ℕ) (begin digit : ℕ) → begin < length buffer → digit < 10 → drop begin (set buffer begin (48 + digit)) ≡ decimal digit ++ drop (begin + 1) buffer
digit_before buffer begin digit h small = drop-set buffer begin (48 + digit) h ∙ ap (λ (l : List ℕ). l ++ drop (begin + 1) buffer) (sym (decimal_digit digit small))

-- a further octet of a text in its place, before what was there
prepend_step : (text old : List ℕ) (i : ℕ) → i < length text → i < length old
    → set (take i text ++ drop i old) i (get_or text i 0) ≡ take (suc i) text ++ drop (suc i) old
prepend_step [] old i h k = absurd (omega arith)
prepend_step (t ∷ text) [] i h k = absurd (omega arith)
prepend_step (t ∷ text) (o ∷ old) zero h k = refl
prepend_step (t ∷ text) (o ∷ old) (suc i) h k = ap (λ (l : List ℕ). t ∷ l) (prepend_step text old i (omega arith) (omega arith))

pub prepend_more : (buffer old text : List ℕ) (begin i : ℕ) → drop begin buffer ≡ take i text ++ drop (begin + i) old → i < length text → begin + i < length old
    → drop begin (set buffer (begin + i) (get_or text i 0)) ≡ take (i + 1) text ++ drop (begin + (i + 1)) old
prepend_more buffer old text begin i is h k =
    let octet : ℕ = get_or text i 0 in
    let long : i < length (drop begin old) = omega (arith, length-drop begin old) in
    let next : i + 1 ≡ suc i = omega arith in
    drop-set-add begin buffer i octet
    ∙ ap (λ (l : List ℕ). set l i octet) (is ∙ ap (λ (l : List ℕ). take i text ++ l) (sym (drop-drop i begin old)))
    ∙ prepend_step text (drop begin old) i h long
    ∙ ap (λ (l : List ℕ). take (suc i) text ++ l) (drop-drop (suc i) begin old)
    ∙ ap (λ (n : ℕ). take n text ++ drop (begin + n) old) (sym next)

-- what is left of a kept text after the octets to skip, in front of what was there
pub kept_before : (buffer kept old text : List ℕ) (begin skipped : ℕ) → drop begin buffer ≡ kept ++ old → drop skipped kept ≡ text → skipped ≤ length kept
    → drop (begin + skipped) buffer ≡ text ++ old
kept_before buffer kept old text begin skipped is rest h =
    sym (drop-drop skipped begin buffer)
    ∙ ap (λ (l : List ℕ). drop skipped l) is
    ∙ drop-append-le skipped kept old h
    ∙ ap (λ (l : List ℕ). l ++ old) rest

-- a text in front of what was there, as it stands at the end of the 64 octets before what was there
pub text_kept : (buffer old text : List ℕ) (begin end : ℕ) → drop begin buffer ≡ text ++ old → begin + length text ≡ end → 64 ≤ end → length text ≤ 64
    → drop (64 - (end - begin)) (take (end - (end - 64)) (drop (end - 64) buffer)) ≡ text
text_kept buffer old text begin end is e room short =
    let n : ℕ = length text in
    let skipped : 64 - (end - begin) ≡ 64 - n = omega arith in
    let whole : end - (end - 64) ≡ 64 - n + n = omega arith in
    let place : end - 64 + (64 - n) ≡ begin = omega arith in
    ap (λ (k : ℕ). drop k (take (end - (end - 64)) (drop (end - 64) buffer))) skipped
    ∙ ap (λ (k : ℕ). drop (64 - n) (take k (drop (end - 64) buffer))) whole
    ∙ drop-take (64 - n) n (drop (end - 64) buffer)
    ∙ ap (λ (l : List ℕ). take n l) (drop-drop (64 - n) (end - 64) buffer ∙ ap (λ (k : ℕ). drop k buffer) place ∙ is)
    ∙ take_at text old n refl
