-- Octets as they are shown, by whether they are UTF-8.
use Rattle.std.proofs.Common.{◌≡◌, ◌∙◌, ℕ, List, sym, ap, if◌then◌else◌, IsUtf8}
use Rattle.std.proofs.lemmas.Bool.{false_from_ne_true}
use Rattle.std.proofs.lemmas.Str.{IsUtf8-from_is_utf8, is_utf8-from_IsUtf8}
use Rattle.std.specs.List.{flat_map}
use Rattle.std.specs.Str.{chars, is_utf8}
use Rattle.tm_bits.specs.Escape.{escaped}
use Rattle.tm_faults.specs.Explanations.{shown, shown_text}

-- octets that are UTF-8 are shown by the characters of their text
pub shown_by_characters : (text octets : List ℕ) → text ≡ octets → IsUtf8 octets → flat_map shown (chars text) ≡ shown_text octets
shown_by_characters text octets same utf8 =
    ap (λ t. flat_map shown (chars t)) same
    ∙ sym (ap (λ b. if b then flat_map shown (chars octets) else escaped octets) (is_utf8-from_IsUtf8 octets utf8))

-- other octets are shown as octets that may be anything
pub shown_by_octets : (octets : List ℕ) → (IsUtf8 octets → ⊥) → escaped octets ≡ shown_text octets
shown_by_octets octets other =
    let none = false_from_ne_true (is_utf8 octets) (λ is. other (IsUtf8-from_is_utf8 octets is)) in
    sym (ap (λ b. if b then flat_map shown (chars octets) else escaped octets) none)
