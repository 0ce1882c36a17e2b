-- Octets as they are printed: how long they are.
use Rattle.std.proofs.Common.{◌≡◌, ◌+◌, ◌<◌, ◌≤◌, ℕ, List, ◌++◌, length, get_or, take, ap, ◌∙◌, arith, length-append}
use Rattle.std.proofs.lemmas.List.Folds.{length-flat_map-take}
use Rattle.std.specs.List.{flat_map}
use Rattle.tm_bits.specs.Escape.{octet_text}

-- what is written after a text, and the next octet, are no longer than all octets
pub written_within : (octets before items : List ℕ) (i d : ℕ) → i < length octets
    → items ≡ before ++ flat_map octet_text (take i octets)
    → length items + length (octet_text (get_or octets i d)) ≤ length before + length (flat_map octet_text octets)
written_within octets before items i d h e =
    let long : length items ≡ length before + length (flat_map octet_text (take i octets)) =
    ap length e ∙ length-append before (flat_map octet_text (take i octets)) in
    let more = length-flat_map-take octet_text octets i d h in
    omega arith
