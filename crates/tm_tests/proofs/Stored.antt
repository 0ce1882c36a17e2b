-- One put more, and one that is refused.
use Rattle.std.proofs.Common.{◌≡◌, ◌==◌, ◌<◌, ℕ, Bool, true, false, List, [], ◌∷◌, ◌++◌, Option, None, Some, length, take, drop, refl, sym, ap, ◌∙◌, append-nil, append_assoc, take-append-drop, length-drop, arith}
use Rattle.std.specs.Prelude.{if◌then◌else◌}
use Rattle.tm_tests.specs.declared.memory.Put.{Put}
use Rattle.tm_tests.specs.Stored.{of_put, stored}
use Rattle.tm_devices.specs.Devices.{Puts, PutsPrefix}

pub stored_one : (ps : List Put) (p : Put) (k : ℕ) → stored (ps ++ p ∷ []) k ≡ stored ps k ++ (if p.application == k then p.octets.items else [])
stored_one [] p k = append-nil (of_put k p)
stored_one (q ∷ ps) p k = ap (λ (l : List ℕ). of_put k q ++ l) (stored_one ps p k) ∙ sym (append_assoc (of_put k q) (stored ps k) (of_put k p))

nothing : (b : Bool) (xs : List ℕ) → xs ≡ xs ++ (if b then [] else [])
nothing true xs = sym (append-nil xs)
nothing false xs = sym (append-nil xs)

pub put_none : (kept : Option (ℕ → List ℕ)) (application : ℕ) (octets : List ℕ) → PutsPrefix kept kept application octets
put_none None application octets = ([], octets, refl, λ some. some, tt)
put_none (Some f) application octets = ([], octets, refl, λ some. some, λ k. nothing (application == k) (f k))

-- a refused put that leaves some octets, not all
pub put_front : (f g : ℕ → List ℕ) (application : ℕ) (octets : List ℕ) (n : ℕ) → n < length octets → Puts (Some f) (Some g) application (take n octets)
    → PutsPrefix (Some f) (Some g) application octets
put_front f g application octets n less puts =
    let left : 0 < length (drop n octets) = omega (arith, length-drop n octets) in
    (take n octets, drop n octets, sym (take-append-drop n octets), λ some none. absurd (omega (arith, left, ap (λ (l : List ℕ). length l) none)), puts)
