-- Octets that are done, given as zeros.
use Rattle.std.proofs.Common.{◌≡◌, ◌≤◌, ℕ, ◌+◌, ◌-◌, List, ◌++◌, replicate, refl, append_assoc, arith}
use Rattle.std.proofs.lemmas.List.{replicate-append-replicate}

-- some of them first
pub zeros_first : (n more : ℕ) (octets : List ℕ) → n ≤ more → replicate more 0 ++ octets ≡ replicate n 0 ++ (replicate (more - n) 0 ++ octets)
zeros_first n more octets few =
    let counted : n + (more - n) ≡ more = omega (arith, few) in
    rw (← append_assoc (replicate n 0) (replicate (more - n) 0) octets, replicate-append-replicate {A = ℕ} n (more - n) 0, counted) refl
