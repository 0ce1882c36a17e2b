-- Octets that are copied from a place on.
use Rattle.std.proofs.Common.{◌≡◌, ℕ, ◌+◌, ◌≤◌, List, ◌++◌, length, take, drop, sym, ap, ◌∙◌, take-append-drop, length-take-le, arith, length-drop}
use Rattle.std.proofs.lemmas.List.{drop-drop}
use Rattle.std.proofs.Math.Seq.{take-append_seam}

-- n octets from a place on, copied to the front of a buffer, and those after them
pub copied_front : (xs new rest : List ℕ) (at n : ℕ) → at + n ≤ length xs → new ≡ take n (drop at xs) → drop at xs ≡ take n (new ++ rest) ++ drop (at + n) xs
copied_front xs new rest at n within e =
    let left = length-drop at xs in
    let size : length new ≡ n = ap length e ∙ length-take-le n (drop at xs) (omega (arith, left)) in
    let front : take n (new ++ rest) ≡ new = ap (λ m. take m (new ++ rest)) (sym size) ∙ take-append_seam new rest in
    sym (take-append-drop n (drop at xs)) ∙ ap (λ l. l ++ drop n (drop at xs)) (sym e ∙ sym front) ∙ ap (λ l. take n (new ++ rest) ++ l) (drop-drop n at xs)
