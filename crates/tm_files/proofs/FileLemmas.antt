-- A file that is read up to a limit.
use Rattle.std.proofs.Common.{◌≡◌, ◌<◌, ℕ, List, [], ◌++◌, length, take, take_all, length-take, min, ap, ◌∙◌, arith, Option, None, Some, IfSome, option_map}

-- less than the limit is all
pub short_whole : (o : Option (List ℕ)) (limit : ℕ) (start octets : List ℕ) → start ≡ [] → IfSome (option_map (take limit) o) (λ xs. octets ≡ start ++ xs)
    → length octets < limit → IfSome o (λ all. octets ≡ all)
short_whole None limit start octets empty h short = tt
short_whole (Some all) limit start octets empty h short =
    let front : octets ≡ take limit all = h ∙ ap (λ (l : List ℕ). l ++ take limit all) empty in
    let size : length octets ≡ min limit (length all) = ap length front ∙ length-take limit all in
    front ∙ take_all limit all (omega (arith, size))
