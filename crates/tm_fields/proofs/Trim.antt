-- Octets without the blanks at an end.
use Rattle.std.proofs.Common.{◌≡◌, ℕ, zero, suc, ◌+◌, true, false, List, [], ◌∷◌, length, get_or, take, refl, ap, arith}
use Rattle.tm_fields.specs.Values.{before_rest, is_blank, without_back}

pub back_more : (xs : List ℕ) (n : ℕ) → length xs ≡ n + 1 → is_blank (get_or xs n 0) ≡ true → without_back (take n xs) ≡ without_back xs
back_more (x ∷ []) zero e b = rw b refl
back_more (x ∷ xs) (suc n) e b = ap (before_rest x) (back_more xs n (omega arith) b)
back_more _ _ e b = absurd (omega arith)

pub back_stays : (xs : List ℕ) (n : ℕ) → length xs ≡ n + 1 → is_blank (get_or xs n 0) ≡ false → without_back xs ≡ xs
back_stays (x ∷ []) zero e b = rw b refl
back_stays (x ∷ y ∷ xs) (suc n) e b = ap (before_rest x) (back_stays (y ∷ xs) n (omega arith) b)
back_stays _ _ e b = absurd (omega arith)
