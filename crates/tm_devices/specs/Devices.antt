-- What the calls of a device do to its octets and to its count of failures.
use Rattle.std.specs.Prelude.{◌≡◌, ◌≢◌, ⊤, ◌+◌, ◌-◌, ◌^◌, ◌<◌, ◌≤◌, ◌==◌, Bool, ℕ, min, List, [], ◌++◌, length, Option, None, Some, Result, Ok, Err, true, false, MatchResult, IfSome, if◌then◌else◌}
use Rattle.std.specs.Io.KnownBytes.{Appends, Consumes}

-- the greatest count
abbrev pub greatest : ℕ
greatest = 2 ^ 64 - 1

-- a count that rises by one and stays at its greatest value
abbrev pub raised : ℕ → ℕ
raised n = min (n + 1) greatest

-- each Err raises the count, and nothing else does
abbrev pub CountsFailures : {T E : Type 0} → ℕ → ℕ → Result T E → Type 0
CountsFailures old new r = MatchResult r (λ _. new ≡ old) (λ _. new ≡ raised old)

-- n octets of so many, at least one if there is one
abbrev pub TakesSome : ℕ → ℕ → Type 0
TakesSome n all = (n ≤ all) × (0 < all → 0 < n)

-- so many known octets were passed over, or nothing changed
abbrev pub PassesOver : {E : Type 0} → Option (List ℕ) → Option (List ℕ) → ℕ → Result Bool E → Type 0
PassesOver old new n (Ok true) = (octets : List ℕ) × (length octets ≡ n) × Consumes old new octets
PassesOver old new n (Ok false) = new ≡ old
PassesOver old new n (Err e) = new ≡ old

-- a known position moved on by so many octets, or stayed
abbrev pub HasMoved : Option ℕ → Option ℕ → ℕ → Bool → Type 0
HasMoved old new n did = IfSome old (λ at. new ≡ Some (if did then at + n else at))

-- there are so many octets after a known position, where all are known
abbrev pub AreAhead : Option ℕ → Option (List ℕ) → ℕ → Type 0
AreAhead position all n = IfSome position (λ at. IfSome all (λ octets. at + n ≤ length octets))

-- known octets grew by a prefix of these, by a proper one if there are any
abbrev pub AppendsPrefix : Option (List ℕ) → Option (List ℕ) → List ℕ → Type 0
AppendsPrefix old new octets = (prefix rest : List ℕ) × (octets ≡ prefix ++ rest) × (octets ≢ [] → rest ≢ []) × Appends old new prefix

-- known places grow by octets of one application, and no other place changes
abbrev pub Puts : Option (ℕ → List ℕ) → Option (ℕ → List ℕ) → ℕ → List ℕ → Type 0
Puts None new application octets = ⊤
Puts (Some held) None application octets = ⊥
Puts (Some held) (Some now) application octets = (k : ℕ) → now k ≡ held k ++ (if application == k then octets else [])

-- likewise by a prefix of them
abbrev pub PutsPrefix : Option (ℕ → List ℕ) → Option (ℕ → List ℕ) → ℕ → List ℕ → Type 0
PutsPrefix old new application octets = (prefix rest : List ℕ) × (octets ≡ prefix ++ rest) × (octets ≢ [] → rest ≢ []) × Puts old new application prefix

-- known places stay as they are
abbrev pub PutsNone : Option (ℕ → List ℕ) → Option (ℕ → List ℕ) → Type 0
PutsNone old new = new ≡ old
