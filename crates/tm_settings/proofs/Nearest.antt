-- The nearest of some keys, found one key after the other.
use Rattle.std.proofs.Common.{◌≡◌, ◌+◌, ◌<◌, ◌≤◌, ℕ, List, Option, Some, None, length, take, slice_index_or, subst, sym, arith}
use Rattle.std.specs.Prelude.{IfSome, MatchOption}
use Rattle.std.specs.List.{All}
use Rattle.std.proofs.lemmas.List.{take_all}
use Rattle.std.proofs.lemmas.List.Elements.{All-more, All-weaker}
use Rattle.tm_faults.specs.declared.settings.Key.{Key}

-- no key of these is nearer, and the number is that of the nearest, or the limit if none is near
abbrev pub IsNearest : ℕ → (Key → ℕ) → List Key → Option Key → ℕ → Type 0
IsNearest limit f keys nearest least = All (λ other. least ≤ f other) keys × (least ≤ limit) × MatchOption nearest (least ≡ limit) (λ key. (f key ≡ least) × (least < limit))

pub closer : (limit : ℕ) (f : Key → ℕ) (keys : List Key) (i least edits : ℕ) (nearest : Option Key) (key d : Key) → i < length keys → edits ≡ f key
    → key ≡ slice_index_or keys i d → edits < least → IsNearest limit f (take i keys) nearest least → IsNearest limit f (take (i + 1) keys) (Some key) edits
closer limit f keys i least edits nearest key d below is at less (all, most, _) = (
  All-more (λ (other : Key). edits ≤ f other) keys i d below
      (All-weaker (λ (other : Key). least ≤ f other) (λ (other : Key). edits ≤ f other) (λ other h. omega (arith, h, less)) (take i keys) all)
      (rw (← at) (omega (arith, is))),
  omega (arith, less, most),
  (sym is, omega (arith, less, most)),
)

pub farther : (limit : ℕ) (f : Key → ℕ) (keys : List Key) (i least edits : ℕ) (nearest : Option Key) (key d : Key) → i < length keys → edits ≡ f key
    → key ≡ slice_index_or keys i d → least ≤ edits → IsNearest limit f (take i keys) nearest least → IsNearest limit f (take (i + 1) keys) nearest least
farther limit f keys i least edits nearest key d below is at more (all, most, rest) =
    (All-more (λ (other : Key). least ≤ f other) keys i d below all (rw (← at) (omega (arith, is, more))), most, rest)

-- all keys were gone over
pub all_over : (limit : ℕ) (f : Key → ℕ) (keys : List Key) (i least : ℕ) (nearest : Option Key) → length keys ≤ i → IsNearest limit f (take i keys) nearest least → IsNearest limit f keys nearest least
all_over limit f keys i least nearest enough h = subst (λ (all : List Key). IsNearest limit f all nearest least) (take_all i keys enough) h

pub none_nearer : (limit : ℕ) (f : Key → ℕ) (keys : List Key) (nearest : Option Key) (least : ℕ) → IsNearest limit f keys nearest least
    → IfSome nearest (λ key. All (λ other. f key ≤ f other) keys)
none_nearer limit f keys None least h = tt
none_nearer limit f keys (Some key) least (all, most, (is, few)) =
    All-weaker (λ (other : Key). least ≤ f other) (λ (other : Key). f key ≤ f other) (λ other h. omega (arith, h, is)) keys all

pub none_near : (limit : ℕ) (f : Key → ℕ) (keys : List Key) (nearest : Option Key) (least : ℕ) → IsNearest limit f keys nearest least → nearest ≡ None
    → All (λ other. limit ≤ f other) keys
none_near limit f keys None least (all, most, is) e = All-weaker (λ (other : Key). least ≤ f other) (λ (other : Key). limit ≤ f other) (λ other h. omega (arith, h, is)) keys all
none_near limit f keys (Some key) least h e = absurd cc
