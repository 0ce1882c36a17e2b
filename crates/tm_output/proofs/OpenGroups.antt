-- The open groups, one after the other by rising key.
use Rattle.std.proofs.Common.{◌≡◌, ◌≤◌, ℕ, suc, zero, ◌+◌, ◌-◌, List, [], ◌∷◌, ◌++◌, drop, Option, None, Some, refl, sym, ap, ◌∙◌, append_assoc, append-nil, arith}
use Rattle.std.specs.Prelude.{slice_get}
use Rattle.std.proofs.lemmas.List.{drop-drop}
use Rattle.std.proofs.lemmas.Option.{none-some, same_Some}
use Rattle.tm_packet.specs.declared.tracker.PairEntry.{PairEntry}
use Rattle.tm_packet.specs.declared.tracker.Unclosed.{Unclosed}
use Rattle.tm_packet.specs.Merge.{Entries, next_unclosed_of, unclosed, unclosed_at, unclosed_with}

-- the first open group: its key, and the groups after it
pub record NextOpen (at : ℕ) (entries : Entries) (u : Unclosed) : Type 0 where
  pub from : at ≤ u.key
  pub rest : unclosed at entries ≡ u ∷ unclosed (u.key + 1) (drop (u.key + 1 - at) entries)

later : (at : ℕ) (e : Option PairEntry) (entries : Entries) (u : Unclosed) → unclosed_at at e ≡ [] → NextOpen (at + 1) entries u → NextOpen at (e ∷ entries) u
later at e entries u none next =
    let count : u.key + 1 - at ≡ suc (u.key + 1 - (at + 1)) = omega (arith, next.from) in
    record { from = omega (arith, next.from); rest = rw (none, count) next.rest }

-- the entry of this key has no open group, or it is the first
by_first : (at : ℕ) (last : PairEntry) (es : Entries) (u : Unclosed) (first : Option ℕ) → last.first ≡ first
    → (slice_get (unclosed (at + 1) es) 0 ≡ Some u → NextOpen (at + 1) es u) → slice_get (unclosed at (Some last ∷ es)) 0 ≡ Some u
    → NextOpen at (Some last ∷ es) u
by_first at last es u None e next is =
    let none : unclosed_at at (Some last) ≡ [] = ap (unclosed_with at last.count) e in
    later at (Some last) es u none (next (rw none at is))
by_first at last es u (Some first) e next is =
    let one = ap (unclosed_with at last.count) e in
    let first_is = same_Some _ u (rw one at is) in
    let key : u.key ≡ at = ap (λ (v : Unclosed). v.key) (sym first_is) in
    let count : u.key + 1 - at ≡ suc zero = omega (arith, key) in
    record { from = omega (arith, key); rest = rw (one ∙ ap (λ (v : Unclosed). v ∷ []) first_is, count, key) refl }

pub next_open : (at : ℕ) (entries : Entries) (u : Unclosed) → slice_get (unclosed at entries) 0 ≡ Some u → NextOpen at entries u
next_open at [] u is = absurd (none-some u is)
next_open at (None ∷ es) u is = later at None es u refl (next_open (at + 1) es u is)
next_open at (Some last ∷ es) u is = by_first at last es u last.first refl (next_open (at + 1) es u) is

pub no_first : (us : List Unclosed) → slice_get us 0 ≡ None → us ≡ []
no_first [] is = refl
no_first (u ∷ us) is = absurd (none-some u (sym is))

-- the groups below a key, and those from it on
pub record Parted (entries : Entries) (done : List Unclosed) (at : ℕ) : Type 0 where
  pub parts : unclosed 0 entries ≡ done ++ unclosed at (drop at entries)

pub parted_more : (entries : Entries) (done : List Unclosed) (at : ℕ) (u : Unclosed) → Parted entries done at
    → next_unclosed_of entries at ≡ Some u → Parted entries (done ++ u ∷ []) (u.key + 1)
parted_more entries done at u h is =
    let next = next_open at (drop at entries) u is in
    let count : at + (u.key + 1 - at) ≡ u.key + 1 = omega (arith, next.from) in
    record { parts = rw (h.parts, next.rest, drop-drop (u.key + 1 - at) at entries, count, append_assoc) refl }

pub parted_all : (entries : Entries) (done : List Unclosed) (at : ℕ) → Parted entries done at → next_unclosed_of entries at ≡ None
    → done ≡ unclosed 0 entries
parted_all entries done at h is = rw (h.parts, no_first (unclosed at (drop at entries)) is, append-nil) refl
