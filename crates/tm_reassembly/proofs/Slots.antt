-- The slots of the channels: what is kept in each, and its limit.
use Rattle.std.proofs.Common.{◌≡◌, ℕ, suc, zero, ◌+◌, ◌*◌, ◌<◌, min, Option, Some, List, [], ◌∷◌, ◌++◌, length, take, drop, refl, sym, ap, subst, ◌∙◌, arith}
use Rattle.std.specs.Prelude.{slice_index_or, slice_set}
use Rattle.std.specs.List.{flat_map, slice_get}
use Rattle.std.proofs.lemmas.List.{append-nil, drop_more, length-append, length-map, map-set, take_more}
use Rattle.std.proofs.lemmas.Option.{slice_get-get_or}
use Rattle.std.proofs.lemmas.List.Concat.{flat_map-append}
use Rattle.tm_reassembly.specs.Checkpoint.{block}
use Rattle.tm_reassembly.specs.Items.{close_last, close_channels}
use Rattle.tm_reassembly.specs.code.Slots.{Slot, HaveLimit, IsFor, lasts, capacities}
use Rattle.tm_reassembly.specs.State.{Last}

-- what is kept in a slot
pub last_at : (slots : List Slot) (c : ℕ) (d : Slot) → slice_index_or (lasts slots) c d.last ≡ (slice_index_or slots c d).last
last_at [] c d = refl
last_at (x ∷ xs) zero d = refl
last_at (x ∷ xs) (suc c) d = last_at xs c d

pub lasts_set : (slots : List Slot) (c : ℕ) (x : Slot) → lasts (slice_set slots c x) ≡ slice_set (lasts slots) c x.last
lasts_set slots c x = map-set (λ (y : Slot). y.last) slots c x

pub lasts_length : (slots : List Slot) → length (lasts slots) ≡ length slots
lasts_length slots = length-map slots (λ x. x.last)

-- the limits
pub limit_at : (limit : ℕ) (slots : List Slot) (c : ℕ) (d : Slot) → HaveLimit limit slots → c < length slots → IsFor limit (slice_index_or slots c d)
limit_at limit slots c d h inside = h c (slice_index_or slots c d) (slice_get-get_or slots c d inside)

pub limit_set : (limit : ℕ) (slots : List Slot) (c : ℕ) (x : Slot) → HaveLimit limit slots → IsFor limit x → HaveLimit limit (slice_set slots c x)
limit_set limit slots c x h e = λ i y f. at slots c i y (λ y f. h i y f) f
  where
    at : (slots : List Slot) (c i : ℕ) (y : Slot) → ((z : Slot) → slice_get slots i ≡ Some z → IsFor limit z) → slice_get (slice_set slots c x) i ≡ Some y → IsFor limit y
    at (z ∷ zs) zero zero y k f = let same : x ≡ y = cc in subst (IsFor limit) same e
    at (z ∷ zs) (suc c) (suc i) y k f = at zs c i y k f
    at zs c i y k f = k y f

-- the room of them all
capacities_are : (limit : ℕ) (slots : List Slot) → HaveLimit limit slots → capacities slots ≡ length slots * limit
capacities_are limit [] h = omega arith
capacities_are limit (x ∷ xs) h =
    let here : min x.limit x.capacity ≡ limit = omega (arith, (h 0 x refl).0, (h 0 x refl).1) in
    let others : capacities xs ≡ length xs * limit = capacities_are limit xs (λ c y e. h (suc c) y e) in
    omega (arith, here, others)

pub capacities_of_eight : (limit : ℕ) (slots : List Slot) → HaveLimit limit slots → length (lasts slots) ≡ 8 → capacities slots ≡ 8 * limit
capacities_of_eight limit slots h eight =
    let all : length slots ≡ 8 = sym (lasts_length slots) ∙ eight in
    capacities_are limit slots h ∙ ap (λ (n : ℕ). n * limit) all

drop_last : (slots : List Slot) (c : ℕ) (d : Slot) → c < length slots → drop c (lasts slots) ≡ (slice_index_or slots c d).last ∷ drop (c + 1) (lasts slots)
drop_last slots c d h =
    drop_more (lasts slots) c d.last (omega (arith, lasts_length slots))
    ∙ ap (λ (x : Option Last). x ∷ drop (c + 1) (lasts slots)) (last_at slots c d)

-- closed one by one
pub close_more : (seen i : ℕ) (slots : List Slot) (d : Slot) → i < length slots
    → close_channels seen i (drop i (lasts slots)) ≡ close_last seen i (slice_index_or slots i d).last ++ close_channels seen (i + 1) (drop (i + 1) (lasts slots))
close_more seen i slots d h = ap (close_channels seen i) (drop_last slots i d h)

-- spelled one by one
pub spelled_more : (slots : List Slot) (c : ℕ) (d : Slot) → c < length slots
    → flat_map block (take (c + 1) (lasts slots)) ≡ flat_map block (take c (lasts slots)) ++ block (slice_index_or slots c d).last
spelled_more slots c d h =
    ap (flat_map block) (take_more (lasts slots) c d.last (omega (arith, lasts_length slots)))
    ∙ simp (flat_map-append, append-nil, last_at slots c d)

pub more_length : (slots : List Slot) (c : ℕ) (d : Slot) → c < length slots
    → length (flat_map block (take (c + 1) (lasts slots))) ≡ length (flat_map block (take c (lasts slots))) + length (block (slice_index_or slots c d).last)
more_length slots c d h = ap length (spelled_more slots c d h) ∙ length-append _ _

pub spelled_rest : (slots : List Slot) (c : ℕ) (d : Slot) → c < length slots
    → flat_map block (drop c (lasts slots)) ≡ block (slice_index_or slots c d).last ++ flat_map block (drop (c + 1) (lasts slots))
spelled_rest slots c d h = ap (flat_map block) (drop_last slots c d h)

pub rest_length : (slots : List Slot) (c : ℕ) (d : Slot) → c < length slots
    → length (flat_map block (drop c (lasts slots))) ≡ length (block (slice_index_or slots c d).last) + length (flat_map block (drop (c + 1) (lasts slots)))
rest_length slots c d h = ap length (spelled_rest slots c d h) ∙ length-append _ _
