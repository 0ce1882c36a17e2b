-- Items that are taken one after the other, and where a room is too small for them.
use Rattle.std.proofs.Common.{◌≡◌, ℕ, ◌+◌, List, [], ◌∷◌, ◌++◌, length, inl, inr, subst, refl, sym, ap, ◌∙◌, append_assoc, length-append, arith}
use Rattle.tm_packet.specs.Merge.{Entries}
use Rattle.tm_items.specs.Item.{Item}
use Rattle.tm_items.specs.Sinks.{RefusesOne, TakesAll}
use Rattle.tm_output.specs.Pieces.{noted, noted_all}
use Rattle.tm_tool.proofs.Running.{noted-append}
use Rattle.tm_feed.specs.declared.event.Event.{Event}
use Rattle.tm_feed.specs.Feeding.{events_of, item_events, item_octets, packed_octets}
use Rattle.tm_feed.specs.States.{Chosen}
use Rattle.tm_feed.specs.code.Sinking.{Lacks, RefusesEvents, SinkState, TakesAsEvents, after_items}
use Rattle.tm_feed.proofs.SinkLemmas.{lacks_longer, lacks_more, more_more, more_none}

-- ---- the events and octets of two lists of items

module _ (chosen : Chosen) where
  pub octets-append : (xs ys : List Item) → packed_octets chosen (xs ++ ys) ≡ packed_octets chosen xs ++ packed_octets chosen ys
  octets-append [] ys = refl
  octets-append (x ∷ xs) ys =
      ap (λ (l : List ℕ). item_octets chosen x ++ l) (octets-append xs ys) ∙ sym (append_assoc (item_octets chosen x) (packed_octets chosen xs) (packed_octets chosen ys))

  pub events-append : (at : ℕ) (e : Entries) (xs ys : List Item) → events_of chosen at e (xs ++ ys)
      ≡ events_of chosen at e xs ++ events_of chosen (at + length (packed_octets chosen xs)) (noted_all e xs) ys
  events-append at e [] ys = ap (λ (n : ℕ). events_of chosen n e ys) (omega arith)
  events-append at e (x ∷ xs) ys =
      let n : ℕ = length (item_octets chosen x) in
      let far : at + n + length (packed_octets chosen xs) ≡ at + length (item_octets chosen x ++ packed_octets chosen xs) =
      omega (arith, length-append (item_octets chosen x) (packed_octets chosen xs)) in
      ap (λ (l : List Event). item_events chosen at e x ++ l) (events-append (at + n) (noted e x) xs ys)
      ∙ rw far refl
      ∙ sym (append_assoc (item_events chosen at e x) (events_of chosen (at + n) (noted e x) xs) _)

-- ---- a sink

pub after_none : (s : SinkState) → after_items s [] ≡ s
after_none s = more_none s

pub after-append : (s : SinkState) (xs ys : List Item) → after_items (after_items s xs) ys ≡ after_items s (xs ++ ys)
after-append s xs ys =
    let chosen : Chosen = s.fixture.chosen in
    let far : length (s.octets ++ packed_octets chosen xs) ≡ length s.octets + length (packed_octets chosen xs) = length-append s.octets (packed_octets chosen xs) in
    more_more s (noted_all s.entries xs) _ _ _ _ _
    ∙ rw (far, events-append chosen (length s.octets) s.entries xs ys, octets-append chosen xs ys, noted-append s.entries xs ys) refl

-- all were taken
pub all_taken : (s t : SinkState) (xs : List Item) → TakesAll TakesAsEvents s xs t → t ≡ after_items s xs
all_taken s t [] same = same ∙ sym (after_none s)
all_taken s t (x ∷ xs) (mid, one, more) = all_taken mid t xs more ∙ ap (λ (m : SinkState). after_items m xs) one ∙ after-append s (x ∷ []) xs

-- one was refused: then a room is too small for all
pub one_lacks : {F : Type 0} (s t : SinkState) (xs : List Item) (fault : F) → RefusesOne TakesAsEvents RefusesEvents s xs fault t
    → Lacks s (events_of s.fixture.chosen (length s.octets) s.entries xs) (packed_octets s.fixture.chosen xs)
one_lacks s t [] fault refused = absurd refused
one_lacks s t (x ∷ xs) fault (inl here) = lacks_longer s _ _ _ _ here
one_lacks s t (x ∷ xs) fault (inr (mid, one, more)) =
    let chosen : Chosen = s.fixture.chosen in
    let first : List Item = x ∷ [] in
    let later = one_lacks mid t xs fault more in
    let there = subst (λ (m : SinkState). Lacks m (events_of m.fixture.chosen (length m.octets) m.entries xs) (packed_octets m.fixture.chosen xs)) one later in
    let far : length (s.octets ++ packed_octets chosen first) ≡ length s.octets + length (packed_octets chosen first) = length-append s.octets (packed_octets chosen first) in
    let all = lacks_more s (noted s.entries x) _ _ _ _ there in
    rw (far, ← events-append chosen (length s.octets) s.entries first xs, ← octets-append chosen first xs) at all
