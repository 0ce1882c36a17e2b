-- How places grow by one list of octets after another.
use Rattle.std.specs.Prelude.{◌≡◌, refl, ℕ, Bool, true, false, ◌==◌, List, [], ◌∷◌, ◌++◌, Option, None, Some, if◌then◌else◌}
use Rattle.std.proofs.Common.{sym, ap, ◌∙◌, append_assoc, append-nil}
use Rattle.tm_items.specs.Item.{Item, Bad, MasterGap, Gap, Vca, Dropped, Packet, Short}
use Rattle.tm_output.specs.code.Outlets.{GivesNone, packet_none}
use Rattle.tm_output.specs.Pieces.{HasLine}
use Rattle.tm_devices.specs.Devices.{Puts}
use Rattle.tm_output.specs.Shelves.{Shelved, shelved, of_application, Shelves, shelved_of, shelf_text}

pub shelves_nil : (o : Option (ℕ → List ℕ)) → Shelves o o []
shelves_nil None = tt
shelves_nil (Some held) = λ k. sym (append-nil (held k))

of_application-append : (k : ℕ) (xs ys : List Shelved) → of_application k (xs ++ ys) ≡ of_application k xs ++ of_application k ys
of_application-append k [] ys = refl
of_application-append k (x ∷ xs) ys =
    ap (λ (l : List ℕ). (if x.application == k then x.octet ∷ [] else []) ++ l) (of_application-append k xs ys)
    ∙ sym (append_assoc (if x.application == k then x.octet ∷ [] else []) (of_application k xs) (of_application k ys))

pub shelves_trans : (o p q : Option (ℕ → List ℕ)) (xs ys : List Shelved) → Shelves o p xs → Shelves p q ys → Shelves o q (xs ++ ys)
shelves_trans None p q xs ys a b = tt
shelves_trans (Some f) None q xs ys a b = absurd a
shelves_trans (Some f) (Some g) None xs ys a b = absurd b
shelves_trans (Some f) (Some g) (Some h) xs ys a b = λ k.
    b k ∙ ap (λ (l : List ℕ). l ++ of_application k ys) (a k) ∙ append_assoc (f k) (of_application k xs) (of_application k ys)
    ∙ ap (λ (l : List ℕ). f k ++ l) (sym (of_application-append k xs ys))

pub shelves_split : (o q : Option (ℕ → List ℕ)) (xs ys : List Shelved) → Shelves o q (xs ++ ys)
    → (p : Option (ℕ → List ℕ)) × Shelves o p xs × Shelves p q ys
shelves_split None q xs ys h = (None, tt, tt)
shelves_split (Some f) None xs ys h = absurd h
shelves_split (Some f) (Some h) xs ys e = (
  Some (λ k. f k ++ of_application k xs),
  (λ k. refl),
  λ k. e k ∙ ap (λ (l : List ℕ). f k ++ l) (of_application-append k xs ys) ∙ sym (append_assoc (f k) (of_application k xs) (of_application k ys)),
)

of_shelved : (b : Bool) (k application : ℕ) (octets : List ℕ) → (application == k) ≡ b → of_application k (shelved application octets) ≡ (if b then octets else [])
of_shelved true k application [] e = refl
of_shelved false k application [] e = refl
of_shelved true k application (x ∷ xs) e =
    ap (λ (c : Bool). (if c then x ∷ [] else []) ++ of_application k (shelved application xs)) e ∙ ap (λ (l : List ℕ). x ∷ l) (of_shelved true k application xs e)
of_shelved false k application (x ∷ xs) e =
    ap (λ (c : Bool). (if c then x ∷ [] else []) ++ of_application k (shelved application xs)) e ∙ of_shelved false k application xs e

pub shelves_put : (o p : Option (ℕ → List ℕ)) (application : ℕ) (octets : List ℕ) → Puts o p application octets → Shelves o p (shelved application octets)
shelves_put None p application octets h = tt
shelves_put (Some f) None application octets h = absurd h
shelves_put (Some f) (Some g) application octets h = λ k.
    h k ∙ ap (λ (l : List ℕ). f k ++ l) (sym (of_shelved (application == k) k application octets refl))

-- an item that has a line gives nothing to the places
shelved_none : (x : Item) → HasLine x → shelved_of x ≡ []
unfolding shelved_of
shelved_none (Bad seen fault) has = refl
shelved_none (MasterGap seen expected found missing) has = refl
shelved_none (Gap seen channel expected found missing) has = refl
shelved_none (Vca seen channel) has = refl
shelved_none (Dropped seen channel first place octets reason) has = refl
shelved_none (Packet seen channel first place octets) has = absurd has
shelved_none (Short seen octets) has = refl

pub no_shelf : (x : Item) → HasLine x → GivesNone shelf_text x
no_shelf x has = (shelved_none x has, refl, packet_none x has)
