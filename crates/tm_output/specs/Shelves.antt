-- Places for the packets of applications.
use Rattle.std.specs.Prelude.{◌≡◌, ⊤, ℕ, false, ◌==◌, List, [], ◌∷◌, ◌++◌, map, Option, None, Some, if◌then◌else◌}
use Rattle.tm_packet.specs.Header.{packet_header_of}
use Rattle.tm_items.specs.Among.{is_packet_item}
use Rattle.tm_items.specs.Item.{Item, Packet}
use Rattle.tm_output.specs.Outputs.{Buffering}
use Rattle.tm_output.specs.Pieces.{Texts, no_remark}

-- an octet of an application
pub record Shelved : Type 0 where
  pub application : ℕ
  pub octet : ℕ

abbrev pub shelved : ℕ → List ℕ → List Shelved
shelved application octets = map (λ octet. record { application = application; octet = octet }) octets

-- the octets of one application, in their order
abbrev pub of_application : ℕ → List Shelved → List ℕ
of_application k [] = []
of_application k (x ∷ xs) = (if x.application == k then x.octet ∷ [] else []) ++ of_application k xs

-- known places grow by these octets, each in its application's place
abbrev pub Shelves : Option (ℕ → List ℕ) → Option (ℕ → List ℕ) → List Shelved → Type 0
Shelves None new xs = ⊤
Shelves (Some held) None xs = ⊥
Shelves (Some held) (Some now) xs = (k : ℕ) → now k ≡ held k ++ of_application k xs

-- what of an item belongs to the places: a packet's octets, in its application's
unfoldable pub shelved_of : Item → List Shelved
shelved_of (Packet seen channel first place octets) = shelved (packet_header_of octets).application octets
shelved_of _ = []

-- octets go as they are, and none of them waits
abbrev pub shelf_buffering : Buffering
shelf_buffering = record { memory = false; flush = false }

-- what is given of an item
abbrev pub shelf_text : Texts Shelved
shelf_text = record { out = shelved_of; remark = no_remark; given = is_packet_item }
