-- A shelf that refuses.
use Rattle.std.proofs.Common.{◌≡◌, ◌≢◌, ℕ, List, [], ◌∷◌, refl, ap, ◌∙◌, Option}
use Rattle.std.proofs.lemmas.List.{map-append}
use Rattle.tm_devices.specs.Devices.{PutsPrefix, raised}
use Rattle.tm_faults.specs.declared.run.RunFault.TheVariants.{Write}
use Rattle.tm_output.specs.code.Outlets.{PutStopped}
use Rattle.tm_output.specs.Outputs.{Buffering}
use Rattle.tm_output.specs.Shelves.{shelved, Shelves}
use Rattle.tm_output.specs.code.ShelfLaws.{shelves_put}

no_shelved : (application : ℕ) (octets : List ℕ) → shelved application octets ≡ [] → octets ≡ []
no_shelved application [] none = refl
no_shelved application (octet ∷ octets) none = cc

pub shelf_stopped : (buffering : Buffering) (old new : Option (ℕ → List ℕ)) (failures failures' : ℕ) (application : ℕ) (octets : List ℕ)
    → PutsPrefix old new application octets → failures' ≡ raised failures
    → PutStopped Shelves buffering old new failures failures' (shelved application octets) Write
shelf_stopped buffering old new failures failures' application octets h rose =
    let (prefix, rest, parts, some, grown) = h in
    let all = ap (shelved application) parts ∙ map-append _ prefix rest in
    let proper : shelved application octets ≢ [] → shelved application rest ≢ [] =
    λ full empty. some (λ none. full (ap (shelved application) none)) (no_shelved application rest empty) in
    (rose, (shelved application prefix, shelved application rest, all, proper, shelves_put old new application prefix grown))
