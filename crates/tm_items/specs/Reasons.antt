-- The word of each reason, and their order.
use Rattle.std.specs.Prelude.{ℕ, List, [], ◌∷◌, codes}
use Rattle.tm_items.specs.declared.items.Reason.{Reason}
use Rattle.tm_items.specs.declared.items.Reason.TheVariants.{Pointer, Gap, Vca, Close, NoStart, Version, Length}

abbrev pub reason_word : Reason → List ℕ
reason_word Pointer = codes "pointer"
reason_word Gap = codes "gap"
reason_word Vca = codes "vca"
reason_word Close = codes "end"
reason_word NoStart = codes "no-start"
reason_word Version = codes "version"
reason_word Length = codes "length"

-- the reasons, in their order, and the place of each there
abbrev pub all_reasons : List Reason
all_reasons = Pointer ∷ Gap ∷ Vca ∷ Close ∷ NoStart ∷ Version ∷ Length ∷ []

abbrev pub reason_place : Reason → ℕ
reason_place Pointer = 0
reason_place Gap = 1
reason_place Vca = 2
reason_place Close = 3
reason_place NoStart = 4
reason_place Version = 5
reason_place Length = 6
