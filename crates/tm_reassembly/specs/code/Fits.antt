-- What holds of the frames and tails that are gone through. These stand in private contracts and in proofs alone.
use Rattle.std.specs.Prelude.{ℕ, ◌<◌, ◌≤◌, Option, Some, None, Ok, Err, List, length}
use Rattle.std.specs.List.{AllByRecursion}
use Rattle.tm_reassembly.specs.Readings.{FrameReading}
use Rattle.tm_reassembly.specs.State.{Tail}
use Rattle.tm_reassembly.specs.Chain.{ChainMember, start_place_of, counted_field}
use Rattle.tm_reassembly.specs.Valid.{IsTail}

-- a place isn't past its field's end
abbrev pub PlaceFits : Option ℕ → ℕ → Type 0
PlaceFits None len = Unit {0}
PlaceFits (Some place) len = place ≤ len

-- likewise of a frame, and of each of some
abbrev pub IsPlaced : ChainMember → Type 0
IsPlaced m = PlaceFits m.place (length m.field)

abbrev pub PlacesFit : List ChainMember → Type 0
PlacesFit ms = AllByRecursion IsPlaced ms

-- a good frame's channel is one of eight, and its place isn't past its field's end
abbrev pub IsFit : FrameReading → Type 0
IsFit (Err fault) = Unit {0}
IsFit (Ok f) = (f.channel < 8) × PlaceFits (start_place_of f.kind) (length (counted_field f.kind f.field))

-- likewise of each reading
abbrev pub AllReadingsFit : List FrameReading → Type 0
AllReadingsFit rs = AllByRecursion IsFit rs

-- what is held, if anything, is an unfinished packet
abbrev pub IsOpenTail : ℕ → Option Tail → Type 0
IsOpenTail limit None = Unit {0}
IsOpenTail limit (Some t) = IsTail limit t.octets
