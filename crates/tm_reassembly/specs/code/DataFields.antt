-- Data fields as they are handed on, each with the place of the first packet that starts in it. These stand in private contracts alone.
use Rattle.std.specs.Prelude.{◌<◌, ◌≤◌, ℕ, Option, List, length}
use Rattle.tm_reassembly.specs.declared.packets.DataField.{DataField}
use Rattle.tm_reassembly.specs.Chain.{ChainMember}
use Rattle.tm_reassembly.specs.code.Fits.{PlaceFits}
use Rattle.tm_reassembly.specs.code.Slots.{member_at}

-- the channel is one of eight; there are no more octets than in a frame, and the place isn't past their end
abbrev pub IsFieldOf : ℕ → Option ℕ → List ℕ → Type 0
IsFieldOf channel place octets = (channel < 8) × (length octets ≤ 2042) × PlaceFits place (length octets)

-- likewise of a data field
abbrev pub IsDataField : ℕ → DataField → Type 0
IsDataField channel f = IsFieldOf channel f.place f.octets.now

-- the frame of a chain that has it, whose count doesn't matter
abbrev pub member_with : ℕ → DataField → ChainMember
member_with seen f = member_at seen f.place f.octets.now
