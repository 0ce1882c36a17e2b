-- What it is for a sink to take a list of items, and to refuse one of them.
use Rattle.std.specs.Prelude.{◌≡◌, ◌⊎◌, ◌<◌, List, [], ◌∷◌}
use Rattle.tm_items.specs.declared.items.Item as lent
use Rattle.tm_items.specs.declared.items.Item.TheVariants as one
use Rattle.tm_items.specs.Item.{Item, Bad, MasterGap, Gap, Vca, Dropped, Packet, Short}
use Rattle.tm_items.specs.OnePacket.{IsOnePacket}

-- an item in values: a packet's octets, not where they are borrowed from
abbrev pub item_of : lent.Item → Item
item_of (one.Bad seen fault) = Bad seen fault
item_of (one.MasterGap seen expected found missing) = MasterGap seen expected found missing
item_of (one.Gap seen channel expected found missing) = Gap seen channel expected found missing
item_of (one.Vca seen channel) = Vca seen channel
item_of (one.Dropped seen channel first place octets reason) = Dropped seen channel first place octets reason
item_of (one.Packet seen channel first place octets) = Packet seen channel first place octets.now
item_of (one.Short seen octets) = Short seen octets

-- what holds of each item that a sink is asked to take: its channel is one of eight, and a packet's octets are one whole packet
abbrev pub ItemFits : Item → Type 0
ItemFits (Bad seen fault) = Unit {0}
ItemFits (MasterGap seen expected found missing) = Unit {0}
ItemFits (Gap seen channel expected found missing) = channel < 8
ItemFits (Vca seen channel) = channel < 8
ItemFits (Dropped seen channel first place octets reason) = channel < 8
ItemFits (Packet seen channel first place octets) = (channel < 8) × IsOnePacket octets
ItemFits (Short seen octets) = Unit {0}

-- the sink takes these items, one after the other
abbrev pub TakesAll : {S : Type 0} → (S → Item → S → Type 0) → S → List Item → S → Type 0
TakesAll takes old [] new = new ≡ old
TakesAll {S} takes old (x ∷ xs) new = (mid : S) × takes old x mid × TakesAll takes mid xs new

-- the sink takes some first items, not all, and refuses the next one with this fault
abbrev pub RefusesOne : {S F : Type 0} → (S → Item → S → Type 0) → (S → Item → F → S → Type 0) → S → List Item → F → S → Type 0
RefusesOne takes refuses old [] fault new = ⊥
RefusesOne {S} takes refuses old (x ∷ xs) fault new =
    refuses old x fault new ⊎ ((mid : S) × takes old x mid × RefusesOne takes refuses mid xs fault new)
