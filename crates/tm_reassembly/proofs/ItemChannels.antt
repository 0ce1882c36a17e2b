-- The items of records are of chosen channels, and so each channel is one of eight.
use Rattle.std.proofs.Common.{◌≡◌, ℕ, suc, zero, ◌<◌, Bool, true, List, [], ◌∷◌, length, arith}
use Rattle.tm_items.specs.Among.{Among, is_of}
use Rattle.tm_frame.specs.Channels.{is_chosen}
use Rattle.tm_items.specs.Item.{Item}
use Rattle.tm_frame.specs.Rules.{Rules}
use Rattle.tm_reassembly.specs.Recording.{items}
use Rattle.tm_reassembly.specs.State.{State}
use Rattle.tm_reassembly.proofs.Merged.{told-channel}

-- a chosen channel has a place in the set
pub chosen-below : (channels : List Bool) (c : ℕ) → is_chosen channels c ≡ true → c < length channels
chosen-below [] c h = absurd (cc)
chosen-below (b ∷ bs) zero h = omega arith
chosen-below (b ∷ bs) (suc c) h = let less = chosen-below bs c h in omega arith

-- the channel of an item has a place in the set of the chosen ones
pub item-channel : (rules : Rules) (s : State) (records : List (List ℕ)) (c : ℕ) (x : Item)
    → is_of c x ≡ true → Among x (items rules s records) → c < length rules.channels
item-channel rules s records c x own a = chosen-below rules.channels c (told-channel rules s records c x own a).0
