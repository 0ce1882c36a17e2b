-- Sets of virtual channels: for each of the eight, whether it is in the set.
use Rattle.std.specs.Prelude.{ℕ, ◌+◌, ◌^◌, Bool, true, false, ◌==◌, ◌||◌, nat_lt, Option, Some, None, List, [], ◌∷◌, length, map, replicate, slice_index_or, if◌then◌else◌}

-- a channel is in the set
abbrev pub is_chosen : List Bool → ℕ → Bool
is_chosen channels c = slice_index_or channels c false

abbrev pub all_channels : List Bool
all_channels = replicate 8 true

-- a number stands in the list
abbrev pub holds : List ℕ → ℕ → Bool
holds [] c = false
holds (x ∷ xs) c = (x == c) || holds xs c

-- some number is over 7, or stands there twice
abbrev pub is_wrong : List ℕ → Bool
is_wrong [] = false
is_wrong (x ∷ xs) = nat_lt 7 x || holds xs x || is_wrong xs

-- the numbers of the channels
abbrev pub eight : List ℕ
eight = 0 ∷ 1 ∷ 2 ∷ 3 ∷ 4 ∷ 5 ∷ 6 ∷ 7 ∷ []

-- the set of the channels in a list, where that has some, each at most 7 and none twice
abbrev pub channels_of : List ℕ → Option (List Bool)
channels_of numbers = if (length numbers == 0) || is_wrong numbers then None else Some (map (holds numbers) eight)

-- the set as a number, in which channel c counts 2^c: from a channel on
abbrev pub mask_from : ℕ → List Bool → ℕ
mask_from c [] = 0
mask_from c (b ∷ bs) = (if b then 2 ^ c else 0) + mask_from (c + 1) bs

abbrev pub mask_of : List Bool → ℕ
mask_of channels = mask_from 0 channels
