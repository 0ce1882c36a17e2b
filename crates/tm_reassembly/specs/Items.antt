-- The items of records, merged by record, and the state after them.
use Rattle.std.specs.Prelude.{ℕ, ◌+◌, ◌-◌, ◌%◌, ◌==◌, nat_lt, Bool, Option, None, Some, Ok, Err, List, [], ◌∷◌, ◌++◌, length, map, filter, if◌then◌else◌}
use Rattle.std.specs.List.{flat_map}
use Rattle.tm_reassembly.specs.Readings.{FrameReading}
use Rattle.tm_items.specs.declared.items.Reason.TheVariants as why
use Rattle.tm_items.specs.Item.{Item, Bad, MasterGap, Gap, Vca, Dropped, Packet, Short, seen_of}
use Rattle.tm_reassembly.specs.State.{State, Last, Tail}
use Rattle.tm_frame.specs.Channels.{eight}
use Rattle.tm_reassembly.specs.Chain.{ChainMember, chain, master_chain, runs, has_frame_gap, next_frame_count}
use Rattle.tm_reassembly.specs.Parts.{Part, Fate, Given, Lost, Held, parts}

-- a gap of a channel: the count that should have been found, and the member that has another one
abbrev pub gap_item : ℕ → ℕ → ChainMember → Item
gap_item channel expected m = Gap m.number channel expected m.count ((m.count + 256 - expected) % 256)

-- a gap of the master channel
abbrev pub master_gap_item : ℕ → ChainMember → Item
master_gap_item expected m = MasterGap m.number expected m.count ((m.count + 256 - expected) % 256)

-- the gap of a member after one with this count, if it has one: an item of what was expected, and of the member
abbrev pub gap_at : (ℕ → ChainMember → Item) → Option ℕ → ChainMember → List Item
gap_at gap None m = []
gap_at gap (Some before) m = if has_frame_gap (Some before) m then gap (next_frame_count before) m ∷ [] else []

-- the gaps of a chain after a member with this count
abbrev pub gaps : (ℕ → ChainMember → Item) → Option ℕ → List ChainMember → List Item
gaps gap before [] = []
gaps gap before (m ∷ ms) = gap_at gap before m ++ gaps gap (Some m.count) ms

-- the gaps of the master chain
abbrev pub master_items : List ChainMember → List Item
master_items ms = gaps master_gap_item None ms

abbrev pub vca_at : ℕ → ChainMember → List Item
vca_at channel m = if m.is_vca then Vca m.number channel ∷ [] else []

abbrev pub part_item : ℕ → Part → Fate → List Item
part_item channel p (Given seen) = Packet seen channel p.first p.place p.octets ∷ []
part_item channel p (Lost reason seen) = Dropped seen channel p.first p.place (length p.octets) reason ∷ []
part_item channel p Held = []

-- those of some items that are seen at a record
abbrev pub seen_at : ℕ → List Item → List Item
seen_at number xs = filter (λ x. seen_of x == number) xs

-- the tail that a part is, if it is held
abbrev pub held_part : Part → Fate → List Tail
held_part p (Given seen) = []
held_part p (Lost reason seen) = []
held_part p Held = record { first = p.first; place = p.place; octets = p.octets } ∷ []

abbrev pub first_tail : List Tail → Option Tail
first_tail [] = None
first_tail (t ∷ more) = Some t

-- the count of the last member of a chain
abbrev pub last_frame_count : Option ℕ → List ChainMember → Option ℕ
last_frame_count before [] = before
last_frame_count before (m ∷ ms) = last_frame_count (Some m.count) ms

abbrev pub last_with : Option Tail → Option ℕ → Option Last
last_with tail None = None
last_with tail (Some count) = Some (record { count = count; tail = tail })

module _ (limit : ℕ) where
  -- all parts of a chain, run by run, in the order of the text
  abbrev pub chain_parts : List ChainMember → List Part
  chain_parts ms = flat_map (parts limit) (runs ms)

  -- all items of a channel
  abbrev pub channel_items : ℕ → List ChainMember → List Item
  channel_items channel ms =
      gaps (gap_item channel) None ms ++ flat_map (vca_at channel) ms ++ flat_map (λ p. part_item channel p p.fate) (chain_parts ms)

  -- The items of a record. A good frame gives its master gap first, and nothing else where its channel isn't chosen.
  abbrev pub record_items : (ℕ → Bool) → State → List FrameReading → ℕ → FrameReading → List Item
  record_items chosen s records number (Err fault) = Bad number fault ∷ []
  record_items chosen s records number (Ok f) =
      seen_at number (master_items (master_chain s records))
      ++ (if chosen f.channel then seen_at number (channel_items f.channel (chain s f.channel records)) else [])

  abbrev pub merged : (ℕ → Bool) → State → List FrameReading → ℕ → List FrameReading → List Item
  merged chosen s records number [] = []
  merged chosen s records number (r ∷ rs) = record_items chosen s records number r ++ merged chosen s records (number + 1) rs

  -- the items of records that come after a state, record by record
  abbrev pub items_of_readings : (ℕ → Bool) → State → List FrameReading → List Item
  items_of_readings chosen s records = merged chosen s records s.records records

  -- the tail that a chain holds at its end (there is at most one)
  abbrev pub held : List ChainMember → Option Tail
  held ms = first_tail (flat_map (λ p. held_part p p.fate) (chain_parts ms))

  abbrev pub channel_after : (ℕ → Bool) → State → List FrameReading → ℕ → Option Last
  channel_after chosen s records channel =
      if chosen channel
      then last_with (held (chain s channel records)) (last_frame_count None (chain s channel records))
      else None

  -- the state after more records
  abbrev pub state_after_readings : (ℕ → Bool) → State → List FrameReading → State
  state_after_readings chosen s records =
      record {
        records = s.records + length records;
        master = last_frame_count None (master_chain s records);
        channels = map (channel_after chosen s records) eight;
      }

abbrev pub empty : State
empty = record { records = 0; master = None; channels = None ∷ None ∷ None ∷ None ∷ None ∷ None ∷ None ∷ None ∷ [] }

abbrev pub close_tail : ℕ → ℕ → Option Tail → List Item
close_tail number channel None = []
close_tail number channel (Some t) = Dropped number channel t.first t.place (length t.octets) why.Close ∷ []

abbrev pub close_last : ℕ → ℕ → Option Last → List Item
close_last number channel None = []
close_last number channel (Some last) = close_tail number channel last.tail

-- the held tails, by rising channel
abbrev pub close_channels : ℕ → ℕ → List (Option Last) → List Item
close_channels number channel [] = []
close_channels number channel (x ∷ xs) = close_last number channel x ++ close_channels number (channel + 1) xs

-- the items of a closed end, where so many octets are left that are no record
abbrev pub closing : State → ℕ → List Item
closing s rest = (if nat_lt 0 rest then Short s.records rest ∷ [] else []) ++ close_channels s.records 0 s.channels
