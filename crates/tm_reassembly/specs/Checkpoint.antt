-- How a state is spelled in octets, and what octets spell. Numbers have the most significant octet first.
use Rattle.std.specs.Prelude.{ℕ, zero, suc, ◌+◌, ◌*◌, ◌/◌, ◌%◌, Bool, not, ◌==◌, ◌&&◌, ◌||◌, nat_lt, nat_le, Option, Some, None, Result, Ok, Err, List, [], ◌∷◌, ◌++◌, length, drop, slice_index, slice_range, if◌then◌else◌}
use Rattle.tm_bits.specs.Bits.{two_octets, two_at}
use Rattle.std.specs.List.{flat_map}
use Rattle.tm_frame.specs.declared.layout.LayoutParts.{LayoutParts}
use Rattle.tm_reassembly.specs.declared.fault.StateFault.{StateFault}
use Rattle.tm_reassembly.specs.declared.fault.StateFault.TheVariants as fault
use Rattle.tm_reassembly.specs.Parts.{begins_packet}
use Rattle.tm_items.specs.OnePacket.{packet_length}
use Rattle.tm_frame.specs.Rules.{Rules, chooses}
use Rattle.tm_reassembly.specs.State.{State, Last, Tail}

-- ---- spelling

-- a number in four octets, the most significant first
abbrev pub four_octets : ℕ → List ℕ
four_octets n = two_octets (n / 65536) ++ two_octets (n % 65536)

-- a tail: the record and the place where it begins, the number of its octets, and these
abbrev pub tail_octets : Tail → List ℕ
tail_octets t = four_octets t.first ++ two_octets t.place ++ four_octets (length t.octets) ++ t.octets

-- the block of a channel: 0 where nothing is kept; 1 and the last count; or 2, the last count and the tail
abbrev pub with_tail : ℕ → Option Tail → List ℕ
with_tail count None = 1 ∷ count ∷ []
with_tail count (Some t) = 2 ∷ count ∷ tail_octets t

abbrev pub block : Option Last → List ℕ
block None = 0 ∷ []
block (Some last) = with_tail last.count last.tail

-- the last master channel count: 0 where there is none, or 1 and the count
abbrev pub master_octets : Option ℕ → List ℕ
master_octets None = 0 ∷ []
master_octets (Some count) = 1 ∷ count ∷ []

-- the number of records, the last master channel count, and the blocks of the channels
abbrev pub state_spelling : State → List ℕ
state_spelling s = four_octets s.records ++ master_octets s.master ++ flat_map block s.channels

-- the same in the form of versions 1 and 2, which has no master channel count
abbrev pub old_spelling : State → List ℕ
old_spelling s = four_octets s.records ++ flat_map block s.channels

-- ---- reading

-- the number in the four octets from a place on
abbrev pub four_at : List ℕ → ℕ → ℕ
four_at xs i = 65536 * two_at xs i + two_at xs (i + 2)

-- what is kept of a channel, and how many octets spelled it
pub record ReadBlock : Type 0 where
  pub last : Option Last
  pub octets : ℕ

module _ (limit : ℕ) where
  -- an unfinished packet: of version 0, not long, and not whole
  abbrev pub is_unfinished : List ℕ → Bool
  is_unfinished octets = begins_packet limit octets && nat_lt (length octets) (packet_length octets)

  -- the tail in a block whose fixed parts are there: its beginning, its length, its octets, and what these begin
  abbrev pub tail_read : LayoutParts → ℕ → List ℕ → ℕ → ℕ → ℕ → Result ReadBlock StateFault
  tail_read layout records xs first place size =
      if not (nat_lt first records) || nat_lt layout.frame_length (place + 7) then Err fault.Place
      else if (size == 0) || nat_le limit size then Err fault.Tail
      else if nat_lt (length xs) (12 + size) then Err fault.Short
      else if not (is_unfinished (slice_range xs 12 (12 + size))) then Err fault.Tail
      else Ok (record {
        last = Some (record {
          count = slice_index xs 1;
          tail = Some (record { first = first; place = place; octets = slice_range xs 12 (12 + size) });
        });
        octets = 12 + size;
      })

  -- likewise, the fixed parts being read
  abbrev pub tail_block : LayoutParts → ℕ → List ℕ → Result ReadBlock StateFault
  tail_block layout records xs = tail_read layout records xs (four_at xs 2) (two_at xs 6) (four_at xs 8)

  -- the block of a channel, by its flag
  abbrev pub flagged : LayoutParts → Bool → ℕ → List ℕ → ℕ → Result ReadBlock StateFault
  flagged layout chosen records xs flag =
      if flag == 0 then Ok (record { last = None; octets = 1 })
      else if not chosen || nat_lt 2 flag then Err fault.Flag
      else if flag == 1
      then (if nat_lt (length xs) 2 then Err fault.Short else Ok (record { last = Some (record { count = slice_index xs 1; tail = None }); octets = 2 }))
      else if nat_lt (length xs) 12 then Err fault.Short
      else tail_block layout records xs

  -- the block at the front of octets
  unfoldable pub block_read : LayoutParts → Bool → ℕ → List ℕ → Result ReadBlock StateFault
  block_read layout chosen records xs = if length xs == 0 then Err fault.Short else flagged layout chosen records xs (slice_index xs 0)

-- the block of a channel at the front of octets, under the rules
abbrev pub channel_block : Rules → ℕ → ℕ → List ℕ → Result ReadBlock StateFault
channel_block rules channel records xs = block_read rules.max_packet rules.layout (chooses rules channel) records xs

-- what is kept of several channels, and how many octets spelled it
pub record ReadBlocks : Type 0 where
  pub channels : List (Option Last)
  pub octets : ℕ

-- one more in front
abbrev pub in_front : ReadBlock → Result ReadBlocks StateFault → Result ReadBlocks StateFault
in_front one (Ok rest) = Ok (record { channels = one.last ∷ rest.channels; octets = one.octets + rest.octets })
in_front one (Err found) = Err found

-- a block, and then the others after its octets
abbrev pub and_then_blocks : Result ReadBlock StateFault → (ℕ → Result ReadBlocks StateFault) → Result ReadBlocks StateFault
and_then_blocks (Ok one) others = in_front one (others one.octets)
and_then_blocks (Err found) others = Err found

-- the blocks of n channels from channel c on: the first fault, or what they spell
unfoldable pub blocks_read : Rules → ℕ → ℕ → ℕ → List ℕ → Result ReadBlocks StateFault
blocks_read rules records zero c xs = Ok (record { channels = []; octets = 0 })
blocks_read rules records (suc n) c xs =
    and_then_blocks (channel_block rules c records xs) (λ used. blocks_read rules records n (c + 1) (drop used xs))

-- a last master channel count, if there is one, and how many octets spelled it
pub record ReadMaster : Type 0 where
  pub count : Option ℕ
  pub octets : ℕ

-- the last master channel count at the front of octets
unfoldable pub master_read : List ℕ → Result ReadMaster StateFault
master_read [] = Err fault.Short
master_read (flag ∷ xs) =
    if flag == 0 then Ok (record { count = None; octets = 1 })
    else if nat_lt 1 flag then Err fault.Flag
    else if length xs == 0 then Err fault.Short
    else Ok (record { count = Some (slice_index xs 0); octets = 2 })

-- the state, and the number of octets that were read
pub record DecodedState : Type 0 where
  pub state : State
  pub octets : ℕ

-- a number of records, a last master channel count, which the first so many octets spelled, and the channels
abbrev pub with_channels : ℕ → Option ℕ → ℕ → Result ReadBlocks StateFault → Result DecodedState StateFault
with_channels records master octets (Ok all) =
    Ok (record { state = record { records = records; master = master; channels = all.channels }; octets = octets + all.octets })
with_channels records master octets (Err found) = Err found

-- a number of records, a last master channel count, and the channels of the octets after it
abbrev pub with_master : Rules → ℕ → List ℕ → Result ReadMaster StateFault → Result DecodedState StateFault
with_master rules records xs (Ok read) =
    with_channels records read.count (4 + read.octets) (blocks_read rules records 8 0 (drop read.octets xs))
with_master rules records xs (Err found) = Err found

-- what octets spell: too few of them, or the first fault of the master channel count or of a block, or a state
unfoldable pub state_decoding_of : Rules → List ℕ → Result DecodedState StateFault
state_decoding_of rules xs =
    if nat_lt (length xs) 4 then Err fault.Short
    else with_master rules (four_at xs 0) (drop 4 xs) (master_read (drop 4 xs))

-- the same in the form of versions 1 and 2
unfoldable pub old_decoding_of : Rules → List ℕ → Result DecodedState StateFault
old_decoding_of rules xs =
    if nat_lt (length xs) 4 then Err fault.Short
    else with_channels (four_at xs 0) None 4 (blocks_read rules (four_at xs 0) 8 0 (drop 4 xs))

-- of a state that was read only the number of its octets
abbrev pub spelled_octets : Result DecodedState StateFault → Result ℕ StateFault
spelled_octets (Ok read) = Ok read.octets
spelled_octets (Err found) = Err found
