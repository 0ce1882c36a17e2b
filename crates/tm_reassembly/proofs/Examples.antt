-- Worked examples: the items that the definitions give for known records.
use Rattle.std.proofs.Common.{◌≡◌, ℕ, ◌-◌, ◌/◌, ◌%◌, Bool, true, false, Some, None, Result, Err, List, [], ◌∷◌, ◌++◌, take, drop, refl}
use Rattle.std.specs.Prelude.{replicate}
use Rattle.tm_bits.specs.Bits.{bits_of, low_bits, number, part}
use Rattle.tm_frame.specs.declared.layout.LayoutParts.{LayoutParts}
use Rattle.tm_frame.specs.declared.layout.Presence.TheVariants.{Flag}
use Rattle.tm_frame.specs.declared.fault.FrameFault.TheVariants.{Crc, Version}
use Rattle.tm_frame.specs.ErrorControl.{error_control_of, long_division, subtract}
use Rattle.tm_frame.specs.Fault.{fault_of}
use Rattle.tm_items.specs.declared.items.Reason.TheVariants as why
use Rattle.tm_reassembly.specs.declared.fault.StateFault.TheVariants as fault
use Rattle.tm_reassembly.specs.declared.fault.StateFault.{StateFault}
use Rattle.tm_reassembly.specs.Checkpoint.{DecodedState, state_spelling, state_decoding_of, old_decoding_of, blocks_read, block_read, master_read}
use Rattle.tm_frame.specs.Channels.{channels_of, all_channels, mask_of}
use Rattle.tm_frame.specs.Rules.{Rules}
use Rattle.tm_items.specs.Item.{Item, Bad, MasterGap, Gap, Vca, Dropped, Packet, Short}
use Rattle.tm_reassembly.specs.Items.{empty, closing}
use Rattle.tm_reassembly.specs.State.{State}
use Rattle.tm_reassembly.specs.Recording.{items, after}

-- frames of 24 octets of spacecraft 42: a data field has 18
layout : LayoutParts
layout = record { frame_length = 24; skip_before = 0; skip_after = 0; spacecraft = 42; secondary = Flag; ocf = Flag; error_control = false }

-- these channels, and this limit
base : List Bool → ℕ → Rules
base channels limit = record { layout = layout; channels = channels; max_packet = limit }

channel_1 : List Bool
channel_1 = false ∷ true ∷ false ∷ false ∷ false ∷ false ∷ false ∷ false ∷ []

fifty_fives : ℕ → List ℕ
fifty_fives n = replicate n 0x55

-- the items of records with all channels and no limit, with all channels under a limit, and of channel 1
given : List (List ℕ) → List Item
given records = items (base all_channels 65542) empty records

under : ℕ → List (List ℕ) → List Item
under limit records = items (base all_channels limit) empty records

of_channel_1 : List (List ℕ) → List Item
of_channel_1 records = items (base channel_1 65542) empty records

-- the state that records leave
left : List (List ℕ) → State
left records = after (base all_channels 65542) empty records

-- a packet of n octets of application 100 with this count, and octets of it from one up to, not with, another
packet : ℕ → ℕ → List ℕ
packet n count = 0 ∷ 100 ∷ 0xC0 ∷ count ∷ (n - 7) / 256 ∷ (n - 7) % 256 ∷ fifty_fives (n - 6)

cut : ℕ → ℕ → List ℕ → List ℕ
cut from to octets = take (to - from) (drop from octets)

-- packets over frames, and pointers
record PacketExamples : Type 0 where
  two_packets : given ((0x02 ∷ 0xA0 ∷ 0x00 ∷ 0x00 ∷ 0x18 ∷ 0x00 ∷ (packet 7 0 ++ packet 11 1)) ∷ [])
      ≡ Packet 0 0 0 0 (packet 7 0) ∷ Packet 0 0 0 7 (packet 11 1) ∷ []
  packet_over_three_frames : given ((0x02 ∷ 0xA0 ∷ 0x00 ∷ 0x00 ∷ 0x18 ∷ 0x00 ∷ cut 0 18 (packet 40 0))
      ∷ (0x02 ∷ 0xA0 ∷ 0x01 ∷ 0x01 ∷ 0x1F ∷ 0xFF ∷ cut 18 36 (packet 40 0))
      ∷ (0x02 ∷ 0xA0 ∷ 0x02 ∷ 0x02 ∷ 0x18 ∷ 0x04 ∷ (cut 36 40 (packet 40 0) ++ packet 14 1)) ∷ [])
      ≡ Packet 2 0 0 0 (packet 40 0) ∷ Packet 2 0 2 4 (packet 14 1) ∷ []
  split_header_over_idle : given ((0x02 ∷ 0xA0 ∷ 0x00 ∷ 0x00 ∷ 0x18 ∷ 0x00 ∷ (packet 15 0 ++ cut 0 3 (packet 10 1)))
      ∷ (0x02 ∷ 0xA0 ∷ 0x01 ∷ 0x01 ∷ 0x1F ∷ 0xFE ∷ fifty_fives 18)
      ∷ (0x02 ∷ 0xA0 ∷ 0x02 ∷ 0x02 ∷ 0x18 ∷ 0x07 ∷ (cut 3 10 (packet 10 1) ++ packet 11 2)) ∷ [])
      ≡ Packet 0 0 0 0 (packet 15 0) ∷ Packet 2 0 0 15 (packet 10 1) ∷ Packet 2 0 2 7 (packet 11 2) ∷ []
  pointer_disagrees : given ((0x02 ∷ 0xA0 ∷ 0x00 ∷ 0x00 ∷ 0x18 ∷ 0x00 ∷ (packet 15 0 ++ cut 0 3 (packet 10 1)))
      ∷ (0x02 ∷ 0xA0 ∷ 0x01 ∷ 0x01 ∷ 0x18 ∷ 0x01 ∷ (fifty_fives 1 ++ packet 17 1)) ∷ [])
      ≡ Packet 0 0 0 0 (packet 15 0) ∷ Dropped 1 0 0 15 3 why.Pointer ∷ Dropped 1 0 1 0 1 why.Pointer ∷ Packet 1 0 1 1 (packet 17 1) ∷ []
  no_start_dropped : given ((0x02 ∷ 0xA0 ∷ 0x00 ∷ 0x00 ∷ 0x18 ∷ 0x00 ∷ packet 18 0)
      ∷ (0x02 ∷ 0xA0 ∷ 0x01 ∷ 0x01 ∷ 0x1F ∷ 0xFF ∷ fifty_fives 18) ∷ [])
      ≡ Packet 0 0 0 0 (packet 18 0) ∷ Dropped 1 0 1 0 18 why.NoStart ∷ []
  pointer_drop : given ((0x02 ∷ 0xA0 ∷ 0x00 ∷ 0x00 ∷ 0x18 ∷ 0x00 ∷ (packet 10 0 ++ cut 0 8 (packet 14 1)))
      ∷ (0x02 ∷ 0xA0 ∷ 0x01 ∷ 0x01 ∷ 0x18 ∷ 0x08 ∷ (fifty_fives 8 ++ packet 10 2)) ∷ [])
      ≡ Packet 0 0 0 0 (packet 10 0) ∷ Dropped 1 0 0 10 8 why.Pointer ∷ Dropped 1 0 1 0 8 why.Pointer ∷ Packet 1 0 1 8 (packet 10 2) ∷ []
  other_version : given ((0x02 ∷ 0xA0 ∷ 0x00 ∷ 0x00 ∷ 0x18 ∷ 0x00 ∷ (packet 10 0 ++ (0xE0 ∷ fifty_fives 7)))
      ∷ (0x02 ∷ 0xA0 ∷ 0x01 ∷ 0x01 ∷ 0x18 ∷ 0x04 ∷ (fifty_fives 4 ++ packet 14 1)) ∷ [])
      ≡ Packet 0 0 0 0 (packet 10 0) ∷ Dropped 0 0 0 10 8 why.Version ∷ Dropped 1 0 1 0 4 why.NoStart ∷ Packet 1 0 1 4 (packet 14 1) ∷ []
  split_with_idle : given ((0x02 ∷ 0xA0 ∷ 0x00 ∷ 0x00 ∷ 0x18 ∷ 0x00 ∷ (packet 7 0 ++ (0x07 ∷ 0xFF ∷ 0xC0 ∷ 0 ∷ 0 ∷ 4 ∷ fifty_fives 5))) ∷ [])
      ≡ Packet 0 0 0 0 (packet 7 0) ∷ Packet 0 0 0 7 (0x07 ∷ 0xFF ∷ 0xC0 ∷ 0 ∷ 0 ∷ 4 ∷ fifty_fives 5) ∷ []

packet_examples : PacketExamples
unfolding items after base layout channel_1 fifty_fives packet cut given under of_channel_1 left fault_of part number bits_of low_bits
packet_examples = record { two_packets = refl; packet_over_three_frames = refl; split_header_over_idle = refl; pointer_disagrees = refl; no_start_dropped = refl; pointer_drop = refl; other_version = refl; split_with_idle = refl }

-- gaps, VCA frames, a bad frame, and no records
record GapExamples : Type 0 where
  frame_gap : given ((0x02 ∷ 0xA0 ∷ 0xFE ∷ 0xFE ∷ 0x18 ∷ 0x00 ∷ packet 18 0)
      ∷ (0x02 ∷ 0xA0 ∷ 0xFF ∷ 0xFF ∷ 0x18 ∷ 0x00 ∷ packet 18 1)
      ∷ (0x02 ∷ 0xA0 ∷ 0x00 ∷ 0x00 ∷ 0x18 ∷ 0x00 ∷ (packet 10 2 ++ cut 0 8 (packet 14 3)))
      ∷ (0x02 ∷ 0xA0 ∷ 0x02 ∷ 0x02 ∷ 0x18 ∷ 0x06 ∷ (fifty_fives 6 ++ packet 12 4)) ∷ [])
      ≡ Packet 0 0 0 0 (packet 18 0) ∷ Packet 1 0 1 0 (packet 18 1) ∷ Packet 2 0 2 0 (packet 10 2) ∷ MasterGap 3 1 2 1 ∷ Gap 3 0 1 2 1 ∷ Dropped 3 0 2 10 8 why.Gap ∷ Dropped 3 0 3 0 6 why.NoStart ∷ Packet 3 0 3 6 (packet 12 4) ∷ []
  frame_twice : given ((0x02 ∷ 0xA0 ∷ 0x00 ∷ 0x00 ∷ 0x18 ∷ 0x00 ∷ packet 18 0)
      ∷ (0x02 ∷ 0xA0 ∷ 0x00 ∷ 0x00 ∷ 0x18 ∷ 0x00 ∷ packet 18 0) ∷ [])
      ≡ Packet 0 0 0 0 (packet 18 0) ∷ MasterGap 1 1 0 255 ∷ Gap 1 0 1 0 255 ∷ Packet 1 0 1 0 (packet 18 0) ∷ []
  vca_frame : given ((0x02 ∷ 0xA0 ∷ 0x00 ∷ 0x00 ∷ 0x18 ∷ 0x00 ∷ (packet 10 0 ++ cut 0 8 (packet 14 1)))
      ∷ (0x02 ∷ 0xA0 ∷ 0x01 ∷ 0x01 ∷ 0x58 ∷ 0x00 ∷ fifty_fives 18)
      ∷ (0x02 ∷ 0xA0 ∷ 0x02 ∷ 0x02 ∷ 0x18 ∷ 0x06 ∷ (fifty_fives 6 ++ packet 12 2)) ∷ [])
      ≡ Packet 0 0 0 0 (packet 10 0) ∷ Vca 1 0 ∷ Dropped 1 0 0 10 8 why.Vca ∷ Dropped 2 0 2 0 6 why.NoStart ∷ Packet 2 0 2 6 (packet 12 2) ∷ []
  -- a VCA frame with a gap: the tail is lost by the gap
  vca_frame_with_gap : given ((0x02 ∷ 0xA0 ∷ 0x00 ∷ 0x00 ∷ 0x18 ∷ 0x00 ∷ (packet 10 0 ++ cut 0 8 (packet 14 1)))
      ∷ (0x02 ∷ 0xA0 ∷ 0x02 ∷ 0x02 ∷ 0x58 ∷ 0x00 ∷ fifty_fives 18) ∷ [])
      ≡ Packet 0 0 0 0 (packet 10 0) ∷ MasterGap 1 1 2 1 ∷ Gap 1 0 1 2 1 ∷ Vca 1 0 ∷ Dropped 1 0 0 10 8 why.Gap ∷ []
  bad_frame : given ((0x42 ∷ 0xA0 ∷ 0x00 ∷ 0x00 ∷ 0x18 ∷ 0x00 ∷ fifty_fives 18) ∷ []) ≡ Bad 0 Version ∷ []
  no_records : given [] ≡ []

gap_examples : GapExamples
unfolding items after base layout channel_1 fifty_fives packet cut given under of_channel_1 left fault_of part number bits_of low_bits
gap_examples = record { frame_gap = refl; frame_twice = refl; vca_frame = refl; vca_frame_with_gap = refl; bad_frame = refl; no_records = refl }

-- a frame whose error control doesn't hold, after one that is idle
damaged : items (record { layout = record layout { frame_length = 9; error_control = true }; channels = all_channels; max_packet = 65542 }) empty
    ((0x02 ∷ 0xA0 ∷ 0 ∷ 0 ∷ 0x1F ∷ 0xFE ∷ 0x55 ∷ 0x25 ∷ 0xC9 ∷ []) ∷ (0x02 ∷ 0xA0 ∷ 0 ∷ 0 ∷ 0x1F ∷ 0xFE ∷ 0x54 ∷ 0x25 ∷ 0xC9 ∷ []) ∷ [])
    ≡ Bad 1 Crc ∷ []
unfolding items base layout channel_1 fault_of error_control_of long_division subtract part number bits_of low_bits
damaged = refl

-- packets over a limit
record LimitExamples : Type 0 where
  long_at_once : under 12 ((0x02 ∷ 0xA0 ∷ 0x00 ∷ 0x00 ∷ 0x18 ∷ 0x00 ∷ (packet 10 0 ++ cut 0 8 (packet 14 1))) ∷ (0x02 ∷ 0xA0 ∷ 0x01 ∷ 0x01 ∷ 0x18 ∷ 0x06 ∷ (fifty_fives 6 ++ packet 12 2)) ∷ [])
      ≡ Packet 0 0 0 0 (packet 10 0) ∷ Dropped 0 0 0 10 8 why.Length ∷ Dropped 1 0 1 0 6 why.NoStart ∷ Packet 1 0 1 6 (packet 12 2) ∷ []
  long_split_header : under 12 ((0x02 ∷ 0xA0 ∷ 0x00 ∷ 0x00 ∷ 0x18 ∷ 0x00 ∷ (packet 8 0 ++ (packet 7 1 ++ cut 0 3 (packet 14 2)))) ∷ (0x02 ∷ 0xA0 ∷ 0x01 ∷ 0x01 ∷ 0x18 ∷ 0x0B ∷ (cut 3 14 (packet 14 2) ++ packet 7 3)) ∷ [])
      ≡ Packet 0 0 0 0 (packet 8 0) ∷ Packet 0 0 0 8 (packet 7 1) ∷ Dropped 1 0 0 15 3 why.Length ∷ Dropped 1 0 1 0 11 why.Length ∷ Packet 1 0 1 11 (packet 7 3) ∷ []
  long_and_misplaced : under 12 ((0x02 ∷ 0xA0 ∷ 0x00 ∷ 0x00 ∷ 0x18 ∷ 0x00 ∷ (packet 8 0 ++ (packet 7 1 ++ cut 0 3 (packet 14 2)))) ∷ (0x02 ∷ 0xA0 ∷ 0x01 ∷ 0x01 ∷ 0x18 ∷ 0x0A ∷ (cut 3 13 (packet 14 2) ++ packet 8 3)) ∷ [])
      ≡ Packet 0 0 0 0 (packet 8 0) ∷ Packet 0 0 0 8 (packet 7 1) ∷ Dropped 1 0 0 15 3 why.Pointer ∷ Dropped 1 0 1 0 10 why.Pointer ∷ Packet 1 0 1 10 (packet 8 3) ∷ []
  long_under_12 : under 12 ((0x02 ∷ 0xA0 ∷ 0x00 ∷ 0x00 ∷ 0x18 ∷ 0x00 ∷ (packet 14 0 ++ fifty_fives 4)) ∷ [])
      ≡ Dropped 0 0 0 0 18 why.Length ∷ []
  not_long_under_14 : under 14 ((0x02 ∷ 0xA0 ∷ 0x00 ∷ 0x00 ∷ 0x18 ∷ 0x00 ∷ (packet 14 0 ++ fifty_fives 4)) ∷ [])
      ≡ Packet 0 0 0 0 (packet 14 0) ∷ Dropped 0 0 0 14 4 why.Version ∷ []

limit_examples : LimitExamples
unfolding items after base layout channel_1 fifty_fives packet cut given under of_channel_1 left fault_of part number bits_of low_bits
limit_examples = record { long_at_once = refl; long_split_header = refl; long_and_misplaced = refl; long_under_12 = refl; not_long_under_14 = refl }

-- gaps of the master channel
record MasterExamples : Type 0 where
  -- a master gap at a frame whose count before was one of a channel that isn't chosen
  master_gap_unchosen : of_channel_1 ((0x02 ∷ 0xA0 ∷ 0x00 ∷ 0x00 ∷ 0x18 ∷ 0x00 ∷ packet 18 0) ∷ (0x02 ∷ 0xA2 ∷ 0x02 ∷ 0x00 ∷ 0x18 ∷ 0x00 ∷ packet 18 0) ∷ [])
      ≡ MasterGap 1 1 2 1 ∷ Packet 1 1 1 0 (packet 18 0) ∷ []
  -- a frame of another channel is lost between two of the chosen one, whose counts follow
  loss_in_another_channel : of_channel_1 ((0x02 ∷ 0xA2 ∷ 0x00 ∷ 0x00 ∷ 0x18 ∷ 0x00 ∷ packet 18 0)
      ∷ (0x02 ∷ 0xA0 ∷ 0x02 ∷ 0x01 ∷ 0x18 ∷ 0x00 ∷ packet 18 0)
      ∷ (0x02 ∷ 0xA2 ∷ 0x03 ∷ 0x01 ∷ 0x18 ∷ 0x00 ∷ packet 18 1) ∷ [])
      ≡ Packet 0 1 0 0 (packet 18 0) ∷ MasterGap 1 1 2 1 ∷ Packet 2 1 2 0 (packet 18 1) ∷ []
  -- 256 frames of channel 0 are lost while one of channel 1 comes between: only the master channel shows it
  loss_of_256_frames : given ((0x02 ∷ 0xA0 ∷ 0x00 ∷ 0x00 ∷ 0x18 ∷ 0x00 ∷ (packet 10 0 ++ cut 0 8 (packet 14 1)))
      ∷ (0x02 ∷ 0xA2 ∷ 0x65 ∷ 0x00 ∷ 0x18 ∷ 0x00 ∷ packet 18 0)
      ∷ (0x02 ∷ 0xA0 ∷ 0x02 ∷ 0x01 ∷ 0x18 ∷ 0x06 ∷ (fifty_fives 6 ++ packet 12 2)) ∷ [])
      ≡ Packet 0 0 0 0 (packet 10 0) ∷ MasterGap 1 1 101 100 ∷ Packet 1 1 1 0 (packet 18 0) ∷ MasterGap 2 102 2 156 ∷ Packet 2 0 0 10 (packet 14 1) ∷ Packet 2 0 2 6 (packet 12 2) ∷ []

master_examples : MasterExamples
unfolding items after base layout channel_1 fifty_fives packet cut given under of_channel_1 left fault_of part number bits_of low_bits
master_examples = record { master_gap_unchosen = refl; loss_in_another_channel = refl; loss_of_256_frames = refl }

-- ---- two channels, and the same in two parts, with the state between them

records_of_two_channels : List (List ℕ)
records_of_two_channels =
    (0x02 ∷ 0xA0 ∷ 0x00 ∷ 0x00 ∷ 0x18 ∷ 0x00 ∷ cut 0 18 (packet 26 0))
    ∷ (0x02 ∷ 0xA2 ∷ 0x01 ∷ 0x00 ∷ 0x18 ∷ 0x00 ∷ cut 0 18 (packet 22 0))
    ∷ (0x02 ∷ 0xA2 ∷ 0x02 ∷ 0x01 ∷ 0x18 ∷ 0x04 ∷ (cut 18 22 (packet 22 0) ++ packet 14 1))
    ∷ (0x02 ∷ 0xA0 ∷ 0x03 ∷ 0x01 ∷ 0x18 ∷ 0x08 ∷ (cut 18 26 (packet 26 0) ++ packet 10 1)) ∷ []

items_of_two_channels : List Item
items_of_two_channels = Packet 2 1 1 0 (packet 22 0) ∷ Packet 2 1 2 4 (packet 14 1) ∷ Packet 3 0 0 0 (packet 26 0) ∷ Packet 3 0 3 8 (packet 10 1) ∷ []

-- the same, stopped after so many records
stopped_after : ℕ → List Item
stopped_after n = given (take n records_of_two_channels)
    ++ items (base all_channels 65542) (left (take n records_of_two_channels)) (drop n records_of_two_channels)

-- whole and in parts, their states, one channel of them, and closed ends with ten octets left
record ChannelExamples : Type 0 where
  two_channels : given records_of_two_channels ≡ items_of_two_channels
  stopped_after_1 : stopped_after 1 ≡ items_of_two_channels
  stopped_after_2 : stopped_after 2 ≡ items_of_two_channels
  stopped_after_3 : stopped_after 3 ≡ items_of_two_channels
  stopped_after_4 : stopped_after 4 ≡ items_of_two_channels
  -- the state after three records: a tail of 18 octets on channel 0, and none on channel 1
  state_after_three : left (take 3 records_of_two_channels) ≡ record {
    records = 3;
    master = Some 2;
    channels = Some (record { count = 0; tail = Some (record { first = 0; place = 0; octets = cut 0 18 (packet 26 0) }) })
        ∷ Some (record { count = 1; tail = None }) ∷ None ∷ None ∷ None ∷ None ∷ None ∷ None ∷ [];
  }
  -- one channel of the two
  channel_one : of_channel_1 records_of_two_channels ≡ Packet 2 1 1 0 (packet 22 0) ∷ Packet 2 1 2 4 (packet 14 1) ∷ []
  -- a closed end after two records, with ten octets left
  short_rest : closing (left (take 2 records_of_two_channels)) 10
      ≡ Short 2 10 ∷ Dropped 2 0 0 0 18 why.Close ∷ Dropped 2 1 1 0 18 why.Close ∷ []
  held_after_first_record : closing (left (take 1 records_of_two_channels)) 10
      ≡ Short 1 10 ∷ Dropped 1 0 0 0 18 why.Close ∷ []

channel_examples : ChannelExamples
unfolding items after base layout channel_1 fifty_fives packet cut given under of_channel_1 left fault_of part number bits_of low_bits records_of_two_channels items_of_two_channels stopped_after
channel_examples = record { two_channels = refl; stopped_after_1 = refl; stopped_after_2 = refl; stopped_after_3 = refl; stopped_after_4 = refl; state_after_three = refl; channel_one = refl; short_rest = refl; held_after_first_record = refl }

-- sets of channels
record SetExamples : Type 0 where
  channels_of_0_and_3 : channels_of (0 ∷ 3 ∷ []) ≡ Some (true ∷ false ∷ false ∷ true ∷ false ∷ false ∷ false ∷ false ∷ [])
  mask_of_0_and_3 : mask_of (true ∷ false ∷ false ∷ true ∷ false ∷ false ∷ false ∷ false ∷ []) ≡ 9
  channels_of_0_twice : channels_of (0 ∷ 0 ∷ []) ≡ None
  mask_of_all : mask_of all_channels ≡ 255

set_examples : SetExamples
set_examples = record { channels_of_0_and_3 = refl; mask_of_0_and_3 = refl; channels_of_0_twice = refl; mask_of_all = refl }

-- ---- spelling

octets_after_three : List ℕ
octets_after_three =
    0 ∷ 0 ∷ 0 ∷ 3 ∷ 1 ∷ 2 ∷ 2 ∷ 0 ∷ 0 ∷ 0 ∷ 0 ∷ 0 ∷ 0 ∷ 0 ∷ 0 ∷ 0 ∷ 0 ∷ 18 ∷ (cut 0 18 (packet 26 0) ++ 1 ∷ 1 ∷ 0 ∷ 0 ∷ 0 ∷ 0 ∷ 0 ∷ 0 ∷ [])

decoded : List ℕ → Result DecodedState StateFault
decoded octets = state_decoding_of (base all_channels 65542) octets

old_decoded : List ℕ → Result DecodedState StateFault
old_decoded octets = old_decoding_of (base all_channels 65542) octets

-- the state after three records, spelled
spelled_after_three : state_spelling (left (take 3 records_of_two_channels)) ≡ octets_after_three
unfolding items after base layout channel_1 fifty_fives packet cut given under of_channel_1 left fault_of part number bits_of low_bits records_of_two_channels items_of_two_channels octets_after_three
spelled_after_three = refl

-- octets that are no spelling
record FaultExamples : Type 0 where
  too_short : decoded (0 ∷ 0 ∷ 0 ∷ []) ≡ Err fault.Short
  flag_3 : decoded (0 ∷ 0 ∷ 0 ∷ 0 ∷ 0 ∷ 3 ∷ []) ≡ Err fault.Flag
  -- a tail whose version is not 0, and one that begins in a record that is not done
  version_7 : decoded (0 ∷ 0 ∷ 0 ∷ 1 ∷ 0 ∷ 2 ∷ 0 ∷ 0 ∷ 0 ∷ 0 ∷ 0 ∷ 0 ∷ 0 ∷ 0 ∷ 0 ∷ 0 ∷ 1 ∷ 0xE0 ∷ 0 ∷ 0 ∷ 0 ∷ 0 ∷ 0 ∷ 0 ∷ 0 ∷ []) ≡ Err fault.Tail
  begins_later : decoded (0 ∷ 0 ∷ 0 ∷ 1 ∷ 0 ∷ 2 ∷ 0 ∷ 0 ∷ 0 ∷ 0 ∷ 1 ∷ 0 ∷ 0 ∷ 0 ∷ 0 ∷ 0 ∷ 1 ∷ 0xE0 ∷ 0 ∷ 0 ∷ 0 ∷ 0 ∷ 0 ∷ 0 ∷ 0 ∷ []) ≡ Err fault.Place
  -- in the form of versions 1 and 2
  old_flag_3 : old_decoded (0 ∷ 0 ∷ 0 ∷ 0 ∷ 3 ∷ []) ≡ Err fault.Flag
  master_flag_2 : decoded (0 ∷ 0 ∷ 0 ∷ 0 ∷ 2 ∷ []) ≡ Err fault.Flag
  no_master_count : decoded (0 ∷ 0 ∷ 0 ∷ 0 ∷ 1 ∷ []) ≡ Err fault.Short

fault_examples : FaultExamples
unfolding base layout decoded old_decoded state_decoding_of old_decoding_of blocks_read block_read master_read part number bits_of low_bits
fault_examples = record { too_short = refl; flag_3 = refl; version_7 = refl; begins_later = refl; old_flag_3 = refl; master_flag_2 = refl; no_master_count = refl }
