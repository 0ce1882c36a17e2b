-- Worked examples: the numbers compute.
use Rattle.std.proofs.Common.{◌≡◌, ℕ, false, [], ◌∷◌, replicate, refl}
use Rattle.tm_frame.specs.declared.frame.Kind.{Kind}
use Rattle.tm_frame.specs.declared.frame.Kind.TheVariants as kind
use Rattle.tm_frame.specs.Frame.{GoodFrame}
use Rattle.tm_packet.specs.declared.header.Flags.TheVariants as flag
use Rattle.tm_packet.specs.declared.notes.Note.TheVariants as note
use Rattle.tm_packet.specs.declared.notes.Why.TheVariants as broken_by
use Rattle.tm_items.specs.declared.items.Reason.TheVariants as why
use Rattle.tm_items.specs.Item.{MasterGap, Gap, Vca, Dropped, Packet, Short}
use Rattle.tm_summary.specs.declared.channel.Loss.{Loss}
use Rattle.tm_summary.specs.SummaryNumbers.{application_of, channel_counts, in_all, items_on, for_numbers}

abbrev frame : Kind → ℕ → GoodFrame
frame kind octets = record {
  field = replicate octets 85;
  channel = 0;
  master_count = 0;
  count = 0;
  kind = kind;
  secondary_length = 0;
  has_ocf = false;
  order_flag = false;
  segment = 3;
}

abbrev loss : ℕ → ℕ → Loss
loss parts octets = record { parts = parts; octets = octets }

-- A frame that is recorded twice: both packets are given, and 255 frames are missing.
-- guards: each-number-is-a-count-over-whole-lists
frame_twice : channel_counts (frame (kind.Packets 0) 18 ∷ frame (kind.Packets 0) 18 ∷ [])
    (items_on 0
    (Packet 0 0 0 0 (replicate 18 85) ∷ MasterGap 1 1 0 255 ∷ Gap 1 0 1 0 255 ∷ Packet 1 0 1 0 (replicate 18 85) ∷ []))
    ≡ record {
      frames = 2;
      idle = 0;
      vca = 0;
      gaps = 1;
      missing = 255;
      packets = 2;
      octets = 36;
      dropped = 0;
      lost = 0;
      data_octets = 36;
      losses = replicate 7 (loss 0 0);
    }
unfolding in_all for_numbers
frame_twice = refl

-- A VCA frame ends a packet, what follows it begins with no start, and the end cuts another packet off. What is of channel 1 is left out.
-- guards: each-number-is-a-count-over-whole-lists
vca_frame : channel_counts (frame (kind.Packets 0) 18 ∷ frame kind.Vca 18 ∷ frame kind.Idle 18 ∷ frame (kind.Packets 6) 21 ∷ [])
    (items_on 0
    (Packet 0 0 0 0 (replicate 10 85) ∷ Vca 1 0 ∷ Dropped 1 0 0 10 8 why.Vca ∷ Gap 2 1 4 6 2 ∷ Dropped 3 1 3 0 7 why.NoStart
    ∷ Dropped 3 0 3 0 6 why.NoStart ∷ Packet 3 0 3 6 (replicate 12 85) ∷ Short 4 5 ∷ Dropped 4 0 3 18 3 why.Close ∷ []))
    ≡ record {
      frames = 4;
      idle = 1;
      vca = 1;
      gaps = 0;
      missing = 0;
      packets = 2;
      octets = 22;
      dropped = 3;
      lost = 17;
      data_octets = 39;
      losses = loss 0 0 ∷ loss 0 0 ∷ loss 1 8 ∷ loss 1 3 ∷ loss 1 6 ∷ loss 0 0 ∷ loss 0 0 ∷ [];
    }
unfolding in_all for_numbers
vca_frame = refl

-- A group that a gap breaks, a stray, and a group that the end breaks.
-- guards: each-number-is-a-count-over-whole-lists
notes : application_of (Packet 0 0 0 0 (replicate 7 85) ∷ Packet 0 0 0 7 (replicate 7 85) ∷ Packet 5 0 5 0 (replicate 9 85) ∷ [])
    (note.Gap 1 2 1 ∷ note.Broken 16383 0 broken_by.Gap ∷ note.Stray 2 flag.Last ∷ note.Broken 3 3 broken_by.Close ∷ [])
    ≡ record {
      packets = 3;
      octets = 23;
      first = 0;
      last = 5;
      gaps = 1;
      missing = 1;
      groups = 0;
      broken = 2;
      strays = 1;
    }
unfolding in_all
notes = refl
