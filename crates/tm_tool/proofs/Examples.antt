-- Worked examples: what the definitions say is written of known recordings.
use Rattle.std.proofs.Common.{◌≡◌, ℕ, ◌-◌, ◌/◌, ◌%◌, true, false, List, [], ◌∷◌, ◌++◌, take, drop, refl, codes, replicate}
use Rattle.std.specs.Fmt.{digits}
use Rattle.std.specs.List.{concat}
use Rattle.tm_bits.specs.Bits.{bits_of, low_bits, number, part}
use Rattle.tm_fields.specs.declared.field.DataType.TheVariants.{Uint, Int, Float, Str, Fill}
use Rattle.tm_fields.specs.declared.field.Field.{Field}
use Rattle.tm_fields.specs.Rows.{head_of, row_of}
use Rattle.tm_frame.specs.declared.layout.LayoutParts.{LayoutParts}
use Rattle.tm_frame.specs.declared.layout.Presence.TheVariants.{Flag}
use Rattle.tm_frame.specs.Fault.{fault_of}
use Rattle.tm_packet.specs.declared.header.Flags.TheVariants.{Unsegmented}
use Rattle.tm_packet.specs.declared.notes.Note.TheVariants as note
use Rattle.tm_packet.specs.declared.notes.Why.TheVariants as why
use Rattle.tm_packet.specs.Header.{Fields}
use Rattle.tm_packet.specs.Merge.{no_entries}
use Rattle.tm_items.specs.declared.items.Reason.TheVariants as reason
use Rattle.tm_frame.specs.Channels.{all_channels}
use Rattle.tm_reassembly.specs.Recording.{items, after}
use Rattle.tm_output.specs.declared.command.Command.TheVariants.{Extract, Packets}
use Rattle.tm_output.specs.declared.command.Ending.TheVariants.{Close, Keep, StopAfter}
use Rattle.tm_checkpoint.specs.Checkpoints.{version_in, resumed, spelled_in, work_without_master}
use Rattle.tm_frame.specs.ErrorControl.{error_control_of, long_division, subtract}
use Rattle.tm_packet.specs.Spelling.{state_of}
use Rattle.tm_reassembly.specs.Checkpoint.{block_read, blocks_read, state_decoding_of, master_read, old_decoding_of}
use Rattle.tm_fields.specs.declared.rows.RowForm.TheVariants.{Text}
use Rattle.tm_output.specs.FieldRows.{tabled, too_short}
use Rattle.tm_checkpoint.specs.Works.{new_job, Work}
use Rattle.tm_checkpoint.specs.declared.version.Version.TheVariants as version
use Rattle.tm_tool.specs.HeadPieces.{head_pieces, rows_head}
use Rattle.tm_tool.specs.LostGaps.{AllTell, lost_gaps, run_pieces_without_gaps}
use Rattle.tm_tool.specs.Resuming.{Follows, Stop, resumed_pieces}
use Rattle.tm_lines.specs.Lines.{drop_line, gap_line, master_gap_line, note_line, packet_line, short_line, short_packet_line}
use Rattle.tm_output.specs.Outputs.{outs, reports}
use Rattle.tm_tool.specs.RecordingPieces.{pieces, worked}
use Rattle.tm_output.specs.Pieces.{item_line, listed, noted, notes_of, packet_octets, report_of, rows_text, text_of, unclosed_piece}
use Rattle.tm_output.specs.Records.{records, rest_of}

-- frames of this many octets of spacecraft 42: a data field has six fewer
layout : ℕ → LayoutParts
layout n = record { frame_length = n; skip_before = 0; skip_after = 0; spacecraft = 42; secondary = Flag; ocf = Flag; error_control = false }

-- a job before any record, of all channels and of packets of any length
job : ℕ → Work
job n = (new_job (record { layout = layout n; channels = all_channels; max_packet = 65542 })).work

fifty_fives : ℕ → List ℕ
fifty_fives n = replicate n 0x55

-- a packet of n octets of application 100 with this count, and octets of it from one up to, not with, another
packet : ℕ → ℕ → List ℕ
packet n count = 0 ∷ 100 ∷ 0xC0 ∷ count ∷ (n - 7) / 256 ∷ (n - 7) % 256 ∷ fifty_fives (n - 6)

cut : ℕ → ℕ → List ℕ → List ℕ
cut from to octets = take (to - from) (drop from octets)

-- the header of an unsegmented packet of application 100 with this count
header : ℕ → ℕ → Fields
header count data_length = record {
  telecommand = false;
  secondary = false;
  application = 100;
  flags = Unsegmented;
  count = count;
  data_length = data_length;
}

-- a frame is missing: of the master channel, and of its own
before_gap : List (List ℕ)
before_gap =
    (0x02 ∷ 0xA0 ∷ 0xFE ∷ 0xFE ∷ 0x18 ∷ 0x00 ∷ packet 18 0) ∷ (0x02 ∷ 0xA0 ∷ 0xFF ∷ 0xFF ∷ 0x18 ∷ 0x00 ∷ packet 18 1)
    ∷ (0x02 ∷ 0xA0 ∷ 0x00 ∷ 0x00 ∷ 0x18 ∷ 0x00 ∷ (packet 10 2 ++ cut 0 8 (packet 14 3))) ∷ []

with_gap : List ℕ
with_gap = concat before_gap ++ (0x02 ∷ 0xA0 ∷ 0x02 ∷ 0x02 ∷ 0x18 ∷ 0x06 ∷ (fifty_fives 6 ++ packet 12 4))

-- what is reported of it after the line of the master channel
behind_master : List ℕ
behind_master = gap_line 3 0 1 2 1 ++ (drop_line 3 0 2 10 8 reason.Gap ++ (drop_line 3 0 3 0 6 reason.NoStart ++ note_line 3 0 100 (note.Gap 3 4 1)))

record PacketExamples : Type 0 where
  two_packets : outs (pieces (text_of Packets) Close (job 24) (0x02 ∷ 0xA0 ∷ 0x00 ∷ 0x00 ∷ 0x18 ∷ 0x00 ∷ (packet 7 0 ++ packet 11 1)))
      ≡ packet_line 0 0 0 0 (header 0 0) 7 ++ (packet_line 0 0 0 7 (header 1 4) 11 ++ [])
  pointer_drop_and_sequence_gap : reports (pieces (text_of Extract) Close (job 24)
      ((0x02 ∷ 0xA0 ∷ 0x00 ∷ 0x00 ∷ 0x18 ∷ 0x00 ∷ (packet 10 0 ++ cut 0 8 (packet 14 1)))
      ++ (0x02 ∷ 0xA0 ∷ 0x01 ∷ 0x01 ∷ 0x18 ∷ 0x08 ∷ (fifty_fives 8 ++ packet 10 2))))
      ≡ drop_line 1 0 0 10 8 reason.Pointer ++ (drop_line 1 0 1 0 8 reason.Pointer ++ ((note_line 1 0 100 (note.Gap 1 2 1) ++ []) ++ []))
  two_channels : outs (pieces (text_of Extract) Close (job 24)
      ((0x02 ∷ 0xA0 ∷ 0x00 ∷ 0x00 ∷ 0x18 ∷ 0x00 ∷ cut 0 18 (packet 26 0))
      ++ ((0x02 ∷ 0xA2 ∷ 0x01 ∷ 0x00 ∷ 0x18 ∷ 0x00 ∷ cut 0 18 (packet 22 0))
      ++ ((0x02 ∷ 0xA2 ∷ 0x02 ∷ 0x01 ∷ 0x18 ∷ 0x04 ∷ (cut 18 22 (packet 22 0) ++ packet 14 1))
      ++ (0x02 ∷ 0xA0 ∷ 0x03 ∷ 0x01 ∷ 0x18 ∷ 0x08 ∷ (cut 18 26 (packet 26 0) ++ packet 10 1))))))
      ≡ packet 22 0 ++ (packet 14 1 ++ (packet 26 0 ++ packet 10 1))

packet_examples : PacketExamples
unfolding pieces records rest_of items after packet_octets listed report_of item_line drop_line note_line short_line digits noted notes_of no_entries unclosed_piece header layout job fifty_fives packet cut fault_of part number bits_of low_bits
packet_examples = record { two_packets = refl; pointer_drop_and_sequence_gap = refl; two_channels = refl }

record GapExamples : Type 0 where
  frame_gap : reports (pieces (text_of Extract) Close (job 24) with_gap) ≡ master_gap_line 3 1 2 1 ++ behind_master
  -- from before that frame: all of it; and without the last master channel count, as from an older checkpoint, all but the line of the master channel
  gap_resumed : reports (pieces (text_of Extract) Close (worked (job 24) before_gap) with_gap) ≡ master_gap_line 3 1 2 1 ++ behind_master
  gap_resumed_without : reports (pieces (text_of Extract) Close (work_without_master (worked (job 24) before_gap)) with_gap) ≡ behind_master

gap_examples : GapExamples
unfolding pieces records rest_of items after packet_octets listed report_of item_line master_gap_line gap_line drop_line note_line short_line digits noted notes_of no_entries unclosed_piece layout job fifty_fives packet cut before_gap with_gap behind_master fault_of part number bits_of low_bits
gap_examples = record { frame_gap = refl; gap_resumed = refl; gap_resumed_without = refl }

record EndExamples : Type 0 where
  groups : reports (pieces (text_of Extract) Close (job 27)
      ((0x02 ∷ 0xA0 ∷ 0x00 ∷ 0x00 ∷ 0x18 ∷ 0x00
      ∷ (0x00 ∷ 0x64 ∷ 0x40 ∷ 0x05 ∷ 0x00 ∷ 0x00 ∷ 0x55 ∷ 0x00 ∷ 0x64 ∷ 0x00 ∷ 0x06 ∷ 0x00 ∷ 0x00 ∷ 0x55 ∷ 0x00 ∷ 0x64 ∷ 0x80 ∷ 0x07 ∷ 0x00 ∷ 0x00 ∷ 0x55 ∷ []))
      ++ ((0x02 ∷ 0xA0 ∷ 0x01 ∷ 0x01 ∷ 0x18 ∷ 0x00 ∷ (0x00 ∷ 0x64 ∷ 0x40 ∷ 0x08 ∷ 0x00 ∷ 0x00 ∷ 0x55 ∷ packet 14 9))
      ++ (0x02 ∷ 0xA0 ∷ 0x02 ∷ 0x02 ∷ 0x18 ∷ 0x00 ∷ (0x00 ∷ 0x64 ∷ 0x40 ∷ 0x0A ∷ 0x00 ∷ 0x00 ∷ 0x55 ∷ 0x07 ∷ 0xFF ∷ 0xC0 ∷ 0x00 ∷ 0x00 ∷ 0x07 ∷ fifty_fives 8)))))
      ≡ (note_line 0 0 100 (note.Whole 5 7) ++ [])
      ++ ((note_line 1 0 100 (note.Broken 8 8 why.Unsegmented) ++ []) ++ (note_line 3 0 100 (note.Broken 10 10 why.Close) ++ []))
  short_rest : reports (pieces (text_of Extract) Close (job 24)
      ((0x02 ∷ 0xA0 ∷ 0x00 ∷ 0x00 ∷ 0x18 ∷ 0x00 ∷ cut 0 18 (packet 26 0))
      ++ ((0x02 ∷ 0xA2 ∷ 0x01 ∷ 0x00 ∷ 0x18 ∷ 0x00 ∷ cut 0 18 (packet 22 0)) ++ replicate 10 0)))
      ≡ short_line 2 10 ++ (drop_line 2 0 0 0 18 reason.Close ++ (drop_line 2 1 1 0 18 reason.Close ++ []))

end_examples : EndExamples
unfolding pieces records rest_of items after packet_octets listed report_of item_line drop_line note_line short_line digits noted notes_of no_entries unclosed_piece header layout job fifty_fives packet cut fault_of part number bits_of low_bits
end_examples = record { groups = refl; short_rest = refl }

-- stopped after each of the three, and resumed through checkpoints of the versions 1, 3 and 2: for one run just that line is
-- left out
mixed_stops : List Stop
mixed_stops =
    record { ending = Keep; recording = take 24 with_gap; version = version.One }
    ∷ record { ending = StopAfter 1; recording = with_gap; version = version.Three }
    ∷ record { ending = StopAfter 1; recording = with_gap; version = version.Two } ∷ []

mixed_follows : Follows 24 with_gap [] mixed_stops × AllTell (job 24).rules mixed_stops
unfolding records layout job fifty_fives packet cut before_gap with_gap mixed_stops
mixed_follows = (
  (records 24 (take 24 with_gap), refl, tt, (drop 1 (records 24 with_gap), refl, tt, (drop 2 (records 24 with_gap), refl, tt, (drop 3 (records 24 with_gap), refl)))),
  (refl, (refl, (refl, tt))),
)

record StopExamples : Type 0 where
  mixed_lost : lost_gaps (job 24).rules with_gap 0 mixed_stops ≡ 1 ∷ 3 ∷ []
  mixed_one_run : reports (run_pieces_without_gaps (head_pieces Extract) (text_of Extract) (1 ∷ 3 ∷ []) Close (new_job (job 24).rules) with_gap) ≡ behind_master
  -- so the runs themselves, with their checkpoints
  mixed_runs : reports (resumed_pieces (head_pieces Extract) (text_of Extract) Close with_gap (job 24).rules (new_job (job 24).rules) mixed_stops) ≡ behind_master

stop_examples : StopExamples
unfolding run_pieces_without_gaps resumed version_in spelled_in mixed_stops pieces state_of block_read blocks_read master_read state_decoding_of old_decoding_of error_control_of long_division subtract records rest_of items after packet_octets listed report_of item_line master_gap_line gap_line drop_line note_line short_line digits noted notes_of no_entries unclosed_piece layout job fifty_fives packet cut before_gap with_gap behind_master fault_of part number bits_of low_bits
stop_examples = record { mixed_lost = refl; mixed_one_run = refl; mixed_runs = refl }

-- ---- rows of fields

five_fields : List Field
five_fields =
    record { name = codes "VERSION"; data_type = Uint; begin = 48; length = 8 }
    ∷ record { name = codes "LEVEL"; data_type = Int; begin = 56; length = 12 }
    ∷ record { name = codes "PAD"; data_type = Fill; begin = 68; length = 4 }
    ∷ record { name = codes "LABEL"; data_type = Str; begin = 72; length = 24 }
    ∷ record { name = codes "RATE"; data_type = Float; begin = 96; length = 32 } ∷ []

one_packet : List ℕ
one_packet =
    0x02 ∷ 0xA0 ∷ 0x00 ∷ 0x00 ∷ 0x18 ∷ 0x00
    ∷ 0x00 ∷ 0x64 ∷ 0xC0 ∷ 0x00 ∷ 0x00 ∷ 0x09 ∷ 0x07 ∷ 0xFF ∷ 0xF0 ∷ 0x61 ∷ 0x2C ∷ 0x62 ∷ 0x3F ∷ 0x80 ∷ 0x00 ∷ 0x00 ∷ []

record RowExamples : Type 0 where
  head_and_row : outs (rows_head five_fields true ++ pieces (rows_text Text five_fields 100) Close (job 22) one_packet)
      ≡ head_of five_fields ++ (row_of five_fields (record { seen = 0; channel = 0; application = 100; count = 0 }) (drop 6 one_packet) ++ [])
  other_application : outs (rows_head five_fields true ++ pieces (rows_text Text five_fields 101) Close (job 22) one_packet)
      ≡ head_of five_fields ++ []
  one_bit_short : reports (pieces (rows_text Text (record { name = codes "EXTRA"; data_type = Uint; begin = 128; length = 1 } ∷ five_fields) 100) Close (job 22) one_packet)
      ≡ short_packet_line 0 0 0 0 129 128

row_examples : RowExamples
unfolding pieces records rest_of items after tabled too_short report_of item_line short_packet_line noted notes_of no_entries unclosed_piece layout job five_fields one_packet fault_of part number bits_of low_bits digits
row_examples = record { head_and_row = refl; other_application = refl; one_bit_short = refl }
