-- What a run gave and lost, in numbers, each of whole lists.
use Rattle.std.specs.Prelude.{ℕ, ◌%◌, ◌^◌, ◌||◌, ◌&&◌, Bool, true, false, is_none, map, replicate, List, [], ◌∷◌, ◌++◌, Result, Ok, Err, sum_by, if◌then◌else◌}
use Rattle.std.specs.List.{flat_map, list_any}
use Rattle.tm_frame.specs.declared.fault.FrameFault.{FrameFault}
use Rattle.tm_frame.specs.declared.layout.LayoutParts.{LayoutParts}
use Rattle.tm_frame.specs.Fault.{frame_reading_of}
use Rattle.tm_frame.specs.Frame.{GoodFrame}
use Rattle.tm_frame.specs.Rules.{Rules, chooses}
use Rattle.tm_packet.specs.Merge as sequence
use Rattle.tm_items.specs.Item.{Item, Vca, Packet, Short}
use Rattle.tm_reassembly.specs.Items.{closing}
use Rattle.tm_output.specs.declared.command.Ending.{Ending}
use Rattle.tm_output.specs.declared.command.Ending.TheVariants.{Close, Keep, StopAfter}
use Rattle.tm_output.specs.declared.totals.Totals.{Totals}
use Rattle.tm_output.specs.Pieces.{Texts, noted_all}
use Rattle.tm_output.specs.Totals.{is_some_text, note_tells_loss}
use Rattle.tm_summary.specs.Kinds.{Noted, is_bad, drop_octets, master_missing}
use Rattle.tm_reassembly.specs.Steps.{last_count_of}
use Rattle.tm_summary.specs.SummaryNumbers.{Tally, below, how_many, in_all}
use Rattle.tm_summary.specs.Tallies.{notes_among, open_notes}
use Rattle.tm_checkpoint.specs.Works.{Work}
use Rattle.tm_tool.specs.RecordingPieces.{items_of, worked}

-- ---- what a run tells: good frames, items and notes

-- the good frame that a record reads as, if it is one
abbrev pub frames_in : Result GoodFrame FrameFault → List GoodFrame
frames_in (Ok frame) = frame ∷ []
frames_in (Err fault) = []

-- the good frames of records, of all channels
abbrev pub good_frames : LayoutParts → List (List ℕ) → List GoodFrame
good_frames layout rs = flat_map (λ octets. frames_in (frame_reading_of layout octets)) rs

-- the items of an ending, where this many octets are left: only a closed end has some
abbrev pub end_items : Ending → Work → ℕ → List Item
end_items Close w rest = closing w.state rest
end_items Keep w rest = []
end_items (StopAfter n) w rest = []

-- and the notes of the groups that are open there
abbrev pub closing_notes : Ending → sequence.Entries → List Noted
closing_notes Close entries = open_notes (sequence.unclosed 0 entries)
closing_notes Keep entries = []
closing_notes (StopAfter n) entries = []

-- all items of records and of the ending
abbrev pub run_items : Ending → Work → List (List ℕ) → ℕ → List Item
run_items ending w rs rest = items_of w rs ++ end_items ending (worked w rs) rest

abbrev pub run_tally : Ending → Work → List (List ℕ) → ℕ → Tally
run_tally ending w rs rest = record {
  frames = good_frames w.rules.layout rs;
  items = run_items ending w rs rest;
  notes = notes_among w.entries (run_items ending w rs rest) ++ closing_notes ending (noted_all w.entries (run_items ending w rs rest));
}

-- ---- in numbers

-- the channel is chosen, and no good frame of it came by now
abbrev pub is_absent : Work → ℕ → Bool
is_absent w channel = chooses w.rules channel && is_none (last_count_of w.state channel)

abbrev pub absent_channels : Work → List Bool
absent_channels w = map (is_absent w) (below 8)

-- the report has a line of the item, and it tells a loss: all but those of a VCA frame and of a rest do
abbrev pub item_tells_loss : Item → Bool
item_tells_loss (Vca seen channel) = false
item_tells_loss (Packet seen channel first place octets) = false
item_tells_loss (Short seen octets) = false
item_tells_loss _ = true

module _ {A : Type 0} (text : Texts A) where
  -- the report says that the item is a packet that is too short
  abbrev pub is_remarked : Item → Bool
  is_remarked x = is_some_text (text.remark x)

  abbrev pub totals_of : Rules → Tally → Totals
  totals_of rules t = record {
    good = how_many (λ f. chooses rules f.channel) t.frames;
    bad = how_many is_bad t.items;
    missing = in_all master_missing t.items;
    dropped = in_all drop_octets t.items;
    packets = sum_by (λ x. if text.given x then 1 else 0) t.items % 2 ^ 64;
    short = how_many is_remarked t.items;
    has_losses = list_any item_tells_loss t.items || (list_any (λ n. note_tells_loss n.note) t.notes || list_any is_remarked t.items);
    absent = replicate 8 false;
  }

  -- those of a run over these records, where the ending leaves this many octets; after them it is known which channels didn't come
  abbrev pub run_totals : Ending → Work → List (List ℕ) → ℕ → Totals
  run_totals ending w rs rest = record (totals_of w.rules (run_tally ending w rs rest)) { absent = absent_channels (worked w rs) }
