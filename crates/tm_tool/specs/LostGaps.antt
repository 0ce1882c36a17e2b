-- What is lost at stops. A checkpoint of an older version loses the last master channel count, and so the gap of the first good
-- frame after it.
use Rattle.std.specs.Prelude.{◌≡◌, ◌<◌, ◌≤◌, ◌+◌, ◌^◌, ℕ, Bool, true, not, if◌then◌else◌, List, [], ◌∷◌, ◌++◌, length, drop}
use Rattle.std.specs.List.{AllByRecursion, count_by}
use Rattle.tm_frame.specs.Layout.{record_length_of}
use Rattle.tm_packet.specs.Merge.{Entries}
use Rattle.tm_items.specs.Item.{Item}
use Rattle.tm_frame.specs.Rules.{IsLimit, Rules}
use Rattle.tm_reassembly.specs.OlderForms.{first_good_record, is_gap_at}
use Rattle.tm_reassembly.specs.Recording.{readings}
use Rattle.tm_reassembly.specs.Valid.{AllOctets}
use Rattle.tm_output.specs.declared.command.Ending.{Ending}
use Rattle.tm_output.specs.Outputs.{Piece}
use Rattle.tm_output.specs.Pieces.{Texts, noted, piece_of}
use Rattle.tm_output.specs.Records.{records, rest_of}
use Rattle.tm_checkpoint.specs.declared.version.Version.{Version}
use Rattle.tm_checkpoint.specs.Checkpoints.{form_of, tells}
use Rattle.tm_checkpoint.specs.Works.{JobState, Work, new_job}
use Rattle.tm_tool.specs.RecordingPieces.{records_for, end_pieces, further, items_of, worked}
use Rattle.tm_tool.specs.Resuming.{Follows, Stop, done_after, done_in_all, in_one, resumed_pieces, run_pieces}

-- the settings can be told in each stop's version
abbrev pub AllTell : Rules → List Stop → Type 0
AllTell settings stops = AllByRecursion (λ stop. tells stop.version settings ≡ true) stops

-- Where this many records are done, and the job is written in this version: the record of the first good frame after them, if its gap is lost.
abbrev pub lost_gap_at : Rules → List ℕ → Version → ℕ → List ℕ
lost_gap_at settings last version done =
    if (form_of version).with_master then []
    else first_good_record done (readings settings.layout (drop done (records (record_length_of settings.layout) last)))

-- how many records are done after a stop, where this many were done before
abbrev pub done_at : Rules → ℕ → Stop → ℕ
done_at settings done stop = done_after stop.ending done (length (records (record_length_of settings.layout) stop.recording))

-- the records of those frames, at all stops
abbrev pub lost_gaps : Rules → List ℕ → ℕ → List Stop → List ℕ
lost_gaps settings last done [] = []
lost_gaps settings last done (stop ∷ stops) =
    lost_gap_at settings last stop.version (done_at settings done stop) ++ lost_gaps settings last (done_at settings done stop) stops

-- how many stops are of an older version
abbrev pub older_count : List Stop → ℕ
older_count stops = count_by (λ stop. not (form_of stop.version).with_master) stops

module _ {A : Type 0} (text : Texts A) (lost : List ℕ) where
  -- the pieces of items, but for those of the gaps of the master channel at these records
  abbrev pub item_pieces_without_gaps : Entries → List Item → List (Piece A)
  item_pieces_without_gaps entries [] = []
  item_pieces_without_gaps entries (x ∷ xs) =
      (if is_gap_at lost x then [] else piece_of text entries x ∷ []) ++ item_pieces_without_gaps (noted entries x) xs

  -- those of records and of the ending, where this many octets are left
  abbrev pub pieces_without_gaps : Ending → Work → List (List ℕ) → ℕ → List (Piece A)
  pieces_without_gaps ending w rs rest = item_pieces_without_gaps w.entries (items_of w rs) ++ end_pieces text ending (worked w rs) rest

-- the pieces for one run but for those gaps
unfoldable pub run_pieces_without_gaps : {A : Type 0} → (Bool → List (Piece A)) → Texts A → List ℕ → Ending → JobState → List ℕ → List (Piece A)
run_pieces_without_gaps head text lost ending job recording =
    head job.fresh
    ++ pieces_without_gaps text lost ending job.work (records_for ending (further job.work recording))
    (length (rest_of (record_length_of job.work.rules.layout) recording))

module _ {A : Type 0} (head : Bool → List (Piece A)) (text : Texts A) where
  -- jobs that are resumed from checkpoints of any version give in all what one run gives, but for those gaps
  abbrev pub LosesOnlyGaps : Type 0
  LosesOnlyGaps = (ending : Ending) (last : List ℕ) (settings : Rules) (stops : List Stop) →
      length settings.channels ≡ 8 → IsLimit settings.max_packet → AllOctets (records (record_length_of settings.layout) last) →
      length (records (record_length_of settings.layout) last) < 2 ^ 32 →
      AllTell settings stops → Follows (record_length_of settings.layout) last [] stops →
      resumed_pieces head text ending last settings (new_job settings) stops
      ≡ run_pieces_without_gaps head text (lost_gaps settings last 0 stops)
      (in_one ending (done_in_all (record_length_of settings.layout) ending last 0 stops)) (new_job settings) last

  -- and so each stop of an older version loses at most one piece
  abbrev pub LosesFewPieces : Type 0
  LosesFewPieces = (ending : Ending) (last : List ℕ) (settings : Rules) (stops : List Stop) → IsLimit settings.max_packet →
      length (run_pieces head text ending (new_job settings) last)
      ≤ length (run_pieces_without_gaps head text (lost_gaps settings last 0 stops) ending (new_job settings) last) + older_count stops
