-- What a job reports less that was read from an older version, and so has no last master channel count: the line of one gap.
use Rattle.std.specs.Prelude.{◌≡◌, ℕ, Bool, true, false, List, [], ◌++◌, map}
use Rattle.tm_items.specs.Item.{Item}
use Rattle.tm_reassembly.specs.OlderForms.{leading_bad_items, first_master_gap}
use Rattle.tm_reassembly.specs.Recording.{readings}
use Rattle.tm_reassembly.specs.Valid.{IsValidState}
use Rattle.tm_output.specs.declared.command.Ending.{Ending}
use Rattle.tm_output.specs.Outputs.{Piece}
use Rattle.tm_output.specs.Pieces.{Texts, item_line}
use Rattle.tm_checkpoint.specs.Checkpoints.{kept_in, resumed, spelled_in, tells, work_without_master}
use Rattle.tm_checkpoint.specs.Works.{IsWork, Work}
use Rattle.tm_checkpoint.specs.declared.version.Version.{Version}
use Rattle.tm_tool.specs.RecordingPieces.{further, pieces, records_for}
use Rattle.tm_tool.specs.Resuming.{Stop, resumed_pieces, then_pieces}

-- the pieces of items that have a line for the report, and nothing else
abbrev pub report_line_pieces : {A : Type 0} → List Item → List (Piece A)
report_line_pieces xs = map (λ x. record { out = []; report = item_line x }) xs

-- The fewer pieces are all that begin with these records of a work, in their order. Only the master gap of the first good frame
-- is left out, if one comes and has one. Before it stand only the lines of bad records.
pub record LacksGapLine {A : Type 0} (w : Work) (rs : List (List ℕ)) (all fewer : List (Piece A)) : Type 0 where
  pub back : List (Piece A)
  pub all_is : all ≡ report_line_pieces (leading_bad_items w.state.records (readings w.rules.layout rs))
      ++ (report_line_pieces (first_master_gap w.state.master w.state.records (readings w.rules.layout rs)) ++ back)
  pub fewer_is : fewer ≡ report_line_pieces (leading_bad_items w.state.records (readings w.rules.layout rs)) ++ back

-- a job from a checkpoint of any version gives, in this and all later runs, what the job of the work that the version keeps gives
abbrev pub GoesOnFromKept : {A : Type 0} → (Bool → List (Piece A)) → Texts A → Type 0
GoesOnFromKept head text = (v : Version) (w : Work) (ending : Ending) (last : List ℕ) (stops : List Stop) → IsWork w → tells v w.rules ≡ true →
    then_pieces (resumed w.rules (spelled_in v w)) (λ job. resumed_pieces head text ending last w.rules job stops)
    ≡ resumed_pieces head text ending last w.rules (record { work = kept_in v w; fresh = false }) stops

-- without the last master channel count one gap's line is lacking
abbrev pub LacksOneGap : {A : Type 0} → Texts A → Type 0
LacksOneGap text = (ending : Ending) (w : Work) (recording : List ℕ) → IsValidState w.rules w.state →
    LacksGapLine w (records_for ending (further w recording)) (pieces text ending w recording)
    (pieces text ending (work_without_master w) recording)
