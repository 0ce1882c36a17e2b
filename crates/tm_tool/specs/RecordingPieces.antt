-- The pieces of a recording, from where a job has got: those of its records, and of its ending.
use Rattle.std.specs.Prelude.{◌≡◌, ℕ, List, [], ◌++◌, length, drop}
use Rattle.tm_frame.specs.Layout.{record_length_of}
use Rattle.tm_packet.specs.Merge as sequence
use Rattle.tm_items.specs.Item.{Item}
use Rattle.tm_reassembly.specs.Items.{closing}
use Rattle.tm_reassembly.specs.Recording.{items, after}
use Rattle.tm_reassembly.specs.Valid.{IsValidState}
use Rattle.tm_checkpoint.specs.Works.{Work}
use Rattle.tm_output.specs.declared.command.Ending.{Ending}
use Rattle.tm_output.specs.declared.command.Ending.TheVariants.{Close, Keep, StopAfter}
pub use Rattle.tm_tool.specs.Endings.{records_for}
use Rattle.tm_output.specs.Outputs.{Piece}
use Rattle.tm_output.specs.Pieces.{Texts, noted_all, pieces_of, unclosed_pieces}
use Rattle.tm_output.specs.Records.{records, rest_of}

abbrev pub items_of : Work → List (List ℕ) → List Item
items_of w rs = items w.rules w.state rs

-- the job after more records
abbrev pub worked : Work → List (List ℕ) → Work
worked w rs = record {
  rules = w.rules;
  state = after w.rules w.state rs;
  entries = noted_all w.entries (items_of w rs);
}

-- ---- endings

-- the records of a recording that follow those that are done
abbrev pub further : Work → List ℕ → List (List ℕ)
further w recording = drop w.state.records (records (record_length_of w.rules.layout) recording)

module _ {A : Type 0} (text : Texts A) where
  -- the pieces of records
  abbrev pub record_pieces : Work → List (List ℕ) → List (Piece A)
  record_pieces w rs = pieces_of text w.entries (items_of w rs)

  -- the pieces of a closed end, where this many octets are left: its items, and then the groups that are open
  abbrev pub closing_pieces : Work → ℕ → List (Piece A)
  closing_pieces w rest =
      pieces_of text w.entries (closing w.state rest)
      ++ unclosed_pieces w.state.records (sequence.unclosed 0 (noted_all w.entries (closing w.state rest)))

  -- what follows the records at an ending: a closed end has its pieces, where a job is kept there is nothing
  abbrev pub end_pieces : Ending → Work → ℕ → List (Piece A)
  end_pieces Close w rest = closing_pieces w rest
  end_pieces Keep w rest = []
  end_pieces (StopAfter n) w rest = []

  -- the pieces of records and of the ending, where this many octets are left
  abbrev pub pieces_after : Ending → Work → List (List ℕ) → ℕ → List (Piece A)
  pieces_after ending w rs rest = record_pieces w rs ++ end_pieces ending (worked w rs) rest

  -- the pieces of a recording, from where the job has got
  unfoldable pub pieces : Ending → Work → List ℕ → List (Piece A)
  pieces ending w recording =
      pieces_after ending w (records_for ending (further w recording)) (length (rest_of (record_length_of w.rules.layout) recording))

  -- the pieces of two lists of records are those of the first, and then those of the second from the work that the first leaves
  abbrev pub JoinsPieces : Type 0
  JoinsPieces = (w : Work) (a b : List (List ℕ)) → IsValidState w.rules w.state →
      record_pieces w (a ++ b) ≡ record_pieces w a ++ record_pieces (worked w a) b
