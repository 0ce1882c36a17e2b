-- What is lost with the last master channel count, which the older forms of a checkpoint don't have.
use Rattle.std.specs.Prelude.{◌≡◌, ℕ, ◌+◌, ◌==◌, Bool, not, ◌&&◌, Option, None, Result, Ok, Err, List, [], ◌∷◌, ◌++◌}
use Rattle.std.specs.List.{filter, list_any}
use Rattle.tm_reassembly.specs.declared.fault.StateFault.{StateFault}
use Rattle.tm_reassembly.specs.Checkpoint.{DecodedState}
use Rattle.tm_items.specs.Item.{Item, Bad, seen_of}
use Rattle.tm_items.specs.Among.{is_master_gap}
use Rattle.tm_reassembly.specs.Chain.{master_member}
use Rattle.tm_reassembly.specs.Items.{gap_at, master_gap_item}
use Rattle.tm_reassembly.specs.Readings.{FrameReading}
use Rattle.tm_reassembly.specs.State.{State}

-- the state, its last master channel count being forgotten
abbrev pub without_master : State → State
without_master s = record { records = s.records; master = None; channels = s.channels }

-- For records that are numbered from a number on: the items of those before the first good frame, which are all bad. Then the gap
-- of this frame after a last master channel count, and the number of its record, if they come.
abbrev pub leading_bad_items : ℕ → List FrameReading → List Item
leading_bad_items number [] = []
leading_bad_items number (Err fault ∷ rs) = Bad number fault ∷ leading_bad_items (number + 1) rs
leading_bad_items number (Ok f ∷ rs) = []

abbrev pub first_master_gap : Option ℕ → ℕ → List FrameReading → List Item
first_master_gap master number [] = []
first_master_gap master number (Err fault ∷ rs) = first_master_gap master (number + 1) rs
first_master_gap master number (Ok f ∷ rs) = gap_at master_gap_item master (master_member number f)

abbrev pub first_good_record : ℕ → List FrameReading → List ℕ
first_good_record number [] = []
first_good_record number (Err fault ∷ rs) = first_good_record (number + 1) rs
first_good_record number (Ok f ∷ rs) = number ∷ []

-- the fewer items are all that come after a state, in their order, but for the master gap of the first good frame
pub record LacksFirstGap (s : State) (rs : List FrameReading) (all fewer : List Item) : Type 0 where
  pub back : List Item
  pub all_is : all ≡ leading_bad_items s.records rs ++ (first_master_gap s.master s.records rs ++ back)
  pub fewer_is : fewer ≡ leading_bad_items s.records rs ++ back

-- whether an item is a gap of the master channel at one of these records
abbrev pub is_gap_at : List ℕ → Item → Bool
is_gap_at numbers x = is_master_gap x && list_any (λ n. seen_of x == n) numbers

-- the items but for those gaps
abbrev pub without_gaps_at : List ℕ → List Item → List Item
without_gaps_at numbers xs = filter (λ x. not (is_gap_at numbers x)) xs

-- the same answer, one octet more being read
abbrev pub one_octet_more : Result DecodedState StateFault → Result DecodedState StateFault
one_octet_more (Ok d) = Ok (record { state = d.state; octets = d.octets + 1 })
one_octet_more (Err found) = Err found
