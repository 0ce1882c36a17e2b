-- What was read of a channel or of all, what is appended, and the forms of a spelling. These stand in private contracts alone.
use Rattle.std.specs.Prelude.{◌≡◌, ℕ, ◌+◌, ◌-◌, ◌≤◌, ◌++◌, Option, Some, None, Result, Ok, List, [], length, take, drop, Vec, vec_len, vec_capacity}
use Rattle.tm_reassembly.specs.declared.checkpoint.Block.{Block}
use Rattle.tm_reassembly.specs.code.Slots.{Slot, lasts, tail_of_octets}
use Rattle.tm_reassembly.specs.Items.{last_with}
use Rattle.tm_reassembly.specs.Checkpoint.{DecodedState, ReadBlock, ReadMaster, tail_octets, master_read, blocks_read, with_channels, state_decoding_of, old_decoding_of}
use Rattle.tm_reassembly.specs.declared.checkpoint.Form.{Form}
use Rattle.tm_reassembly.specs.declared.checkpoint.Form.TheVariants as form
use Rattle.tm_reassembly.specs.declared.fault.StateFault.{StateFault}
use Rattle.tm_frame.specs.Rules.{Rules}
use Rattle.tm_reassembly.specs.State.{Last, Tail}
use Rattle.tm_reassembly.specs.Valid.{IsCount}

abbrev pub block_last : Block → Option Last
block_last b = last_with (tail_of_octets b.first b.place b.tail.now) b.count

-- a block is read from these octets, and so many of them spell it; its tail has no more octets than a packet may have
abbrev pub IsBlock : (List ℕ → Result ReadBlock StateFault) → Rules → List ℕ → Block × ℕ → Type 0
IsBlock reading rules xs read =
    (reading xs ≡ Ok (record { last = block_last read.0; octets = read.1 })) × (read.1 ≤ length xs)
    × (length read.0.tail.now ≤ rules.max_packet)

-- the channels keep what the blocks at the front of octets say, and so many octets spell these
abbrev pub KeepBlocks : Rules → ℕ → List ℕ → List Slot → ℕ → Type 0
KeepBlocks rules records xs slots octets =
    (blocks_read rules records 8 0 xs ≡ Ok (record { channels = lasts slots; octets = octets })) × (octets ≤ length xs)

-- so many of these octets spell blocks
pub record HaveBlocks (rules : Rules) (records : ℕ) (xs : List ℕ) (octets : ℕ) : Type 0 where
  pub channels : List (Option Last)
  pub are : blocks_read rules records 8 0 xs ≡ Ok (record { channels = channels; octets = octets })
  pub inside : octets ≤ length xs

-- the spelling of a tail, if one is held
abbrev pub spelled_tail : Option Tail → List ℕ
spelled_tail None = []
spelled_tail (Some t) = tail_octets t

-- what octets spell in a form of the spelling
abbrev pub decoding_in : Form → Rules → List ℕ → Result DecodedState StateFault
decoding_in form.WithMaster rules xs = state_decoding_of rules xs
decoding_in form.WithoutMaster rules xs = old_decoding_of rules xs

-- the last master channel count at the front of octets: one form has none
abbrev pub master_read_in : Form → List ℕ → Result ReadMaster StateFault
master_read_in form.WithMaster xs = master_read xs
master_read_in form.WithoutMaster xs = Ok (record { count = None; octets = 0 })

-- it is read there, and so many octets spell it, two at most
abbrev pub IsMaster : Form → List ℕ → Option ℕ × ℕ → Type 0
IsMaster form xs read =
    (master_read_in form xs ≡ Ok (record { count = read.0; octets = read.1 })) × IsCount read.0 × (read.1 ≤ length xs) × (read.1 ≤ 2)

-- what octets spell after a number of records and a last master channel count, which the first so many octets spelled
abbrev pub channels_decoding : ℕ → Option ℕ → ℕ → Rules → List ℕ → Result DecodedState StateFault
channels_decoding records master octets rules xs = with_channels records master octets (blocks_read rules records 8 0 xs)

-- these were read before the channels: the number of records, the last master channel count, and how many octets these are
pub record IsFront (form : Form) (xs : List ℕ) (read : ℕ × (Option ℕ) × ℕ) : Type 0 where
  pub same : (rules : Rules) → channels_decoding read.0 read.1 read.2 rules (take (length xs - read.2) (drop read.2 xs)) ≡ decoding_in form rules xs
  pub count : IsCount read.1
  pub inside : read.2 ≤ length xs
  pub few : read.2 ≤ 6

-- octets, so many, are appended, and the capacity doesn't shrink
abbrev pub Appends : {Z : Type 0} → Vec ℕ Z → Vec ℕ Z → List ℕ → ℕ → Type 0
Appends old new xs n = (new.items ≡ old.items ++ xs) × (vec_len new ≡ vec_len old + n) × (vec_capacity old ≤ vec_capacity new)
