-- Which records and which states may be.
use Rattle.std.specs.Prelude.{◌≡◌, ℕ, ◌+◌, ◌^◌, ◌<◌, ◌≤◌, Bool, true, false, Option, Some, None, List, [], ◌∷◌, length, slice_get}
use Rattle.std.specs.List.{AllByRecursion}
use Rattle.tm_bits.specs.Bits.{AreOctets}
use Rattle.tm_frame.specs.declared.layout.LayoutParts.{LayoutParts}
use Rattle.tm_reassembly.specs.State.{State, Last, Tail}
use Rattle.tm_reassembly.specs.Parts.{begins_packet}
use Rattle.tm_items.specs.OnePacket.{packet_length}
use Rattle.tm_frame.specs.Rules.{Rules, IsLimit, chooses}

-- ---- records

-- each record is of octets
abbrev pub AllOctets : List (List ℕ) → Type 0
AllOctets records = AllByRecursion AreOctets records

-- ---- states

module _ (limit : ℕ) where
  -- an unfinished packet: octets that begin a packet of version 0 that isn't long, and don't hold it whole
  abbrev pub IsTail : List ℕ → Type 0
  IsTail [] = ⊥
  IsTail (x ∷ xs) = (begins_packet limit (x ∷ xs) ≡ true) × (length (x ∷ xs) < packet_length (x ∷ xs))

  -- eight channels; nothing is kept for one that isn't chosen; and each tail is an unfinished packet
  pub record HasShape (chosen : ℕ → Bool) (s : State) : Type 0 where
    pub eight_channels : length s.channels ≡ 8
    pub only_chosen : (c : ℕ) → chosen c ≡ false → c < 8 → slice_get s.channels c ≡ Some None
    pub tails : (c : ℕ) (last : Last) (t : Tail) → slice_get s.channels c ≡ Some (Some last) → last.tail ≡ Some t → IsTail t.octets

-- a tail begins in a record that is done, at a place at which a packet can start in the longest data field of this frame length
pub record IsWithin (layout : LayoutParts) (records : ℕ) (t : Tail) : Type 0 where
  pub first : t.first < records
  pub place : t.place + 7 ≤ layout.frame_length
  pub octets : AreOctets t.octets

-- a master channel count, if there is one, is one octet
abbrev pub IsCount : Option ℕ → Type 0
IsCount None = Unit {0}
IsCount (Some count) = count < 256

-- A valid state: what the checks of a checkpoint ask. Some valid states are left by no recording.
pub record IsValidState (rules : Rules) (s : State) : Type 0 where
  pub limit : IsLimit rules.max_packet
  pub records : s.records < 2 ^ 32
  pub master : IsCount s.master
  pub shape : HasShape rules.max_packet (chooses rules) s
  pub counts : (c : ℕ) (last : Last) → slice_get s.channels c ≡ Some (Some last) → last.count < 256
  pub within : (c : ℕ) (last : Last) (t : Tail) → slice_get s.channels c ≡ Some (Some last) → last.tail ≡ Some t
      → IsWithin rules.layout s.records t
