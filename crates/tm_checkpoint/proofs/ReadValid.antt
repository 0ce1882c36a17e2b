-- What is read of the state is a valid one.
use Rattle.std.proofs.Common.{◌≡◌, ℕ, ◌+◌, ◌<◌, ◌^◌, Ok, Err, None, Option, Result, List, [], ◌∷◌, length, drop, refl, subst, arith, ltb, eqb}
use Rattle.std.proofs.lemmas.Bool.{cond_both}
use Rattle.tm_bits.specs.Bits.{AreOctets}
use Rattle.tm_bits.proofs.PartLemmas.{octets_behind}
use Rattle.tm_reassembly.specs.declared.fault.StateFault.{StateFault}
use Rattle.tm_reassembly.specs.Checkpoint.{DecodedState, ReadBlocks, ReadMaster, blocks_read, four_at, master_read, with_channels, with_master, state_decoding_of, old_decoding_of}
use Rattle.tm_frame.specs.Rules.{Rules, IsLimit}
use Rattle.tm_reassembly.specs.Valid.{IsCount, IsValidState}
use Rattle.tm_reassembly.proofs.Decoding.{blocks_valid}
use Rattle.tm_checkpoint.specs.declared.version.Version.{Version}
use Rattle.tm_checkpoint.specs.declared.version.Version.TheVariants.{Three}
use Rattle.tm_checkpoint.specs.Checkpoints.{state_in}

four_below : (xs : List ℕ) → AreOctets xs → four_at xs 0 < 2 ^ 32
four_below xs h = omega (arith, h.below 0, h.below 1, h.below 2, h.below 3)

abbrev IsRead : Rules → Result DecodedState StateFault → Type 0
IsRead rules (Ok d) = IsLimit rules.max_packet → IsValidState rules d.state
IsRead rules (Err found) = Unit {0}

abbrev IsMaster : Result ReadMaster StateFault → Type 0
IsMaster (Ok read) = IsCount read.count
IsMaster (Err found) = Unit {0}

master-valid : (xs : List ℕ) → AreOctets xs → IsMaster (master_read xs)
unfolding master_read
master-valid [] h = tt
master-valid (flag ∷ xs) h =
    cond_both (eqb flag 0) _ _ IsMaster (λ p. tt)
    (λ p. cond_both (ltb 1 flag) _ _ IsMaster (λ q. tt)
    (λ q. cond_both (eqb (length xs) 0) _ _ IsMaster (λ r. tt) (λ r. h.below 1)))

module _ (rules : Rules) where
  channels-valid : (records octets : ℕ) (master : Option ℕ) (xs : List ℕ) (all : Result ReadBlocks StateFault) → AreOctets xs → records < 2 ^ 32 → IsCount master
      → blocks_read rules records 8 0 xs ≡ all → IsRead rules (with_channels records master octets all)
  channels-valid records octets master xs (Ok all) h small count e =
      λ range. blocks_valid rules records all.octets all.channels xs h small e range master count
  channels-valid records octets master xs (Err found) h small count e = tt

  with-valid : (records : ℕ) (xs : List ℕ) (read : Result ReadMaster StateFault) → AreOctets xs → records < 2 ^ 32 → IsMaster read
      → IsRead rules (with_master rules records xs read)
  with-valid records xs (Ok read) h small count =
      channels-valid records (4 + read.octets) read.count (drop read.octets xs) (blocks_read rules records 8 0 (drop read.octets xs)) (octets_behind read.octets xs h) small count refl
  with-valid records xs (Err found) h small count = tt

  any-valid : (v : Version) (xs : List ℕ) → AreOctets xs → IsRead rules (state_in v rules xs)
  unfolding state_decoding_of old_decoding_of
  any-valid Three xs h =
      cond_both (ltb (length xs) 4) _ _ (IsRead rules) (λ p. tt)
      (λ p. with-valid (four_at xs 0) (drop 4 xs) (master_read (drop 4 xs)) (octets_behind 4 xs h) (four_below xs h) (master-valid (drop 4 xs) (octets_behind 4 xs h)))
  any-valid _ xs h =
      cond_both (ltb (length xs) 4) _ _ (IsRead rules) (λ p. tt)
      (λ p. channels-valid (four_at xs 0) 4 None (drop 4 xs) (blocks_read rules (four_at xs 0) 8 0 (drop 4 xs)) (octets_behind 4 xs h) (four_below xs h) tt refl)

  pub state_valid : IsLimit rules.max_packet → (v : Version) (xs : List ℕ) (d : DecodedState) → AreOctets xs → state_in v rules xs ≡ Ok d → IsValidState rules d.state
  state_valid range v xs d h e = subst (IsRead rules) e (any-valid v xs h) range
