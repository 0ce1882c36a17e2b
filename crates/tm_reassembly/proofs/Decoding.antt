-- What octets spell: the first fault, or a state, which is valid.
use Rattle.std.proofs.lemmas.Option.{slice_get-get_or}
use Rattle.std.proofs.Common.{◌≡◌, ℕ, ◌+◌, ◌-◌, ◌^◌, ◌<◌, ◌≤◌, false, Ok, Err, Option, Some, None, List, length, take, drop, refl, sym, ap, ◌∙◌, arith, ltb}
use Rattle.std.proofs.lemmas.List.{take_rest, drop-drop}
use Rattle.std.proofs.lemmas.Bool.{cond-true, cond-false, lt-ltb, le-ltb, both_ways}
use Rattle.tm_bits.specs.Bits.{AreOctets}
use Rattle.tm_reassembly.specs.declared.fault.StateFault.{StateFault}
use Rattle.tm_reassembly.specs.declared.fault.StateFault.TheVariants as fault
use Rattle.tm_reassembly.specs.Checkpoint.{four_at, blocks_read, with_channels, with_master, state_decoding_of, old_decoding_of}
use Rattle.tm_reassembly.specs.code.Blocks.{decoding_in, master_read_in}
use Rattle.tm_reassembly.specs.declared.checkpoint.Form.{Form}
use Rattle.tm_reassembly.specs.declared.checkpoint.Form.TheVariants as form
use Rattle.tm_frame.specs.Rules.{Rules, IsLimit, chooses}
use Rattle.tm_reassembly.specs.State.{Last}
use Rattle.tm_reassembly.specs.Valid.{IsCount, IsValidState}
use Rattle.tm_reassembly.proofs.Spelled.{Kept, blocks_sound}
use Rattle.tm_reassembly.proofs.States.{state-from}

-- ---- what is answered

pub decoding_short : (form : Form) (rules : Rules) (xs : List ℕ) → length xs < 4 → decoding_in form rules xs ≡ Err fault.Short
unfolding state_decoding_of old_decoding_of
decoding_short form.WithMaster rules xs h = cond-true (ltb (length xs) 4) _ _ (lt-ltb (length xs) 4 h)
decoding_short form.WithoutMaster rules xs h = cond-true (ltb (length xs) 4) _ _ (lt-ltb (length xs) 4 h)

long : (form : Form) (rules : Rules) (xs : List ℕ) → 4 ≤ length xs
    → decoding_in form rules xs ≡ with_master rules (four_at xs 0) (drop 4 xs) (master_read_in form (drop 4 xs))
unfolding state_decoding_of old_decoding_of
long form.WithMaster rules xs h = cond-false (ltb (length xs) 4) _ _ (le-ltb (length xs) 4 h)
long form.WithoutMaster rules xs h = cond-false (ltb (length xs) 4) _ _ (le-ltb (length xs) 4 h)

module _ (form : Form) (rules : Rules) (xs : List ℕ) (there : 4 ≤ length xs) where
  -- the octets after the number of records, as the code takes them
  pub decoding_master : (found : StateFault) → master_read_in form (take (length xs - 4) (drop 4 xs)) ≡ Err found → decoding_in form rules xs ≡ Err found
  decoding_master found e =
      long form rules xs there ∙ ap (with_master rules (four_at xs 0) (drop 4 xs)) (ap (master_read_in form) (sym (take_rest xs 4)) ∙ e)

  -- and those after the master channel count
  pub decoding_behind : (records used : ℕ) (master : Option ℕ) → records ≡ four_at xs 0
      → master_read_in form (take (length xs - 4) (drop 4 xs)) ≡ Ok (record { count = master; octets = used })
      → with_channels records master (4 + used) (blocks_read rules records 8 0 (take (length xs - (4 + used)) (drop (4 + used) xs))) ≡ decoding_in form rules xs
  decoding_behind records used master same e =
      sym (
      long form rules xs there
      ∙ ap (λ (r : ℕ). with_master rules r (drop 4 xs) (master_read_in form (drop 4 xs))) (sym same)
      ∙ ap (with_master rules records (drop 4 xs)) (ap (master_read_in form) (sym (take_rest xs 4)) ∙ e)
      ∙ ap (λ (l : List ℕ). with_channels records master (4 + used) (blocks_read rules records 8 0 l)) (drop-drop used 4 xs ∙ sym (take_rest xs (4 + used))))

-- ---- what is read is valid

-- the state that blocks spell
pub blocks_valid : (rules : Rules) (records used : ℕ) (channels : List (Option Last)) (xs : List ℕ) → AreOctets xs → records < 2 ^ 32
    → blocks_read rules records 8 0 xs ≡ Ok (record { channels = channels; octets = used })
    → IsLimit rules.max_packet → (master : Option ℕ) → IsCount master → IsValidState rules (record { records = records; master = master; channels = channels })
blocks_valid rules records used channels xs octets small e range master octet =
    let all = blocks_sound rules records 8 0 xs _ octets e in
    state-from rules (record { records = records; master = master; channels = channels }) range small octet all.many
    (λ c n less. let there = slice_get-get_or channels c None (omega (arith, all.many)) in there ∙ ap (λ (x : Option Last). Some x) (unchosen_none c n _ (all.each c _ there)))
    (λ c last f. (all.each c (Some last) f).1)
  where
    unchosen_none : (c : ℕ) → chooses rules c ≡ false → (x : Option Last) → Kept rules.max_packet rules.layout records (chooses rules (0 + c)) x → x ≡ None
    unchosen_none c n None k = refl
    unchosen_none c n (Some last) k = let zeroth : 0 + c ≡ c = omega arith in absurd (both_ways (chooses rules c) n (ap (chooses rules) (sym zeroth) ∙ k.0))
