-- The loops over the blocks of channels: what was read so far, and what is still to be read.
use Rattle.std.proofs.Common.{◌≡◌, ℕ, suc, ◌+◌, ◌-◌, ◌<◌, ◌≤◌, Bool, Ok, Err, Result, Option, List, [], ◌∷◌, ◌++◌, length, take, drop, refl, sym, ap, subst, ◌∙◌, arith, append_assoc, length-drop}
use Rattle.std.specs.Prelude.{slice_set}
use Rattle.std.proofs.lemmas.List.{append-nil, drop-drop, take_all, take_more_set, take_rest}
use Rattle.tm_frame.specs.Rules.{Rules, chooses}
use Rattle.tm_reassembly.specs.declared.fault.StateFault.{StateFault}
use Rattle.tm_reassembly.specs.Checkpoint.{ReadBlock, ReadBlocks, block_read, blocks_read, in_front, and_then_blocks}
use Rattle.tm_reassembly.specs.State.{Last}
use Rattle.tm_reassembly.specs.code.Blocks.{HaveBlocks}

-- some blocks in front
abbrev in_fronts : List (Option Last) → ℕ → Result ReadBlocks StateFault → Result ReadBlocks StateFault
in_fronts done at (Ok rest) = Ok (record { channels = done ++ rest.channels; octets = at + rest.octets })
in_fronts done at (Err found) = Err found

-- up to channel c, `done` was read from the octets before `at`
pub record ReadsTo (rules : Rules) (records : ℕ) (xs : List ℕ) (c at : ℕ) (done : List (Option Last)) : Type 0 where
  pub so_far : blocks_read rules records 8 0 xs ≡ in_fronts done at (blocks_read rules records (8 - c) c (drop at xs))
  pub inside : at ≤ length xs

all_of : (x : Result ReadBlocks StateFault) → x ≡ in_fronts [] 0 x
all_of (Ok rest) = let zeroth : 0 + rest.octets ≡ rest.octets = omega arith in rw zeroth refl
all_of (Err found) = refl

module _ (rules : Rules) (records : ℕ) (xs : List ℕ) where
  pub reads_none : (lasts : List (Option Last)) → ReadsTo rules records xs 0 0 (take 0 lasts)
  reads_none lasts = record { so_far = all_of (blocks_read rules records 8 0 xs); inside = omega arith }

  one_block : (n c at : ℕ) (b : Result ReadBlock StateFault) → 8 - c ≡ suc n → block_read rules.max_packet rules.layout (chooses rules c) records (drop at xs) ≡ b
      → blocks_read rules records (8 - c) c (drop at xs) ≡ and_then_blocks b (λ used. blocks_read rules records n (c + 1) (drop used (drop at xs)))
  unfolding blocks_read
  one_block n c at b e f = rw (e, f)

  joined : (done : List (Option Last)) (at : ℕ) (one : ReadBlock) (x : Result ReadBlocks StateFault)
      → in_fronts done at (in_front one x) ≡ in_fronts (done ++ one.last ∷ []) (at + one.octets) x
  joined done at one (Ok rest) =
      let sum : at + (one.octets + rest.octets) ≡ (at + one.octets) + rest.octets = omega arith in rw (append_assoc done (one.last ∷ []) rest.channels, sum) refl
  joined done at one (Err found) = refl

  pub reads_more : (c at used : ℕ) (done : List (Option Last)) (last : Option Last) → ReadsTo rules records xs c at done → c < 8
      → block_read rules.max_packet rules.layout (chooses rules c) records (drop at xs) ≡ Ok (record { last = last; octets = used }) → used ≤ length (drop at xs)
      → ReadsTo rules records xs (c + 1) (at + used) (done ++ last ∷ [])
  reads_more c at used done last r h e fits =
      let n : ℕ = 7 - c in
      let left : 8 - c ≡ suc n = omega arith in
      let rest : 8 - (c + 1) ≡ 7 - c = omega arith in
      record {
        so_far =
            r.so_far
            ∙ ap (in_fronts done at) (one_block n c at _ left e)
            ∙ joined done at (record { last = last; octets = used }) (blocks_read rules records n (c + 1) (drop used (drop at xs)))
            ∙ rw (drop-drop used at xs, rest);
        inside = omega (arith, length-drop at xs, r.inside);
      }

  pub reads_fault : (c at : ℕ) (done : List (Option Last)) (found : StateFault) → ReadsTo rules records xs c at done → c < 8
      → block_read rules.max_packet rules.layout (chooses rules c) records (drop at xs) ≡ Err found → blocks_read rules records 8 0 xs ≡ Err found
  reads_fault c at done found r h e =
      r.so_far ∙ ap (in_fronts done at) (one_block (7 - c) c at _ (omega arith) e)

  pub reads_all : (c at : ℕ) (done : List (Option Last)) → ReadsTo rules records xs c at done → 8 ≤ c
      → blocks_read rules records 8 0 xs ≡ Ok (record { channels = done; octets = at })
  unfolding blocks_read
  reads_all c at done r h =
      let none : 8 - c ≡ 0 = omega arith in
      let all : at + 0 ≡ at = omega arith in
      r.so_far ∙ ap (λ (n : ℕ). in_fronts done at (blocks_read rules records n c (drop at xs))) none ∙ rw (append-nil done, all) refl

-- the same without telling what was read
pub record ReadsSome (rules : Rules) (records : ℕ) (xs : List ℕ) (c at : ℕ) : Type 0 where
  pub done : List (Option Last)
  pub reads : ReadsTo rules records xs c at done

-- the octets from a place on, as the code takes them, and whether a channel is chosen, as it asks
as_asked : (rules : Rules) (records : ℕ) (xs : List ℕ) (c at : ℕ) (b : Bool) (x : Result ReadBlock StateFault)
    → b ≡ chooses rules c → block_read rules.max_packet rules.layout b records (take (length xs - at) (drop at xs)) ≡ x → block_read rules.max_packet rules.layout (chooses rules c) records (drop at xs) ≡ x
as_asked rules records xs c at b x same e =
    ap (λ (a : Bool). block_read rules.max_packet rules.layout a records (drop at xs)) (sym same)
    ∙ ap (λ (l : List ℕ). block_read rules.max_packet rules.layout b records l) (sym (take_rest xs at))
    ∙ e

module _ (rules : Rules) (records : ℕ) (xs : List ℕ) where
  pub some_none : ReadsSome rules records xs 0 0
  some_none = record { done = []; reads = reads_none rules records xs [] }

  pub some_more : (c at used : ℕ) (last : Option Last) (b : Bool) → ReadsSome rules records xs c at → c < 8 → b ≡ chooses rules c
      → block_read rules.max_packet rules.layout b records (take (length xs - at) (drop at xs)) ≡ Ok (record { last = last; octets = used })
      → used ≤ length (take (length xs - at) (drop at xs))
      → ReadsSome rules records xs (c + 1) (at + used)
  some_more c at used last b r h same e fits = record {
    done = r.done ++ last ∷ [];
    reads = reads_more rules records xs c at used r.done last r.reads h (as_asked rules records xs c at b _ same e) (rw take_rest at fits);
  }

  pub some_all : (c at : ℕ) → ReadsSome rules records xs c at → 8 ≤ c → HaveBlocks rules records xs at
  some_all c at r h = record { channels = r.done; are = reads_all rules records xs c at r.done r.reads h; inside = r.reads.inside }

module _ (rules : Rules) (records : ℕ) (xs : List ℕ) where
  -- what is kept of the channels up to c is what was read
  pub lasts_more : (lasts : List (Option Last)) (c at used : ℕ) (x : Option Last) (b : Bool) → ReadsTo rules records xs c at (take c lasts) → length lasts ≡ 8
      → c < 8 → b ≡ chooses rules c
      → block_read rules.max_packet rules.layout b records (take (length xs - at) (drop at xs)) ≡ Ok (record { last = x; octets = used })
      → used ≤ length (take (length xs - at) (drop at xs))
      → ReadsTo rules records xs (c + 1) (at + used) (take (c + 1) (slice_set lasts c x))
  lasts_more lasts c at used x b r eight h same e fits =
      subst (ReadsTo rules records xs (c + 1) (at + used)) (sym (take_more_set lasts c x (omega arith)))
      (reads_more rules records xs c at used (take c lasts) x r h (as_asked rules records xs c at b _ same e) (rw take_rest at fits))

  pub asked_fault : (done : List (Option Last)) (c at : ℕ) (found : StateFault) (b : Bool) → ReadsTo rules records xs c at done → c < 8 → b ≡ chooses rules c
      → block_read rules.max_packet rules.layout b records (take (length xs - at) (drop at xs)) ≡ Err found → blocks_read rules records 8 0 xs ≡ Err found
  asked_fault done c at found b r h same e =
      reads_fault rules records xs c at done found r h (as_asked rules records xs c at b _ same e)

  pub lasts_all : (lasts : List (Option Last)) (c at : ℕ) → ReadsTo rules records xs c at (take c lasts) → length lasts ≡ 8 → 8 ≤ c
      → blocks_read rules records 8 0 xs ≡ Ok (record { channels = lasts; octets = at })
  lasts_all lasts c at r eight h =
      reads_all rules records xs c at (take c lasts) r h
      ∙ ap (λ (l : List (Option Last)). Ok (record { channels = l; octets = at })) (take_all c lasts (omega arith))
