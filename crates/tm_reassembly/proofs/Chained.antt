-- One step of a chain: what a member gives after a tail, and then the rest of the chain.
use Rattle.std.proofs.Common.{◌≡◌, ℕ, ◌<◌, Bool, true, false, Option, Some, None, List, [], ◌∷◌, ◌++◌, length, refl, sym, ap, ◌∙◌, arith, append_assoc}
use Rattle.std.specs.List.{flat_map}
use Rattle.std.proofs.lemmas.List.{append-nil}
use Rattle.std.proofs.lemmas.Bool.{lt-leb}
use Rattle.tm_items.specs.declared.items.Reason.TheVariants as why
use Rattle.tm_items.specs.declared.items.Reason.{Reason}
use Rattle.tm_reassembly.specs.State.{Tail}
use Rattle.tm_reassembly.specs.Chain.{ChainMember, End, Ended, Unended, Run, Runs, stem_with, runs_after, has_frame_gap, with_member, cut_before}
use Rattle.tm_reassembly.specs.Parts.{Part, fate_at, reach_of, lead, parts}
use Rattle.tm_reassembly.specs.Items.{chain_parts}
pub use Rattle.tm_reassembly.specs.Valid.{IsTail}
pub use Rattle.tm_reassembly.specs.code.Fits.{IsOpenTail}
use Rattle.tm_reassembly.specs.code.Field.{step_parts, step_tail, ended_parts, chain_parts_at, chain_tail_at}
use Rattle.tm_reassembly.proofs.Sweep.{sweep, parts_from-sweep}
use Rattle.tm_reassembly.proofs.Fresh.{fresh_body}
use Rattle.tm_reassembly.proofs.Joined.{reach-past, stem_sweep, after_same}
use Rattle.tm_reassembly.proofs.Step.{PlaceFits, sweep_tail}

-- a tail at the end of its run
abbrev pub left_parts : Option Tail → End → List Part
left_parts None end = []
left_parts (Some t) end = record { first = t.first; place = t.place; octets = t.octets; fate = fate_at end } ∷ []

ended_same : (tail : Option Tail) (reason : Reason) (number : ℕ) → left_parts tail (Ended reason number) ≡ ended_parts tail reason number
ended_same None reason number = refl
ended_same (Some t) reason number = refl

module _ (limit : ℕ) where
  -- a frame in a run, after a tail or none
  pub sweep_step : (count : ℕ) (tail : Option Tail) (f : ChainMember) (later : List ChainMember) (end : End)
      → IsOpenTail limit tail → PlaceFits f.place (length f.field)
      → sweep limit [] (stem_with count tail ∷ f ∷ later) end ≡ step_parts limit tail f ++ sweep limit [] (stem_with f.count (step_tail limit tail f) ∷ later) end
  sweep_step count None f later end open_tail fits = after_same limit (lead limit [] f) _ _ _ _ (fresh_body limit f later end)
  sweep_step count (Some t) f later end open_tail fits = at_octets t.octets open_tail
    where
      at_octets : (o : List ℕ) → IsTail limit o
          → sweep limit [] (stem_with count (Some (record { first = t.first; place = t.place; octets = o })) ∷ f ∷ later) end
          ≡ step_parts limit (Some (record { first = t.first; place = t.place; octets = o })) f
          ++ sweep limit [] (stem_with f.count (step_tail limit (Some (record { first = t.first; place = t.place; octets = o })) f) ∷ later) end
      at_octets [] h = absurd h
      at_octets (x ∷ xs) h = sweep_tail limit count t.first t.place x xs f later end h fits

  pub sweep_end : (count : ℕ) (tail : Option Tail) (end : End) → IsOpenTail limit tail → sweep limit [] (stem_with count tail ∷ []) end ≡ left_parts tail end
  sweep_end count None end open_tail = refl
  sweep_end count (Some t) end open_tail = at_octets t.octets open_tail
    where
      at_octets : (o : List ℕ) → IsTail limit o
          → sweep limit [] (stem_with count (Some (record { first = t.first; place = t.place; octets = o })) ∷ []) end
          ≡ left_parts (Some (record { first = t.first; place = t.place; octets = o })) end
      at_octets [] h = absurd h
      at_octets (x ∷ xs) h =
          let nil : (x ∷ xs) ++ [] ≡ x ∷ xs = append-nil (x ∷ xs) in
          let past : length ((x ∷ xs) ++ []) < reach_of (x ∷ xs) [] = let p = reach-past limit x xs [] h in omega (arith, ap length nil) in
          rw (stem_sweep limit count t.first t.place x xs [] end h, h.0, lt-leb (reach_of (x ∷ xs) []) (length ((x ∷ xs) ++ [])) past, nil)

  -- the parts of a chain after a member with this count, which leaves a tail
  abbrev pub runs_parts : Option Tail → Runs → List Part
  runs_parts tail rs = sweep limit [] (stem_with 0 tail ∷ rs.current.members) rs.current.end ++ flat_map (parts limit) rs.others

  abbrev pub chained : Option ℕ → Option Tail → List ChainMember → List Part
  chained before tail fs = runs_parts tail (runs_after before fs)

  any_count : (a b : ℕ) (tail : Option Tail) (ms : List ChainMember) (end : End) → sweep limit [] (stem_with a tail ∷ ms) end ≡ sweep limit [] (stem_with b tail ∷ ms) end
  any_count a b None ms end = refl
  any_count a b (Some t) ms end = refl

  run_parts : (r : Run) → parts limit r ≡ sweep limit [] r.members r.end
  run_parts r = parts_from-sweep limit [] r.members r.end

  -- a tail, and then runs that don't go on with it
  cut_off : (tail : Option Tail) (reason : Reason) (number : ℕ) (rest : Runs) → IsOpenTail limit tail
      → sweep limit [] (stem_with 0 tail ∷ []) (Ended reason number) ++ (parts limit rest.current ++ flat_map (parts limit) rest.others)
      ≡ ended_parts tail reason number ++ runs_parts None rest
  cut_off tail reason number rest unwhole =
      rw (sweep_end 0 tail (Ended reason number) unwhole, ended_same tail reason number)
      (ap (λ (ps : List Part). ended_parts tail reason number ++ (ps ++ flat_map (parts limit) rest.others)) (run_parts rest.current))

  -- a frame, and then the runs after it
  carried : (tail : Option Tail) (f : ChainMember) (rest : Runs) → IsOpenTail limit tail → PlaceFits f.place (length f.field)
      → sweep limit [] (stem_with 0 tail ∷ f ∷ rest.current.members) rest.current.end ++ flat_map (parts limit) rest.others
      ≡ step_parts limit tail f ++ runs_parts (step_tail limit tail f) rest
  carried tail f rest unwhole fits =
      ap (λ (ps : List Part). ps ++ flat_map (parts limit) rest.others)
      (sweep_step 0 tail f rest.current.members rest.current.end unwhole fits
      ∙ ap (λ (ps : List Part). step_parts limit tail f ++ ps) (any_count f.count 0 (step_tail limit tail f) rest.current.members rest.current.end))
      ∙ append_assoc (step_parts limit tail f) _ _

  runs_step : (gap vca : Bool) (tail : Option Tail) (f : ChainMember) (rest : Runs) → IsOpenTail limit tail → PlaceFits f.place (length f.field)
      → runs_parts tail (cut_before gap f (with_member vca f rest))
      ≡ chain_parts_at limit gap vca tail f ++ runs_parts (chain_tail_at limit gap vca tail f) rest
  runs_step true true tail f rest unwhole fits = cut_off tail why.Gap f.number rest unwhole
  runs_step false true tail f rest unwhole fits = cut_off tail why.Vca f.number rest unwhole
  runs_step false false tail f rest unwhole fits = carried tail f rest unwhole fits
  runs_step true false tail f rest unwhole fits =
      cut_off tail why.Gap f.number (record { current = record { members = f ∷ rest.current.members; end = rest.current.end }; others = rest.others }) unwhole
      ∙ ap (λ (ps : List Part). ended_parts tail why.Gap f.number ++ ps) (carried None f rest tt fits)
      ∙ sym (append_assoc (ended_parts tail why.Gap f.number) (step_parts limit None f) _)

  -- one member of a chain: what it gives, and the tail that it leaves
  pub chained_step : (before : Option ℕ) (tail : Option Tail) (f : ChainMember) (fs : List ChainMember) → IsOpenTail limit tail → PlaceFits f.place (length f.field)
      → chained before tail (f ∷ fs)
      ≡ chain_parts_at limit (has_frame_gap before f) f.is_vca tail f ++ chained (Some f.count) (chain_tail_at limit (has_frame_gap before f) f.is_vca tail f) fs
  chained_step before tail f fs unwhole fits = runs_step (has_frame_gap before f) f.is_vca tail f (runs_after (Some f.count) fs) unwhole fits

  -- at the end of the records the tail is held
  pub chained_end : (before : Option ℕ) (tail : Option Tail) → IsOpenTail limit tail → chained before tail [] ≡ left_parts tail Unended
  chained_end before tail unwhole = append-nil _ ∙ sweep_end 0 tail Unended unwhole

  with_stem : (count : ℕ) (tail : Option Tail) (fs : List ChainMember)
      → parts limit (record { members = stem_with count tail ∷ (runs_after (Some count) fs).current.members; end = (runs_after (Some count) fs).current.end })
      ++ flat_map (parts limit) (runs_after (Some count) fs).others
      ≡ chained (Some count) tail fs
  with_stem count tail fs =
      let rest = runs_after (Some count) fs in
      ap (λ (ps : List Part). ps ++ flat_map (parts limit) rest.others)
      (run_parts (record { members = stem_with count tail ∷ rest.current.members; end = rest.current.end })
      ∙ any_count count 0 tail rest.current.members rest.current.end)

  -- the whole chain, with the stem that a state gives it or with none
  pub chain_parts-stem : (count : ℕ) (tail : Option Tail) (fs : List ChainMember) → chain_parts limit (stem_with count tail ∷ fs) ≡ chained (Some count) tail fs
  chain_parts-stem count None fs = with_stem count None fs
  chain_parts-stem count (Some t) fs = with_stem count (Some t) fs

  pub chain_parts-fresh : (fs : List ChainMember) → chain_parts limit fs ≡ chained None None fs
  chain_parts-fresh fs = ap (λ (ps : List Part). ps ++ flat_map (parts limit) (runs_after None fs).others) (run_parts (runs_after None fs).current)
