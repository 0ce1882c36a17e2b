-- What is spelled is read again.
use Rattle.std.proofs.Common.{◌≡◌, ℕ, suc, ◌+◌, ◌-◌, ◌*◌, ◌/◌, ◌%◌, ◌<◌, ◌≤◌, Bool, true, false, Ok, Result, Option, Some, None, List, [], ◌∷◌, ◌++◌, length, drop, refl, sym, ap, ◌∙◌, arith, append_assoc, length-append, ltb, eqb}
use Rattle.std.specs.Prelude.{slice_index, slice_range}
use Rattle.std.specs.List.{slice_get, flat_map}
use Rattle.std.proofs.Math.Seq.{take-append_seam, drop-append_seam}
use Rattle.std.proofs.lemmas.Bool.{cond-false, lt-ltb, lt-leb, le-ltb, ne_eqb, and_from, true≢false, true_from_ne_false}
use Rattle.std.proofs.lemmas.Option.{slice_get_within}
use Rattle.std.proofs.lemmas.List.{append-nil, nil_from_length}
use Rattle.tm_frame.specs.declared.layout.LayoutParts.{LayoutParts}
use Rattle.tm_reassembly.specs.declared.fault.StateFault.{StateFault}
use Rattle.tm_frame.specs.Rules.{Rules, chooses}
use Rattle.tm_reassembly.specs.State.{State, Last, Tail}
use Rattle.tm_reassembly.specs.Checkpoint.{block, with_tail, master_octets, state_spelling, old_spelling, ReadBlock, DecodedState, is_unfinished, tail_read, flagged, block_read, blocks_read, master_read, state_decoding_of, old_decoding_of}
use Rattle.tm_reassembly.specs.OlderForms.{without_master}
use Rattle.tm_reassembly.specs.Parts.{begins_packet}
use Rattle.tm_items.specs.OnePacket.{packet_length}
use Rattle.tm_reassembly.specs.Valid as ok
use Rattle.tm_reassembly.specs.Valid.{IsValidState, IsWithin}
use Rattle.tm_reassembly.proofs.Spelled.{Kept}
use Rattle.tm_reassembly.proofs.States.{Keeps, keeps-at, tail-short}

-- ---- numbers

pub four_digits : (n : ℕ) → 65536 * (256 * (n / 65536 / 256) + n / 65536 % 256) + (256 * (n % 65536 / 256) + n % 65536 % 256) ≡ n
four_digits n = omega arith

pub two_digits : (n : ℕ) → 256 * (n / 256) + n % 256 ≡ n
two_digits n = omega arith

pub not_zero : (n : ℕ) → 0 < n → eqb n 0 ≡ false
not_zero n h = ne_eqb n 0 (λ e. omega arith)

-- ---- a block

abbrev good : Last → ℕ → Result ReadBlock StateFault
good last octets = Ok (record { last = Some last; octets = octets })

unfinished-is : (limit : ℕ) (octets : List ℕ) → ok.IsTail limit octets → is_unfinished limit octets ≡ true
unfinished-is limit [] h = absurd h
unfinished-is limit (x ∷ xs) h = and_from (begins_packet limit (x ∷ xs)) (ltb (length (x ∷ xs)) (packet_length (x ∷ xs))) h.0 (lt-ltb (length (x ∷ xs)) (packet_length (x ∷ xs)) h.1)

some_octets : (limit : ℕ) (octets : List ℕ) → ok.IsTail limit octets → 0 < length octets
some_octets limit [] h = absurd h
some_octets limit (x ∷ xs) h = omega arith

-- the octets of a tail, in a block that has them
cut : (xs octets rest : List ℕ) → drop 12 xs ≡ octets ++ rest → slice_range xs 12 (12 + length octets) ≡ octets
cut xs octets rest e =
    let n : 12 + length octets - 12 ≡ length octets = omega arith in
    rw (n, e) (take-append_seam octets rest)

module _ (limit : ℕ) (least : 7 ≤ limit) (layout : LayoutParts) (records : ℕ) where
  -- the numbers of a tail and its octets
  tail-again : (xs : List ℕ) (count : ℕ) (t : Tail) (rest : List ℕ) → slice_index xs 1 ≡ count → drop 12 xs ≡ t.octets ++ rest
      → length xs ≡ 12 + length t.octets + length rest → ok.IsTail limit t.octets → IsWithin layout records t
      → tail_read limit layout records xs t.first t.place (length t.octets)
      ≡ Ok (record { last = Some (record { count = count; tail = Some t }); octets = 12 + length t.octets })
  tail-again xs count t rest at_one behind long h within =
      let size : ℕ = length t.octets in
      let there : ltb (length xs) (12 + size) ≡ false = le-ltb (length xs) (12 + size) (omega arith) in
      rw (lt-ltb t.first records within.first, le-ltb layout.frame_length (t.place + 7) within.place, not_zero size (some_octets limit t.octets h))
      (rw (lt-leb limit size (tail-short limit t.octets least h), there, cut xs t.octets rest behind, unfinished-is limit t.octets h, at_one))

  -- octets that there are, by their first one
  by_flag : (b : Bool) (xs : List ℕ) → 0 < length xs → block_read limit layout b records xs ≡ flagged limit layout b records xs (slice_index xs 0)
  unfolding block_read
  by_flag b xs h = cond-false (eqb (length xs) 0) _ _ (not_zero (length xs) h)

  with_tail-again : (count : ℕ) (tail : Option Tail) (rest : List ℕ) → Keeps limit layout records (record { count = count; tail = tail })
      → block_read limit layout true records (with_tail count tail ++ rest)
      ≡ Ok (record { last = Some (record { count = count; tail = tail }); octets = length (with_tail count tail) })
  with_tail-again count None rest h =
      let xs : List ℕ = with_tail count None ++ rest in
      by_flag true xs (omega arith) ∙ cond-false (ltb (length xs) 2) _ _ (le-ltb (length xs) 2 (omega arith))
  with_tail-again count (Some t) rest h =
      let xs : List ℕ = with_tail count (Some t) ++ rest in
      let size : ℕ = length t.octets in
      let long : length xs ≡ 12 + size + length rest = let l = length-append t.octets rest in omega arith in
      let all : 12 + size ≡ length (with_tail count (Some t)) = omega arith in
      by_flag true xs (omega arith)
      ∙ rw (le-ltb (length xs) 12 (omega arith), four_digits t.first, two_digits t.place, four_digits size)
      (tail-again xs count t rest refl refl long h.open_tail h.within ∙ ap (λ (n : ℕ). good (record { count = count; tail = Some t }) n) all)

  pub block-again : (b : Bool) (o : Option Last) (rest : List ℕ) → Kept limit layout records b o
      → block_read limit layout b records (block o ++ rest) ≡ Ok (record { last = o; octets = length (block o) })
  block-again b None rest h = by_flag b (0 ∷ rest) (omega arith)
  block-again false (Some last) rest h = absurd (true≢false (sym h.0))
  block-again true (Some last) rest h = with_tail-again last.count last.tail rest h.1

-- ---- the blocks

blocks-again : (rules : Rules) (least : 7 ≤ rules.max_packet) (records c : ℕ) (os : List (Option Last)) (rest : List ℕ)
    → ((i : ℕ) (o : Option Last) → slice_get os i ≡ Some o → Kept rules.max_packet rules.layout records (chooses rules (c + i)) o)
    → blocks_read rules records (length os) c (flat_map block os ++ rest) ≡ Ok (record { channels = os; octets = length (flat_map block os) })
unfolding blocks_read
blocks-again rules least records c [] rest h = refl
blocks-again rules least records c (o ∷ os) rest h =
    let here : c + 0 ≡ c = omega arith in
    let first = block-again rules.max_packet least rules.layout records (chooses rules c) o (flat_map block os ++ rest) (rw here at (h 0 o refl)) in
    let later = blocks-again rules least records (c + 1) os rest (λ i p e. let n : c + suc i ≡ c + 1 + i = omega arith in rw n at (h (suc i) p e)) in
    rw (append_assoc (block o) (flat_map block os) rest, first, drop-append_seam (block o) (flat_map block os ++ rest), later, length-append (block o) (flat_map block os))

-- ---- the last master channel count

master-again : (master : Option ℕ) (rest : List ℕ)
    → master_read (master_octets master ++ rest) ≡ Ok (record { count = master; octets = length (master_octets master) })
unfolding master_read
master-again None rest = refl
master-again (Some count) rest = cond-false (eqb (length (count ∷ rest)) 0) _ _ (not_zero (length (count ∷ rest)) (omega arith))

-- ---- the state

abbrev pub decoded : State → ℕ → Result DecodedState StateFault
decoded state octets = Ok (record { state = state; octets = octets })

module _ (rules : Rules) where
  channel_keeps : (s : State) → IsValidState rules s → (c : ℕ) (o : Option Last) → slice_get s.channels c ≡ Some o
      → Kept rules.max_packet rules.layout s.records (chooses rules (0 + c)) o
  channel_keeps s v c None e = tt
  channel_keeps s v c (Some last) e =
      let zeroth : 0 + c ≡ c = omega arith in
      let eight = v.shape.eight_channels in
      let there = slice_get_within s.channels c (Some last) e in
      (rw zeroth (true_from_ne_false (chooses rules c) (λ p. let none = v.shape.only_chosen c p (omega arith) in absurd (cc))), keeps-at rules s v c last e)

  channels-again : (s : State) (rest : List ℕ) → IsValidState rules s
      → blocks_read rules s.records 8 0 (flat_map block s.channels ++ rest) ≡ Ok (record { channels = s.channels; octets = length (flat_map block s.channels) })
  channels-again s rest v =
      ap (λ (n : ℕ). blocks_read rules s.records n 0 (flat_map block s.channels ++ rest)) (sym v.shape.eight_channels)
      ∙ blocks-again rules v.limit.least s.records 0 s.channels rest (channel_keeps s v)

  pub read-again : (s : State) (rest : List ℕ) → IsValidState rules s → state_decoding_of rules (state_spelling s ++ rest) ≡ Ok (record { state = s; octets = length (state_spelling s) })
  unfolding state_decoding_of
  read-again s rest v =
      let xs : List ℕ = state_spelling s ++ rest in
      let others : List ℕ = flat_map block s.channels ++ rest in
      let all : (4 + length (master_octets s.master)) + length (flat_map block s.channels) ≡ length (state_spelling s) =
      let l = length-append (master_octets s.master) (flat_map block s.channels) in omega arith in
      rw (le-ltb (length xs) 4 (omega arith), four_digits s.records, append_assoc (master_octets s.master) (flat_map block s.channels) rest)
      (rw (master-again s.master others, drop-append_seam (master_octets s.master) others, channels-again s rest v) (ap (decoded s) all))

  -- in the form of versions 1 and 2 the state comes back without its last master channel count
  pub old-read-again : (s : State) (rest : List ℕ) → IsValidState rules s
      → old_decoding_of rules (old_spelling s ++ rest) ≡ Ok (record { state = without_master s; octets = length (old_spelling s) })
  unfolding old_decoding_of
  old-read-again s rest v =
      let all : 4 + length (flat_map block s.channels) ≡ length (old_spelling s) = omega arith in
      rw (le-ltb (length (old_spelling s ++ rest)) 4 (omega arith), four_digits s.records, channels-again s rest v) (ap (decoded (without_master s)) all)

  -- no spelling is a proper prefix of another, in whatever form
  pub no-prefix-of : (reads : List ℕ → Result DecodedState StateFault) (a b rest : List ℕ) (s t : State) → reads (a ++ rest) ≡ decoded s (length a)
      → reads (b ++ []) ≡ decoded t (length b) → a ++ rest ≡ b → (s ≡ t) × (rest ≡ [])
  no-prefix-of reads a b rest s t e f g =
      let whole : decoded s (length a) ≡ decoded t (length b) = sym e ∙ ap reads (g ∙ sym (append-nil b)) ∙ f in
      let both : ◌≡◌ {A = DecodedState} (record { state = s; octets = length a }) (record { state = t; octets = length b }) = cc in
      let long : length a ≡ length b = ap (λ (d : DecodedState). d.octets) both in
      (ap (λ (d : DecodedState). d.state) both, nil_from_length rest (omega (arith, long, length-append a rest, ap length g)))

  pub no-prefix : (s t : State) (rest : List ℕ) → IsValidState rules s → IsValidState rules t → state_spelling s ++ rest ≡ state_spelling t → (s ≡ t) × (rest ≡ [])
  no-prefix s t rest v w e = no-prefix-of (state_decoding_of rules) (state_spelling s) (state_spelling t) rest s t (read-again s rest v) (read-again t [] w) e

  pub old-no-prefix : (s t : State) (rest : List ℕ) → IsValidState rules s → IsValidState rules t → old_spelling s ++ rest ≡ old_spelling t
      → (without_master s ≡ without_master t) × (rest ≡ [])
  old-no-prefix s t rest v w e =
      no-prefix-of (old_decoding_of rules) (old_spelling s) (old_spelling t) rest (without_master s) (without_master t) (old-read-again s rest v) (old-read-again t [] w) e
