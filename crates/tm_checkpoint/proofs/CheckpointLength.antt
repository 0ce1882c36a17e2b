-- How long checkpoints are: the state and the entries.
use Rattle.std.proofs.Common.{◌≡◌, ◌≢◌, ◌/◌, ◌%◌, ℕ, suc, ◌+◌, ◌*◌, ◌<◌, ◌≤◌, Option, Some, None, List, [], ◌∷◌, length, get_or, refl, ap, arith, length-append}
use Rattle.std.specs.List.{flat_map, slice_get}
use Rattle.tm_packet.specs.Merge.{Entries}
use Rattle.tm_packet.specs.Spelling as sequence
use Rattle.tm_packet.specs.Valid as valid
use Rattle.tm_packet.proofs.SpellingLemmas.{length-spelled}
use Rattle.tm_reassembly.specs.Checkpoint.{block, with_tail, master_octets, state_spelling}
use Rattle.tm_frame.specs.Rules.{Rules}
use Rattle.tm_reassembly.specs.State.{State, Last, Tail}
use Rattle.tm_reassembly.specs.Valid.{IsValidState}
use Rattle.tm_reassembly.proofs.States.{short-tails}
use Rattle.tm_checkpoint.specs.declared.version.Version.{Version}
use Rattle.tm_checkpoint.specs.declared.version.Version.TheVariants.{Three}
use Rattle.tm_checkpoint.specs.Checkpoints.{form_of, state_octets}

-- ---- entries

abbrev many : ℕ → Entries → ℕ
many k s = length (sequence.entries_from k s)

-- at most as many entries as places, without those of the idle keys
few : (k : ℕ) (s : Entries) → ((i : ℕ) → (k + i) % 2048 ≡ 2047 → get_or s i None ≡ None) → many k s + (k + length s) / 2048 ≤ length s + k / 2048
few k [] idle = omega arith
few k (None ∷ s) idle = omega (arith, few (k + 1) s (λ i e. idle (suc i) (omega arith)))
few k (Some l ∷ s) idle =
    let own : k % 2048 ≢ 2047 = λ e. cc (idle 0 (omega arith)) in
    omega (arith, few (k + 1) s (λ i e. idle (suc i) (omega arith)))

-- no key of idle packets has an entry
pub entries_most : (s : Entries) → valid.AreValidEntries s → many 0 s ≤ 16376
entries_most s h =
    let idle : (i : ℕ) → i % 2048 ≡ 2047 → get_or s i None ≡ None = λ i e. let place : 2048 * (i / 2048) + 2047 ≡ i = omega arith in rw place at (h.idle (i / 2048)) in
    omega (arith, few 0 s (λ i e. idle i (omega arith)), h.places)

pub sequence_most : (s : Entries) → valid.AreValidEntries s → length (sequence.entries_spelling s) ≤ 98258
sequence_most s h = omega (arith, entries_most s h, length-spelled (sequence.entries_from 0 s))

pub sequence_least : (s : Entries) → 2 ≤ length (sequence.entries_spelling s)
sequence_least s = omega arith

-- ---- the state

module _ (limit : ℕ) where
  block_most : (x : Option Last) → ((last : Last) (t : Tail) → x ≡ Some last → last.tail ≡ Some t → length t.octets < limit) → length (block x) ≤ 11 + limit
  block_most None h = omega arith
  block_most (Some last) h = by_tail last.tail refl
    where
      by_tail : (t : Option Tail) → last.tail ≡ t → length (with_tail last.count t) ≤ 11 + limit
      by_tail None e = omega arith
      by_tail (Some t) e = omega (arith, h last t refl e)

  blocks_most : (xs : List (Option Last))
      → ((c : ℕ) (last : Last) (t : Tail) → slice_get xs c ≡ Some (Some last) → last.tail ≡ Some t → length t.octets < limit)
      → length (flat_map block xs) ≤ (11 + limit) * length xs
  blocks_most [] h = omega arith
  blocks_most (x ∷ xs) h =
      let one = block_most x (λ last t e f. h 0 last t (ap Some e) f) in
      let more = blocks_most xs (λ c last t e f. h (suc c) last t e f) in
      let product : (11 + limit) * length (x ∷ xs) ≡ (11 + limit) + (11 + limit) * length xs = omega arith in
      omega (arith, length-append (block x) (flat_map block xs))

block_least : (x : Option Last) → 1 ≤ length (block x)
block_least None = omega arith
block_least (Some last) = elim last.tail as (λ t. 1 ≤ length (with_tail last.count t)) [ None ↦ omega arith | Some t ↦ omega arith ]

blocks_least : (xs : List (Option Last)) → length xs ≤ length (flat_map block xs)
blocks_least [] = omega arith
blocks_least (x ∷ xs) = omega (arith, block_least x, blocks_least xs, length-append (block x) (flat_map block xs))

master_length : (master : Option ℕ) → (1 ≤ length (master_octets master)) × (length (master_octets master) ≤ 2)
master_length None = (omega arith, omega arith)
master_length (Some count) = (omega arith, omega arith)

pub state_most : (rules : Rules) (s : State) → IsValidState rules s → length (state_spelling s) ≤ 94 + 8 * rules.max_packet
state_most rules s h =
    let blocks = blocks_most rules.max_packet s.channels (short-tails rules s h) in
    let eight : (11 + rules.max_packet) * length s.channels ≡ 88 + 8 * rules.max_packet = rw h.shape.eight_channels (omega arith) in
    omega (arith, (master_length s.master).1, length-append (master_octets s.master) (flat_map block s.channels))

-- the fewest octets of a state in a version: one more where the last master channel count stands
pub state_least : (v : Version) (rules : Rules) (s : State) → IsValidState rules s → (form_of v).least ≤ length (state_octets v s) + (9 + (form_of v).settings)
state_least Three rules s h =
    let sum = length-append (master_octets s.master) (flat_map block s.channels) in
    omega (arith, h.shape.eight_channels, blocks_least s.channels, (master_length s.master).0, sum)
state_least _ rules s h = omega (arith, h.shape.eight_channels, blocks_least s.channels)
