-- The gaps of the master chain, one record at a time.
use Rattle.std.proofs.lemmas.List.Elements.{filter-append}
use Rattle.tm_bits.proofs.Each.{Each, Each-weaken}
use Rattle.std.proofs.Common.{◌≡◌, Ok, Err, ℕ, ◌+◌, ◌≤◌, Option, Some, None, List, [], ◌∷◌, ◌++◌, refl, sym, ap, ◌∙◌, arith, eqb}
use Rattle.std.proofs.lemmas.List.{append-nil}
use Rattle.tm_frame.specs.Frame.{GoodFrame}
use Rattle.tm_reassembly.specs.Readings.{FrameReading}
use Rattle.tm_items.specs.Item.{Item, seen_of}
use Rattle.tm_reassembly.specs.State.{State}
use Rattle.tm_reassembly.specs.Chain.{ChainMember, master_member, master_frames, master_stem, master_chain}
use Rattle.tm_reassembly.specs.Items.{seen_at, master_gap_item, gap_at, gaps, master_items, last_frame_count}
use Rattle.tm_reassembly.proofs.Joining.{none_before, none_other, gap-each, gaps-each}
use Rattle.tm_reassembly.proofs.Seen.{AllSeen, seen_at-all}

-- the last master channel count after one more record
abbrev pub master_after : Option ℕ → FrameReading → Option ℕ
master_after before (Err fault) = before
master_after before (Ok g) = Some g.master_count

-- the gaps of members after a stem with this count, or after none
pub masters-is : (before : Option ℕ) (ms : List ChainMember) → master_items (master_stem before ++ ms) ≡ gaps master_gap_item before ms
masters-is None ms = refl
masters-is (Some count) ms = refl

last-is : (before : Option ℕ) (ms : List ChainMember) → last_frame_count None (master_stem before ++ ms) ≡ last_frame_count before ms
last-is None ms = refl
last-is (Some count) ms = refl

-- a gap is seen at its frame's record
pub master-at : (before : Option ℕ) (m : ChainMember) → AllSeen (λ s. s ≡ m.number) (gap_at master_gap_item before m)
master-at before m = gap-each (λ x. seen_of x ≡ m.number) master_gap_item before m (λ expected. refl)

-- the gaps of records that are numbered from k on are seen at k or later
pub masters-from : (k : ℕ) (before : Option ℕ) (rs : List FrameReading) → AllSeen (λ s. k ≤ s) (gaps master_gap_item before (master_frames k rs))
masters-from k before rs = gaps-each (λ m. k ≤ m.number) (λ x. k ≤ seen_of x) master_gap_item (λ m expected h. h) before (master_frames k rs) (numbered k rs)
  where
    numbered : (k : ℕ) (rs : List FrameReading) → Each (λ m. k ≤ m.number) (master_frames k rs)
    numbered k [] = tt
    numbered k (Err fault ∷ rs) = Each-weaken (λ m. k + 1 ≤ m.number) (λ m. k ≤ m.number) (master_frames (k + 1) rs) (λ m e. omega arith) (numbered (k + 1) rs)
    numbered k (Ok g ∷ rs) =
        (omega arith, Each-weaken (λ m. k + 1 ≤ m.number) (λ m. k ≤ m.number) (master_frames (k + 1) rs) (λ m e. omega arith) (numbered (k + 1) rs))

-- at its own record a good frame has its gap, whatever comes later
pub masters-here : (k : ℕ) (before : Option ℕ) (g : GoodFrame) (rs : List FrameReading)
    → seen_at k (gaps master_gap_item before (master_frames k (Ok g ∷ rs))) ≡ gap_at master_gap_item before (master_member k g)
masters-here k before g rs =
    filter-append (λ x. eqb (seen_of x) k) (gap_at master_gap_item before (master_member k g)) (gaps master_gap_item (Some g.master_count) (master_frames (k + 1) rs))
    ∙ rw (
      seen_at-all k (gap_at master_gap_item before (master_member k g)) (master-at before (master_member k g)),
      none_before (k + 1) k (gaps master_gap_item (Some g.master_count) (master_frames (k + 1) rs)) (omega arith) (masters-from (k + 1) (Some g.master_count) rs),
    ) (append-nil (gap_at master_gap_item before (master_member k g)))

-- at another record it is as if the record were done, and had left its count
pub masters-there : (k n : ℕ) (before : Option ℕ) (r : FrameReading) (rs : List FrameReading) → (k ≡ n → ⊥)
    → seen_at n (gaps master_gap_item before (master_frames k (r ∷ rs))) ≡ seen_at n (gaps master_gap_item (master_after before r) (master_frames (k + 1) rs))
masters-there k n before (Err fault) rs ne = refl
masters-there k n before (Ok g) rs ne =
    filter-append (λ x. eqb (seen_of x) n) (gap_at master_gap_item before (master_member k g)) (gaps master_gap_item (Some g.master_count) (master_frames (k + 1) rs))
    ∙ ap (λ (xs : List Item). xs ++ seen_at n (gaps master_gap_item (Some g.master_count) (master_frames (k + 1) rs)))
    (none_other k n (gap_at master_gap_item before (master_member k g)) ne (master-at before (master_member k g)))

last-later : (k : ℕ) (before : Option ℕ) (r : FrameReading) (rs : List FrameReading)
    → last_frame_count before (master_frames k (r ∷ rs)) ≡ last_frame_count (master_after before r) (master_frames (k + 1) rs)
last-later k before (Err fault) rs = refl
last-later k before (Ok g) rs = refl

-- The same of the master chain after a state.

pub masters-now : (s : State) (g : GoodFrame) (rs : List FrameReading)
    → seen_at s.records (master_items (master_chain s (Ok g ∷ rs))) ≡ gap_at master_gap_item s.master (master_member s.records g)
masters-now s g rs =
    ap (seen_at s.records) (masters-is s.master (master_frames s.records (Ok g ∷ rs))) ∙ masters-here s.records s.master g rs

pub master-moved : (s : State) (r : FrameReading) → last_frame_count None (master_chain s (r ∷ [])) ≡ master_after s.master r
master-moved s r = last-is s.master (master_frames s.records (r ∷ [])) ∙ last-later s.records s.master r []

module _ (s t : State) (r : FrameReading) (moved : t.master ≡ master_after s.master r) (next : t.records ≡ s.records + 1) where
  -- at later records, as from a state that the record leaves
  pub masters-later : (rs : List FrameReading) (n : ℕ) → (s.records ≡ n → ⊥)
      → seen_at n (master_items (master_chain s (r ∷ rs))) ≡ seen_at n (master_items (master_chain t rs))
  masters-later rs n ne =
      ap (seen_at n) (masters-is s.master (master_frames s.records (r ∷ rs)))
      ∙ masters-there s.records n s.master r rs ne
      ∙ rw (moved, next) (ap (seen_at n) (sym (masters-is (master_after s.master r) (master_frames (s.records + 1) rs))))

  -- the count that is left at the end
  pub master-later : (rs : List FrameReading) → last_frame_count None (master_chain s (r ∷ rs)) ≡ last_frame_count None (master_chain t rs)
  master-later rs =
      last-is s.master (master_frames s.records (r ∷ rs))
      ∙ last-later s.records s.master r rs
      ∙ rw (moved, next) (sym (last-is (master_after s.master r) (master_frames (s.records + 1) rs)))
