-- Octets that come after others: records are made whole, and what is left waits for more.
use Rattle.std.proofs.Common.{◌≡◌, ℕ, ◌+◌, ◌<◌, List, [], ◌∷◌, ◌++◌, length, take, drop, refl, sym, ap, subst, ◌∙◌, append_assoc, append-nil, length-append}
use Rattle.std.specs.List.{concat}
use Rattle.std.proofs.Math.Seq.{take-add}
use Rattle.tm_frame.specs.Layout.{record_length_of}
use Rattle.tm_packet.specs.Merge.{Entries}
use Rattle.tm_items.specs.Item.{Item}
use Rattle.tm_reassembly.specs.Recording.{items}
use Rattle.tm_reassembly.specs.Steps.{Progress, step_items, stepped}
use Rattle.tm_reassembly.proofs.Raw.{items-join}
use Rattle.tm_checkpoint.specs.Works.{IsGoing, Work, work_of}
use Rattle.tm_output.specs.Records.{records, rest_of}
use Rattle.tm_output.proofs.RecordLemmas.{records_front, records_short, records_sized, records_whole, rest_front, rest_short}
use Rattle.tm_tool.specs.RecordingPieces.{items_of, worked}
use Rattle.tm_tool.proofs.Running.{worked-append, worked-none}
use Rattle.tm_feed.specs.Feeding.{events_of, packed_octets}
use Rattle.tm_feed.specs.code.Sinking.{SinkState, after_items}
use Rattle.tm_feed.specs.code.Taking.{HasAdded}
use Rattle.tm_feed.proofs.TakeLemmas.{after-append, after_none}

-- ---- the records of octets, and of more after them

module _ (size : ℕ) (some : 0 < size) (octets more : List ℕ) where
  abbrev rest : List ℕ
  rest = rest_of size octets ++ more

  all : concat (records size octets) ++ rest ≡ octets ++ more
  all = sym (append_assoc (concat (records size octets)) (rest_of size octets) more) ∙ ap (λ (l : List ℕ). l ++ more) (records_whole size some octets)

  pub records_more : records size (octets ++ more) ≡ records size octets ++ records size rest
  records_more = ap (records size) (sym all) ∙ records_front size some (records size octets) rest (records_sized size some octets)

  pub rest_more : rest_of size (octets ++ more) ≡ rest_of size rest
  rest_more = ap (rest_of size) (sym all) ∙ rest_front size some (records size octets) rest (records_sized size some octets)

-- one record alone
module _ (size : ℕ) (some : 0 < size) (one : List ℕ) (exact : length one ≡ size) where
  alone : concat (one ∷ []) ++ [] ≡ one
  alone = append-nil (concat (one ∷ [])) ∙ append-nil one

  pub records_exact : records size one ≡ one ∷ []
  records_exact =
      ap (records size) (sym alone) ∙ records_front size some (one ∷ []) [] (exact, tt)
      ∙ ap (λ (l : List (List ℕ)). one ∷ l) (records_short size [] some)

  pub rest_exact : rest_of size one ≡ []
  rest_exact = ap (rest_of size) (sym alone) ∙ rest_front size some (one ∷ []) [] (exact, tt) ∙ rest_short size [] some

-- ---- what was taken

module _ (p : Progress) (going : IsGoing p) (some : 0 < record_length_of p.rules.layout) where
  abbrev size : ℕ
  size = record_length_of p.rules.layout

  items_none : (e : Entries) → items_of (work_of p e) [] ≡ []
  unfolding items
  items_none e = refl

  -- nothing yet
  pub begun : (s : SinkState) (part octets : List ℕ) → length part < size → HasAdded p p s s (part ++ take 0 octets) part
  begun s part octets short =
      let same : part ++ take 0 octets ≡ part = append-nil part in
      let none : records size (part ++ take 0 octets) ≡ [] = ap (records size) same ∙ records_short size part short in
      record {
        going = going;
        work = sym (ap (worked (work_of p s.entries)) none ∙ worked-none (work_of p s.entries) going.1);
        sink = sym (ap (after_items s) (ap (items_of (work_of p s.entries)) none ∙ items_none s.entries) ∙ after_none s);
        left = sym (ap (rest_of size) same ∙ rest_short size part short);
      }

  module _ (q : Progress) (s t : SinkState) (octets rest more : List ℕ) (taken : HasAdded p q s t octets rest) where
    abbrev begin : Work
    begin = work_of p s.entries

    abbrev done : List (List ℕ)
    done = records size octets

    after_rest : rest_of size octets ++ more ≡ rest ++ more
    after_rest = ap (λ (l : List ℕ). l ++ more) (sym taken.left)

    -- more octets, and still no whole record
    pub kept : length (rest ++ more) < size → HasAdded p q s t (octets ++ more) (rest ++ more)
    kept short =
        let same : records size (octets ++ more) ≡ done =
        records_more size some octets more ∙ ap (λ (l : List ℕ). done ++ records size l) after_rest
        ∙ ap (λ (l : List (List ℕ)). done ++ l) (records_short size (rest ++ more) short) ∙ append-nil done in
        record {
          going = taken.going;
          work = taken.work ∙ ap (worked begin) (sym same);
          sink = taken.sink ∙ ap (λ (l : List (List ℕ)). after_items s (items_of begin l)) (sym same);
          left = sym (rest_more size some octets more ∙ ap (rest_of size) after_rest ∙ rest_short size (rest ++ more) short);
        }

    -- they make a record whole
    pub next : (r : Progress) (u : SinkState) → length (rest ++ more) ≡ size → r ≡ stepped q (rest ++ more) → IsGoing r
        → u ≡ after_items t (step_items q (rest ++ more)) → HasAdded p r s u (octets ++ more) []
    next r u exact step alive gave =
        let one : List ℕ = rest ++ more in
        let all : records size (octets ++ more) ≡ done ++ one ∷ [] =
        records_more size some octets more ∙ ap (λ (l : List ℕ). done ++ records size l) after_rest
        ∙ ap (λ (l : List (List ℕ)). done ++ l) (records_exact size some one exact) in
        let items_all : items_of begin (done ++ one ∷ []) ≡ items_of begin done ++ items_of (worked begin done) (one ∷ []) =
        items-join p.rules p.state done (one ∷ []) going.1 in
        let its : items_of (work_of q t.entries) (one ∷ []) ≡ items_of (worked begin done) (one ∷ []) =
        ap (λ (w : Work). items_of w (one ∷ [])) taken.work in
        record {
          going = alive;
          work =
              rw (step, gave) refl
              ∙ ap (λ (w : Work). worked w (one ∷ [])) taken.work
              ∙ sym (worked-append begin going.1 done (one ∷ []))
              ∙ ap (worked begin) (sym all);
          sink =
              gave
              ∙ rw (taken.sink, its) (after-append s (items_of begin done) (items_of (worked begin done) (one ∷ [])))
              ∙ ap (after_items s) (sym (ap (items_of begin) all ∙ items_all));
          left = sym (rest_more size some octets more ∙ ap (rest_of size) after_rest ∙ rest_exact size some one exact);
        }

  -- ---- of octets that are taken from a place on

  module _ (q : Progress) (s t : SinkState) (part octets rest more : List ℕ) (at far : ℕ)
      (taken : HasAdded p q s t (part ++ take at octets) rest) (from : more ≡ take far (drop at octets)) where
    front : (part ++ take at octets) ++ more ≡ part ++ take (at + far) octets
    front =
        append_assoc part (take at octets) more
        ∙ ap (λ (l : List ℕ). part ++ l) (ap (λ (l : List ℕ). take at octets ++ l) from ∙ sym (take-add at far octets))

    pub kept_front : (left : List ℕ) → left ≡ rest ++ more → length left < size → HasAdded p q s t (part ++ take (at + far) octets) left
    kept_front left is short =
        subst (λ (l : List ℕ). HasAdded p q s t (part ++ take (at + far) octets) l) (sym is)
        (subst (λ (l : List ℕ). HasAdded p q s t l (rest ++ more)) front (kept q s t (part ++ take at octets) rest more taken (rw (← is) short)))

    pub next_front : (r : Progress) (u : SinkState) (left : List ℕ) → length rest + length more ≡ size → r ≡ stepped q (rest ++ more) → IsGoing r
        → u ≡ after_items t (step_items q (rest ++ more)) → left ≡ [] → HasAdded p r s u (part ++ take (at + far) octets) left
    next_front r u left exact step alive gave none =
        subst (λ (l : List ℕ). HasAdded p r s u (part ++ take (at + far) octets) l) (sym none)
        (subst (λ (l : List ℕ). HasAdded p r s u l []) front
        (next q s t (part ++ take at octets) rest more taken r u (length-append rest more ∙ exact) step alive gave))

-- what stands in rooms that held nothing
pub gave_all : (s t : SinkState) (xs : List Item) → t ≡ after_items s xs → s.events ≡ [] → s.octets ≡ []
    → (t.events ≡ events_of s.fixture.chosen 0 s.entries xs) × (t.octets ≡ packed_octets s.fixture.chosen xs)
gave_all s t xs is none empty =
    (ap (λ (u : SinkState). u.events) is ∙ rw (none, empty) refl, ap (λ (u : SinkState). u.octets) is ∙ rw empty refl)
