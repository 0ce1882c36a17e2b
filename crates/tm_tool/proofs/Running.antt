-- Two lists of records, one after the other, and the course of a run.
use Rattle.std.proofs.Common.{◌≡◌, ◌<◌, ◌+◌, ℕ, List, [], ◌∷◌, ◌++◌, length, refl, sym, ap, subst, ◌∙◌, arith}
use Rattle.std.proofs.lemmas.List.{length-map}
use Rattle.tm_frame.specs.Fault.{frame_reading_of}
use Rattle.tm_items.specs.Item.{Item}
use Rattle.tm_reassembly.specs.Items.{empty}
use Rattle.tm_reassembly.specs.Recording.{items, after}
use Rattle.tm_frame.specs.Rules.{Rules, IsLimit, chooses}
use Rattle.tm_reassembly.specs.State.{State}
use Rattle.tm_bits.specs.Bits.{AreOctets}
use Rattle.tm_reassembly.specs.Steps.{Progress, most_records, stepped, step_items}
use Rattle.tm_reassembly.specs.Valid.{IsValidState}
use Rattle.tm_reassembly.proofs.OneStep.{after-nil}
use Rattle.tm_reassembly.proofs.Raw.{items-join, states-join}
use Rattle.tm_reassembly.proofs.States.{empty-valid, record-valid}
use Rattle.tm_output.specs.declared.command.Ending.{Ending}
use Rattle.tm_output.specs.declared.command.Ending.TheVariants.{StopAfter}
use Rattle.tm_tool.specs.Courses.{whole}
use Rattle.tm_tool.specs.Endings.{Suffices}
use Rattle.tm_tool.proofs.Courses.{IsCourse}
use Rattle.tm_output.specs.Outputs.{Piece}
use Rattle.tm_packet.specs.Merge.{Entries}
use Rattle.tm_output.specs.Pieces.{Texts, noted, noted_all, piece_of, pieces_of}
use Rattle.tm_checkpoint.specs.Works.{IsGoing, Work, work_of}
use Rattle.tm_tool.specs.RecordingPieces.{end_pieces, items_of, pieces, worked, record_pieces}
use Rattle.tm_tool.specs.Runs.{course}

pub none_valid : (rules : Rules) → IsLimit rules.max_packet → IsValidState rules empty
none_valid = empty-valid

-- a step leaves this work, and goes on
pub stepped_on : (p q : Progress) (e e' : Entries) (octets : List ℕ) → q ≡ stepped p octets → e' ≡ noted_all e (step_items p octets)
    → IsGoing p → p.state.records < most_records → AreOctets octets → (work_of q e' ≡ worked (work_of p e) (octets ∷ [])) × IsGoing q
stepped_on p q e e' octets left noted going few are =
    let work = ap (λ (x : Progress). work_of x e') left ∙ ap (λ (x : Entries). work_of (stepped p octets) x) noted in
    let valid = record-valid p.rules p.state octets going.1 are (omega (arith, few)) in
    (work, (ap (λ (x : Progress). x.failed) left, subst (λ (x : Progress). IsValidState x.rules x.state) (sym left) valid))

-- ---- joining, for pieces

pub noted-append : (e : Entries) (xs ys : List Item) → noted_all e (xs ++ ys) ≡ noted_all (noted_all e xs) ys
noted-append e [] ys = refl
noted-append e (x ∷ xs) ys = noted-append (noted e x) xs ys

pub pieces-append : {A : Type 0} (text : Texts A) (e : Entries) (xs ys : List Item)
    → pieces_of text e (xs ++ ys) ≡ pieces_of text e xs ++ pieces_of text (noted_all e xs) ys
pieces-append text e [] ys = refl
pieces-append {A} text e (x ∷ xs) ys = ap (λ (l : List (Piece A)). piece_of text e x ∷ l) (pieces-append text (noted e x) xs ys)

abbrev pub IsValid : Work → Type 0
IsValid w = IsValidState w.rules w.state

module _ (w : Work) (valid : IsValid w) where
  pub worked-none : worked w [] ≡ w
  unfolding items after
  worked-none = ap (λ (s : State). record { rules = w.rules; state = s; entries = w.entries }) (after-nil w.rules.max_packet (chooses w.rules) w.state valid.shape)

  pub records-append : {A : Type 0} (text : Texts A) (a b : List (List ℕ))
      → record_pieces text w (a ++ b) ≡ record_pieces text w a ++ record_pieces text (worked w a) b
  records-append text a b =
      rw (items-join w.rules w.state a b valid) (pieces-append text w.entries (items_of w a) (items_of (worked w a) b))

  pub worked-append : (a b : List (List ℕ)) → worked w (a ++ b) ≡ worked (worked w a) b
  worked-append a b =
      rw (states-join w.rules w.state a b valid, items-join w.rules w.state a b valid, noted-append w.entries (items_of w a) (items_of (worked w a) b)) refl

-- the number of records that are done
pub records-counted : (w : Work) (rs : List (List ℕ)) → (worked w rs).state.records ≡ w.state.records + length rs
unfolding after
records-counted w rs = ap (λ (n : ℕ). w.state.records + n) (length-map rs (frame_reading_of w.rules.layout))

-- ---- a run goes along its course

-- where no more are wanted the ending has no pieces
end_none : {A : Type 0} (text : Texts A) (ending : Ending) (done count : ℕ) → Suffices ending done count → (w : Work) (rest : ℕ)
    → end_pieces text ending w rest ≡ []
end_none text (StopAfter n) done count h w rest = refl
end_none text _ done count h w rest = absurd h

module _ {A : Type 0} (text : Texts A) (ending : Ending) (w : Work) (valid : IsValid w) where
  pub is_course : IsCourse (course text ending w)
  unfolding items
  is_course = record {
    none = refl;
    more = λ rs one. records-append w valid text rs (one ∷ []);
    enough = λ done count h rs rest. end_none text ending done count h (worked w rs) rest;
  }

  -- the pieces of a recording are those of the course
  pub pieces_whole : (octets : List ℕ) → pieces text ending w octets ≡ whole (course text ending w) octets
  unfolding pieces
  pieces_whole octets = refl

pub ruleset joins = (records-append, worked-append)
