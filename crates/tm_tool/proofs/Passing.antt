-- Records that are read and passed over.
use Rattle.std.proofs.Common.{◌≡◌, ◌<◌, ◌≤◌, ◌+◌, ◌*◌, ℕ, zero, suc, List, [], ◌∷◌, ◌++◌, length, take, drop, refl, sym, ap, subst, ◌∙◌, length-append, length-drop, length-take-le, arith, Option, zero-mul}
use Rattle.std.proofs.lemmas.List.{nil_from_length, take-append-drop}
use Rattle.std.specs.List.{concat}
use Rattle.std.specs.Io.KnownBytes.{Consumes, IsAtEnd}
use Rattle.std.proofs.KnownBytes.{Consumes-nil, Consumes-trans}
use Rattle.tm_output.specs.Records.{AreRecords}
use Rattle.tm_output.specs.Records.{HasRead, HasReadAll}
use Rattle.tm_tool.specs.code.RecordLoop.{HasPassed, PassingFails, PassingEnds}
use Rattle.tm_output.proofs.RecordLemmas.{AreRecords-append, concat-one}

pub passing_first : (size : ℕ) (left : Option (List ℕ)) → HasPassed size 0 left left
passing_first size left = record { read = []; sized = tt; counted = refl; octets = Consumes-nil left }

module _ (size count : ℕ) (first left next : Option (List ℕ)) (octets : List ℕ) (passed : HasPassed size count first left) (got : Consumes left next octets) where
  read_on : HasRead size first next passed.read octets
  read_on = record { sized = passed.sized; octets = Consumes-trans first left next (concat passed.read) octets passed.octets got }

  pub passing_more : (more : ℕ) → more ≡ count + 1 → length octets ≡ size → HasPassed size more first next
  passing_more more is exact = record {
    read = passed.read ++ octets ∷ [];
    sized = AreRecords-append size passed.read (octets ∷ []) passed.sized (exact, tt);
    counted = omega (arith, passed.counted, is, length-append passed.read (octets ∷ []));
    octets = subst (Consumes first next) (sym (concat-one passed.read octets)) read_on.octets;
  }

  pub passing_fails : (all : ℕ) → count < all → length octets < size → PassingFails size all first next
  passing_fails all fewer short =
      record { read = passed.read; part = octets; octets = read_on; short = short; few = omega (arith, passed.counted, fewer) }

  pub passing_ends : (all : ℕ) → count < all → length octets < size → IsAtEnd next → PassingEnds size all first next
  passing_ends all fewer short ended =
      let whole : HasReadAll size first next passed.read octets = record { octets = read_on; short = short; ended = ended } in
      record { read = passed.read; rest = octets; all = whole; few = omega (arith, passed.counted, fewer) }

-- the octets of this many records
pub cut_records : (size count : ℕ) (octets : List ℕ) → length octets ≡ count * size
    → (read : List (List ℕ)) × AreRecords size read × (length read ≡ count) × (concat read ≡ octets)
cut_records size zero octets long = ([], tt, refl, sym (nil_from_length octets (long ∙ zero-mul size)))
cut_records size (suc n) octets long =
    let more : size ≤ length octets = omega (arith, long) in
    let rest : length (drop size octets) ≡ n * size = length-drop size octets ∙ omega (arith, long) in
    let others = cut_records size n (drop size octets) rest in (
      take size octets ∷ others.0,
      (length-take-le size octets more, others.1),
      omega (arith, others.2),
      ap (λ (l : List ℕ). take size octets ++ l) others.3 ∙ take-append-drop size octets,
    )

-- they were passed over in one step
pub passed_over : (size count : ℕ) (first next : Option (List ℕ)) (octets : List ℕ) → length octets ≡ count * size → Consumes first next octets → HasPassed size count first next
passed_over size count first next octets long got =
    let cut = cut_records size count octets long in
    record { read = cut.0; sized = cut.1; counted = cut.2; octets = subst (Consumes first next) (sym cut.3) got }

-- or the call failed before the first of them
pub passing_refused : (size count : ℕ) (first next : Option (List ℕ)) → 0 < size → 0 < count → next ≡ first → PassingFails size count first next
passing_refused size count first next some few same =
    let kept : Consumes first next [] = subst (λ (l : Option (List ℕ)). Consumes first l []) (sym same) (Consumes-nil first) in
    record { read = []; part = []; octets = record { sized = tt; octets = kept }; short = some; few = few }
