-- How a recording that begins with some records is cut.
use Rattle.std.proofs.Common.{◌≡◌, ◌<◌, ◌≤◌, ℕ, zero, suc, ◌+◌, ◌*◌, ◌/◌, ◌-◌, List, [], ◌∷◌, ◌++◌, length, drop, length-append, length-drop, length-take-le, refl, sym, ap, subst, ◌∙◌, append_assoc, append-nil, arith, add-one, Option, None, Some, IfSome, ◌^◌}
use Rattle.std.proofs.lemmas.List.{drop-drop, drop_at, take-append-drop, take_at}
pub use Rattle.std.proofs.lemmas.List.Folds.{concat-append}
use Rattle.std.proofs.Math.Nat.{div-eq-sub-div, div-eq_of_lt, div-mul-le_self, zero-mul}
use Rattle.std.specs.List.{concat}
use Rattle.std.specs.Io.KnownBytes.{Consumes, IsAtEnd}
use Rattle.tm_bits.proofs.Each.{Each-append}
use Rattle.tm_output.specs.Records.{AreRecords, HasRead, first_records, record_count, records, rest_of}

pub concat-one : (xs : List (List ℕ)) (x : List ℕ) → concat (xs ++ x ∷ []) ≡ concat xs ++ x
concat-one xs x = simp (concat-append, append-nil)

pub AreRecords-append : (size : ℕ) (a b : List (List ℕ)) → AreRecords size a → AreRecords size b → AreRecords size (a ++ b)
AreRecords-append size a b h k = Each-append (λ (r : List ℕ). length r ≡ size) a b h k

module _ (size : ℕ) (some : 0 < size) where
  -- one record in front
  module _ (r more : List ℕ) (exact : length r ≡ size) where
    back : drop size (r ++ more) ≡ more
    back = drop_at r more size exact

    count_one : record_count size (r ++ more) ≡ suc (record_count size more)
    count_one =
        let long : length (r ++ more) ≡ size + length more = length-append r more ∙ ap (λ (n : ℕ). n + length more) exact in
        let fits : size ≤ length (r ++ more) = omega (arith, long) in
        let less : length (r ++ more) - size ≡ length more = omega (arith, long) in
        div-eq-sub-div some fits ∙ ap (λ (n : ℕ). n / size + 1) less ∙ add-one _

    records_one : records size (r ++ more) ≡ r ∷ records size more
    unfolding records
    records_one = rw (count_one, take_at r more size exact, back) refl

    rest_one : rest_of size (r ++ more) ≡ rest_of size more
    unfolding rest_of
    rest_one =
        let place : suc (record_count size more) * size ≡ size + record_count size more * size = omega arith in
        rw (count_one, place, ← drop-drop (record_count size more * size) size (r ++ more), back) refl

  -- records in front
  pub records_front : (read : List (List ℕ)) (more : List ℕ) → AreRecords size read → records size (concat read ++ more) ≡ read ++ records size more
  records_front [] more sized = refl
  records_front (r ∷ read) more sized =
      rw (append_assoc r (concat read) more, records_one r (concat read ++ more) sized.0, records_front read more sized.1) refl

  pub rest_front : (read : List (List ℕ)) (more : List ℕ) → AreRecords size read → rest_of size (concat read ++ more) ≡ rest_of size more
  rest_front [] more sized = refl
  rest_front (r ∷ read) more sized = rw (append_assoc r (concat read) more, rest_one r (concat read ++ more) sized.0) (rest_front read more sized.1)

  pub count_front : (read : List (List ℕ)) (more : List ℕ) → AreRecords size read → record_count size (concat read ++ more) ≡ length read + record_count size more
  count_front [] more sized = omega arith
  count_front (r ∷ read) more sized =
      rw (append_assoc r (concat read) more, count_one r (concat read ++ more) sized.0) (omega (arith, count_front read more sized.1))

-- less than a record
module _ (size : ℕ) (rest : List ℕ) (short : length rest < size) where
  pub count_short : record_count size rest ≡ 0
  count_short = div-eq_of_lt short

  pub records_short : records size rest ≡ []
  unfolding records
  records_short = rw count_short refl

  pub rest_short : rest_of size rest ≡ rest
  unfolding rest_of
  rest_short = rw (count_short, zero-mul size) refl

-- records, and then less than a record
module _ (size : ℕ) (read : List (List ℕ)) (rest : List ℕ) (sized : AreRecords size read) (short : length rest < size) where
  pub records_all : records size (concat read ++ rest) ≡ read
  records_all = rw (records_front size (omega arith) read rest sized, records_short size rest short) (append-nil read)

  pub rest_all : rest_of size (concat read ++ rest) ≡ rest
  rest_all = rest_front size (omega arith) read rest sized ∙ rest_short size rest short

  pub count_all : record_count size (concat read ++ rest) ≡ length read
  count_all = omega (arith, count_front size (omega arith) read rest sized, count_short size rest short)

-- ---- a recording is its records and its rest

cut_whole : (size n : ℕ) (octets : List ℕ) → concat (first_records size n octets) ++ drop (n * size) octets ≡ octets
cut_whole size zero octets = rw (zero-mul size) refl
cut_whole size (suc n) octets =
    let place : suc n * size ≡ size + n * size = omega arith in
    rw (place, ← drop-drop (n * size) size octets, append_assoc, cut_whole size n (drop size octets)) (take-append-drop size octets)

cut_sized : (size n : ℕ) (octets : List ℕ) → n * size ≤ length octets → AreRecords size (first_records size n octets)
cut_sized size zero octets fits = tt
cut_sized size (suc n) octets fits =
    let place : suc n * size ≡ size + n * size = omega arith in
    let inside : size ≤ length octets = omega (arith, fits, place) in
    (length-take-le size octets inside, cut_sized size n (drop size octets) (omega (arith, fits, place, length-drop size octets)))

cut_counted : (size n : ℕ) (octets : List ℕ) → length (first_records size n octets) ≡ n
cut_counted size zero octets = refl
cut_counted size (suc n) octets = omega (arith, cut_counted size n (drop size octets))

module _ (size : ℕ) (some : 0 < size) (octets : List ℕ) where
  pub records_whole : concat (records size octets) ++ rest_of size octets ≡ octets
  unfolding records rest_of
  records_whole = cut_whole size (record_count size octets) octets

  pub records_sized : AreRecords size (records size octets)
  unfolding records
  records_sized = cut_sized size (record_count size octets) octets (div-mul-le_self (length octets) size)

  pub records_counted : length (records size octets) ≡ record_count size octets
  unfolding records
  records_counted = cut_counted size (record_count size octets) octets

-- ---- a recording that tells its octets

-- what is said of a recording, once these octets of it were read: nothing is left at its end
pub told : (P : List ℕ → Type 0) (octets : List ℕ) (old new : Option (List ℕ)) → Consumes old new octets
    → ((left : List ℕ) → (IsAtEnd new → left ≡ []) → P (octets ++ left)) → IfSome old P
told P octets None new c h = tt
told P octets (Some all) None c h = absurd c
told P octets (Some all) (Some left) c h = subst P (sym c) (h left (λ end. end))

pub always : {P : List ℕ → Type 0} (o : Option (List ℕ)) → ((x : List ℕ) → P x) → IfSome o P
always None f = tt
always (Some x) f = f x

-- one whole record more than can be counted was read
pub many_told : (size : ℕ) (first next : Option (List ℕ)) (read : List (List ℕ)) (one : List ℕ) → 0 < size → HasRead size first next read one → length one ≡ size
    → length read ≡ 2 ^ 32 - 1 → IfSome first (λ octets. 2 ^ 32 - 1 < record_count size octets)
many_told size first next read one some h exact most =
    told _ (concat read ++ one) first next h.octets (λ left end.
    let longer : List (List ℕ) = read ++ one ∷ [] in
    let all : record_count size ((concat read ++ one) ++ left) ≡ length longer + record_count size left =
    rw (← concat-one read one) (count_front size some longer left (AreRecords-append size read (one ∷ []) h.sized (exact, tt))) in
    omega (arith, all, length-append read (one ∷ []), most))
