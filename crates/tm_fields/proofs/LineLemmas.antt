-- Lines, value by value.
use Rattle.std.proofs.Common.{◌≡◌, ℕ, zero, suc, ◌-◌, ◌^◌, ◌≤◌, min, Bool, true, false, List, [], ◌∷◌, ◌++◌, length, refl, sym, ap, ◌∙◌, append_assoc, arith, length-append, slice_range, None, Some}
use Rattle.std.specs.Prelude.{◌≢◌, Option, Result, Ok, Err, OnOk, if◌then◌else◌}
use Rattle.std.specs.Result.{is_ok}
use Rattle.std.specs.Io.KnownBytes.{Appends, Keeps, append_known}
use Rattle.std.proofs.lemmas.List.{append-nil}
use Rattle.std.proofs.Math.Seq.{drop-append_seam, take-append_seam}
use Rattle.std.proofs.lemmas.Option.{none-some, same_Some}
use Rattle.std.proofs.lemmas.Bool.{ne_eqb}
use Rattle.csv.specs.Writing.{default_writer, end_text, field_text, fields_text, is_blank, next_sep, row_body, row_text, tail_text}
use Rattle.csv.proofs.WriteFacts.{row-more}

-- what stands before the next value
separator : (written count : ℕ) → written ≡ min count (2 ^ 64 - 1) → next_sep default_writer written ≡ next_sep default_writer count
separator zero zero e = refl
separator (suc written) (suc count) e = rw (ne_eqb (suc written) 0 (λ z. cc z), ne_eqb (suc count) 0 (λ z. cc z)) refl
separator _ _ e = absurd (omega (arith, e))

pub line_more : (old new : Option (List ℕ)) (lines : List ℕ) (values : List (List ℕ)) (value : List ℕ) (written : ℕ)
    → old ≡ Some (lines ++ row_body default_writer values) → written ≡ min (length values) (2 ^ 64 - 1)
    → Appends old new (next_sep default_writer written ++ field_text default_writer value)
    → new ≡ Some (lines ++ row_body default_writer (values ++ value ∷ []))
line_more old None lines values value written e n a = absurd (rw e at a)
line_more old (Some y) lines values value written e n a =
    let whole : y ≡ (lines ++ row_body default_writer values) ++ (next_sep default_writer written ++ field_text default_writer value) = rw e at a in
    rw (whole, separator written (length values) n, row-more default_writer values value) (ap Some (append_assoc lines _ _))

ended : (wrote : Bool) (written : ℕ) → 2 ≤ written → tail_text default_writer wrote written ≡ end_text default_writer.terminator
ended true (suc (suc n)) h = refl
ended false (suc (suc n)) h = rw (ne_eqb (suc (suc n)) 0 (λ z. cc z), ne_eqb (suc (suc n)) 1 (λ z. cc z)) refl
ended _ _ h = absurd (omega arith)

row_is : (values : List (List ℕ)) → 2 ≤ length values → row_text default_writer values ≡ row_body default_writer values ++ end_text default_writer.terminator
unfolding is_blank
row_is (x ∷ y ∷ more) h = refl
row_is _ h = absurd (omega arith)

-- values after commas, in two parts
pub fields_of_both : (xs ys : List (List ℕ)) → fields_text default_writer (xs ++ ys) ≡ fields_text default_writer xs ++ fields_text default_writer ys
unfolding fields_text
fields_of_both [] ys = refl
fields_of_both (x ∷ xs) ys = rw (fields_of_both xs ys, append_assoc (field_text default_writer x) (fields_text default_writer xs) (fields_text default_writer ys)) refl

-- a line of two values or more, and values after them
pub line_whole : (x y : List ℕ) (more rest : List (List ℕ))
    → (row_body default_writer (x ∷ y ∷ more) ++ fields_text default_writer rest) ++ 10 ∷ [] ≡ row_text default_writer ((x ∷ y ∷ more) ++ rest)
line_whole x y more rest =
    let parts = ap (λ t. field_text default_writer x ++ t) (fields_of_both (y ∷ more) rest) in
    let whole = append_assoc (field_text default_writer x) (fields_text default_writer (y ∷ more)) (fields_text default_writer rest) in
    ap (λ t. t ++ 10 ∷ []) (whole ∙ sym parts) ∙ sym (row_is (x ∷ y ∷ (more ++ rest)) (omega arith))

-- the line of an empty value and another
pub blank_line : (value : List ℕ) → row_text default_writer ([] ∷ value ∷ []) ≡ fields_text default_writer (value ∷ []) ++ 10 ∷ []
blank_line value = row_is ([] ∷ value ∷ []) (omega arith)

pub line_end : (old new : Option (List ℕ)) (lines : List ℕ) (values : List (List ℕ)) (wrote : Bool) (written : ℕ) → 2 ≤ length values
    → old ≡ Some (lines ++ row_body default_writer values) → written ≡ min (length values) (2 ^ 64 - 1)
    → Appends old new (tail_text default_writer wrote written) → new ≡ Some ((lines ++ row_text default_writer values) ++ [])
line_end old None lines values wrote written h e n a = absurd (rw e at a)
line_end old (Some y) lines values wrote written h e n a =
    let whole : y ≡ (lines ++ row_body default_writer values) ++ tail_text default_writer wrote written = rw e at a in
    let tail = ended wrote written (omega arith) in
    rw (whole, tail, row_is values h, append-nil (lines ++ (row_body default_writer values ++ end_text default_writer.terminator))) (ap Some (append_assoc lines _ _))

-- what was passed on is the text of whole lines
pub lines_passed : (under : Option (List ℕ)) (lines pending : List ℕ) → append_known under pending ≡ Some (lines ++ []) → pending ≡ [] → under ≡ Some lines
lines_passed None lines pending e none = absurd (none-some _ e)
lines_passed (Some xs) lines pending e none = ap Some (sym (append-nil xs) ∙ ap (λ p. xs ++ p) (sym none) ∙ same_Some _ _ e ∙ append-nil lines)

-- what is known of a text stays
pub lines_kept : (old new : Option (List ℕ)) (lines : List ℕ) → old ≡ Some lines → Keeps old new → new ≡ Some lines
lines_kept old None lines e k = absurd (rw e at k)
lines_kept old (Some ys) lines e k = ap Some (rw e at k)

-- what a text has become, if it was appended to
pub appended : {A E : Type 0} (result : Result A E) (new grown old : List ℕ) → new ≡ (if is_ok result then grown else old) → OnOk result (new ≡ grown)
appended (Ok x) new grown old e = e
appended (Err x) new grown old e = tt

-- what stands between the lines before it and its line feed
pub line_behind : (old new lines line : List ℕ) (before : ℕ) → Some old ≡ Some lines → Some new ≡ Some (lines ++ (line ++ 10 ∷ [])) → before ≡ length old
    → slice_range new before (length new - 1) ≡ line
line_behind old new lines line before is grown e =
    let whole : new ≡ lines ++ (line ++ 10 ∷ []) = same_Some _ _ grown in
    let front : before ≡ length lines = e ∙ ap length (same_Some _ _ is) in
    let size : length (lines ++ (line ++ 10 ∷ [])) - 1 - length lines ≡ length line =
    omega (arith, length-append lines (line ++ 10 ∷ []), length-append line (10 ∷ [])) in
    rw (whole, front, drop-append_seam lines (line ++ 10 ∷ []), size) (take-append_seam line (10 ∷ []))

behind : (xs ys : List ℕ) → ys ≢ [] → xs ++ ys ≢ []
behind [] ys some e = some e
behind (x ∷ xs) ys some e = cc

-- no line is empty: a line feed ends it
pub some_text : (values : List (List ℕ)) → row_text default_writer values ≢ []
some_text values = behind (row_body default_writer values) _ (behind _ (end_text default_writer.terminator) line_feed)
  where
    line_feed : end_text default_writer.terminator ≢ []
    line_feed e = cc
