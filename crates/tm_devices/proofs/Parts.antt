-- Lists that are read or written part by part.
use Rattle.std.proofs.Common.{◌≡◌, ◌≢◌, refl, ℕ, ◌+◌, ◌-◌, ◌≤◌, List, ◌++◌, length, take, drop, sym, ap, ◌∙◌, append_assoc, take-append-drop, length-take-le}
use Rattle.std.proofs.lemmas.List.{take_rest, take-append-le}
use Rattle.std.proofs.Math.Seq.{take-append-add}
use Rattle.std.specs.Prelude.{Option, Result, Ok, Err, OnErr, []}
use Rattle.std.specs.Io.KnownBytes.{Appends}
use Rattle.std.proofs.KnownBytes.{Appends-trans}
use Rattle.tm_devices.specs.Devices.{AppendsPrefix}
use borrow.Rule.Slice.PartMut.{put_mid, post_of}

-- the first n of the rest join what is done
pub moves_front : (all done rest : List ℕ) (n : ℕ) → all ≡ done ++ rest → all ≡ (done ++ take n rest) ++ take (length rest - n) (drop n rest)
moves_front all done rest n e =
    e ∙ ap (λ l. done ++ l) (sym (take-append-drop n rest)) ∙ sym (append_assoc done (take n rest) (drop n rest)) ∙ ap (λ l. (done ++ take n rest) ++ l) (sym (take_rest rest n))

-- n more octets were read into the part of the buffer from a on
pub take_filled : (a k n : ℕ) (xs ys : List ℕ) → a ≤ length xs → n ≤ length ys → take (a + n) (put_mid a k xs ys) ≡ take a xs ++ take n ys
take_filled a k n xs ys within fits =
    let after = ys ++ post_of a k xs in
    let size = length-take-le a xs within in
    ap (λ m. take (m + n) (take a xs ++ after)) (sym size) ∙ take-append-add (take a xs) after n ∙ ap (λ l. take a xs ++ l) (take-append-le n ys (post_of a k xs) fits)

-- what a failed call appended of the rest, after the first n, is a prefix of all
pub prefix_after : {T E : Type 0} (r : Result T E) (a b c : Option (List ℕ)) (octets : List ℕ) (n : ℕ) → Appends a b (take n octets)
    → OnErr r (AppendsPrefix b c (take (length octets - n) (drop n octets))) → OnErr r (take (length octets - n) (drop n octets) ≢ [])
    → OnErr r (AppendsPrefix a c octets)
prefix_after (Ok x) a b c octets n first after some = tt
prefix_after (Err x) a b c octets n first (prefix, rest, split, left, appended) some = (
  take n octets ++ prefix,
  rest,
  moves_front octets [] octets n refl ∙ ap (λ l. take n octets ++ l) split ∙ sym (append_assoc (take n octets) prefix rest),
  (λ _. left some),
  Appends-trans _ _ _ _ _ first appended,
)
