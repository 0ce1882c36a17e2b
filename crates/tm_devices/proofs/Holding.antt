-- What a source with a buffer has left, once octets of the buffer are taken.
use Rattle.std.proofs.Common.{◌≡◌, ◌∙◌, ◌++◌, Bool, ℕ, List, Option, None, Some, ap, append_assoc, drop, false, if◌then◌else◌, sym, take, true}
use Rattle.std.proofs.lemmas.List.{take-append-drop}
use Rattle.std.specs.Io.KnownBytes.{Consumes, prepend_known}

-- with no buffer nothing is known
taken_from : (unknown : Bool) (n : ℕ) (buffer : List ℕ) (behind : Option (List ℕ)) →
    Consumes (if unknown then None else prepend_known buffer behind) (if unknown then None else prepend_known (drop n buffer) behind) (take n buffer)
taken_from true n buffer behind = tt
taken_from false n buffer None = tt
taken_from false n buffer (Some octets) = ap (λ (all : List ℕ). all ++ octets) (sym (take-append-drop n buffer)) ∙ append_assoc (take n buffer) (drop n buffer) octets

pub taken_of_buffer : (unknown now : Bool) (n : ℕ) (buffer rest : List ℕ) (behind left : Option (List ℕ)) → now ≡ unknown → rest ≡ drop n buffer → left ≡ behind →
    Consumes (if unknown then None else prepend_known buffer behind) (if now then None else prepend_known rest left) (take n buffer)
taken_of_buffer unknown now n buffer rest behind left same short kept = rw (same, short, kept) (taken_from unknown n buffer behind)
