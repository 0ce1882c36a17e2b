use Rattle.std.proofs.Common.{◌≡◌, ◌≤◌, ◌+◌, ◌++◌, ◌∙◌, ℕ, List, ap, arith, length, refl, sym, take}
use Rattle.std.proofs.lemmas.List.{length-take-le, take-append-le, take-take}
use Rattle.std.proofs.Math.Seq.{take-append-add}
use borrow.Rule.Slice.PartMut.{put_mid, post_of}
use Rattle.byteorder.proofs.Bytes.{take-bytes_low_first}
use Rattle.byteorder.specs.Endian.{little_bytes}
use Rattle.tm_fields.specs.Binary.{number_length}
use Rattle.tm_fields.proofs.binary.write_number.Goals as goal
use Rattle.tm_fields.proofs.binary.write_number.Goals.{then-row-place-ge8, else-row-place-ge8}

-- of octets that were put to a place, the first
put_first : (place k many : ℕ) (row octets : List ℕ) → place ≤ length row → many ≤ length octets
    → take (place + many) (put_mid place k row octets) ≡ take place row ++ take many octets
put_first place k many row octets within few =
    let after = octets ++ post_of place k row in
    let size = length-take-le place row within in
    ap (λ m. take (m + many) (take place row ++ after)) (sym size)
    ∙ take-append-add (take place row) after many
    ∙ ap (λ l. take place row ++ l) (take-append-le many octets (post_of place k row) few)

-- the first octets of a number spell it where they hold it
first_octets : (many bits number : ℕ) (part octets : List ℕ) → part ≡ octets → octets ≡ little_bytes 8 number → many ≡ number_length bits → many ≤ 8
    → take many part ≡ little_bytes (number_length bits) number
first_octets many bits number part octets is made size few = rw (is, made, ← size) (take-bytes_low_first 0 8 many number few)

pub returns-clause-put : goal.returns-clause-put
returns-clause-put c =
    let row = c.args.row.now in
    let place : ℕ = c.args.place in
    let many : ℕ = c.number_length-many.result in
    let made = c.to_le_bytes-octets.ensures in
    let size = c.number_length-many.ensures.octets in
    let few = c.number_length-many.ensures.bound in
    elim c.if-row-place-ge8.branch [
      | then-row-place-ge8 w ↦ ap (take (place + many)) w.row-is
          ∙ put_first place _ many row _ (omega arith) (omega (arith, few, w.copy_from_slice.ensures.len))
          ∙ ap (λ (octets : List ℕ). take place row ++ octets) (first_octets many c.args.bits c.args.number _ _ w.copy_from_slice.ensures.after made size few)
      | else-row-place-ge8 w ↦ ap (take (place + many)) w.row-is
          ∙ put_first place _ many row _ (omega (arith, c.requires.room)) (omega (arith, few, c.requires.room, w.copy_from_slice-else-row-place-ge8.ensures.len))
          ∙ ap (λ (octets : List ℕ). take place row ++ octets)
          (ap (take many) w.copy_from_slice-else-row-place-ge8.ensures.after
          ∙ take-take many many _ (omega arith)
          ∙ first_octets many c.args.bits c.args.number _ _ refl made size few)
    ]
