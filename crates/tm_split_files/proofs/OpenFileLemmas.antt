-- A file among those that are open was written.
use Rattle.std.proofs.Common.{◌≡◌, ℕ, List, Option, Some, Ok, Err, Result, length, length-set, get_or, set, refl}
use Rattle.std.specs.Prelude.{OnOk, nat_eq, slice_get}
use Rattle.std.specs.Io.KnownBytes.{Appends}
use Rattle.std.proofs.lemmas.Bool.{eqb-true}
use Rattle.std.proofs.lemmas.List.Quantifiers.{position-Some}
use Rattle.std.proofs.lemmas.Option.{slice_get_read}
use Rattle.tm_split_files.proofs.BufferLemmas.{set_elsewhere, set_here}
use Rattle.tm_split_files.specs.code.OpenFiles.{IsAppended, place_among}
use Rattle.tm_split_files.specs.declared.open_files.OpenFile.{OpenFile}

module _ {F : Type 0} (contents : F → Option (List ℕ)) where
  pub appended_there : {X Y : Type 0} (done : Result X Y) (opened : List (OpenFile F)) (application place : ℕ) (before : OpenFile F) (after : F)
      (octets : List ℕ) → place_among application opened ≡ Some place → before ≡ get_or opened place before
      → OnOk done (Appends (contents before.file) (contents after) octets)
      → OnOk done (IsAppended contents opened (set opened place (record { application = before.application; file = after })) application octets)
  appended_there (Ok value) opened application place before after octets found is appended = λ at there.
      let new : OpenFile F = record { application = before.application; file = after } in
      let is_there = position-Some (λ (other : OpenFile F). nat_eq other.application application) opened place before found in
      let same : at ≡ place = cc in
      let old_there : slice_get opened place ≡ Some before = slice_get_read opened (length opened) place before refl is_there.0 is in
      let application_there : before.application ≡ application = eqb-true before.application application (rw (← is) at is_there.1) in
      rw (same, old_there, set_here opened place new is_there.0)
      (length-set opened place new, set_elsewhere opened place new, (application_there, appended))
  appended_there (Err fault) opened application place before after octets found is appended = tt
