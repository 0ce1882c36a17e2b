-- What it means that no file of a plan clashes.
use Rattle.std.proofs.Common.{ℕ, ◌≡◌, List, Option, None, Some, IfSome, option_map, refl}
use Rattle.tm_arguments.specs.declared.request.Plan.{Plan}
use Rattle.tm_file_identity.specs.FileIdentities.{clash_at}
use Rattle.tm_file_identity.specs.declared.identities.FileIdentities.{FileIdentities}
use Rattle.tm_file_identity.specs.declared.identities.Place.{Place}
use Rattle.tm_file_identity.specs.declared.identities.Place.TheVariants.{Report, Checkpoint, TemporaryCheckpoint}
use Rattle.tm_files.specs.code.Clashes.{clash_of, clash_over, clash_with, output_clash, place_over}
use Rattle.std.specs.Option.{option_or}
use Rattle.tm_files.specs.Names.{AreClear, named_over, temporary_checkpoint}

-- neither of two is there, where the first of both is not
none_of : {A : Type 0} (one next : Option A) → option_or one next ≡ None → (one ≡ None) × (next ≡ None)
none_of None next h = (refl, h)
none_of (Some x) next h = cc

map_none : (written : Place) (o : Option Place) → option_map (clash_with written) o ≡ None → o ≡ None
map_none written None h = refl
map_none written (Some place) h = cc

-- a file that would be written over no other has the name of none
over_none : (p : Plan) (s : FileIdentities) (written : Place) (o : Option (List ℕ)) → clash_over p s written o ≡ None → IfSome o (λ name. named_over p name written ≡ None)
over_none p s written None h = tt
over_none p s written (Some name) h = (none_of (named_over p name written) (clash_at s written) (map_none written (place_over p s written name) h)).0

both_none : (p : Plan) (s : FileIdentities) (o : Option (List ℕ)) → clash_over p s Checkpoint o ≡ None → clash_over p s TemporaryCheckpoint (option_map temporary_checkpoint o) ≡ None
    → IfSome o (λ name. (named_over p name Checkpoint ≡ None) × (named_over p (temporary_checkpoint name) TemporaryCheckpoint ≡ None))
both_none p s None a b = tt
both_none p s (Some name) a b = (over_none p s Checkpoint (Some name) a, over_none p s TemporaryCheckpoint (Some (temporary_checkpoint name)) b)

-- where no file clashes, no name does
pub are_clear : (p : Plan) (s : FileIdentities) → clash_of p s ≡ None → AreClear p
are_clear p s h =
    let (files, output) = none_of _ (output_clash p s) h in
    let (checkpoints, report) = none_of _ (clash_over p s Report p.report) files in
    let (checkpoint, temporary) = none_of (clash_over p s Checkpoint p.checkpoint) _ checkpoints in
    (both_none p s p.checkpoint checkpoint temporary, over_none p s Report p.report report)
