use Rattle.std.proofs.Common.{◌≡◌, ◌<◌, IsSomeAnd, length}
use Rattle.tm_file_identity.specs.FileIdentities.{identity_at, place_number}
use Rattle.tm_file_identity.specs.declared.identities.Place.{Place}
use Rattle.tm_files.specs.FileIdentities.{IsOfPlace}
use Rattle.tm_files.proofs.identities.identify_files.Given as goal

abbrev pub invariant-loop-place : goal.invariant-loop-place
invariant-loop-place g l = record {
  long : length l.identities.identities ≡ 10;
  each : (place : Place) → place_number place < l.place-index
      → IsSomeAnd (identity_at l.identities place) (IsOfPlace (g.N.Namespace.stands_for l.names) l.plan place);
}
