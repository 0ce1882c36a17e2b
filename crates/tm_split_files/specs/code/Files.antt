-- What keeps a file from being made, for private contracts.
use Rattle.std.specs.Prelude.{◌≡◌, false, List}
use Rattle.std.specs.List.{list_any}
use Rattle.tm_file_identity.specs.FileIdentity.{is_same}
use Rattle.tm_file_identity.specs.FileIdentities.{has}
use Rattle.tm_file_identity.specs.declared.identity.FileIdentity.{FileIdentity}
use Rattle.tm_file_identity.specs.declared.identities.FileIdentities.{FileIdentities}

-- it is none of the run's other files, and none of the files that were made
abbrev pub IsClear : FileIdentities → List FileIdentity → FileIdentity → Type 0
IsClear identities made identity = (has identities identity ≡ false) × (list_any (is_same identity) made ≡ false)
