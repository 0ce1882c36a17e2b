-- When two names stand for one file.
use Rattle.std.specs.Prelude.{◌≡◌, ◌==◌, ◌&&◌, Bool, false, string_bytes}
use Rattle.std.specs.Str.{bytes_eq}
use Rattle.tm_file_identity.specs.declared.identity.FileKind.{FileKind}
use Rattle.tm_file_identity.specs.declared.identity.FileKind.TheVariants.{File, Unmade, Other}
use Rattle.tm_file_identity.specs.declared.identity.Node.{Node}
use Rattle.tm_file_identity.specs.declared.identity.FileIdentity.{FileIdentity}

-- one file or folder: the same number on the same device
abbrev pub is_node : Node → Node → Bool
is_node a b = (a.device == b.device) && (a.number == b.number)

-- one regular file; or none yet, and making both would make one: the same name in the same folder
abbrev pub is_same_in_kind : FileKind → FileKind → FileIdentity → FileIdentity → Bool
is_same_in_kind File File a b = is_node a.node b.node
is_same_in_kind Unmade Unmade a b = is_node a.node b.node && bytes_eq (string_bytes a.name) (string_bytes b.name)
is_same_in_kind _ _ a b = false

abbrev pub is_same : FileIdentity → FileIdentity → Bool
is_same a b = is_same_in_kind a.kind b.kind a b

-- it is never one with another
abbrev pub IsOther : FileIdentity → Type 0
IsOther a = a.kind ≡ Other
