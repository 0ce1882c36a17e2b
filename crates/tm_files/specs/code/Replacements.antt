-- Files whose octets are replaced.
use Rattle.std.specs.Prelude.{ℕ, List}
use Rattle.tm_files.specs.declared.files.Replaced.{Replaced}
use Rattle.tm_files.specs.declared.files.Replacement.{Replacement}

-- the name of the file that a file beside it is to replace
abbrev pub replacement_name : {F : Type 0} → Replacement F → List ℕ
replacement_name replacement = replacement.name.now

-- the name of a file that was replaced, and the octets that it was to have
abbrev pub replaced_name : Replaced → List ℕ
replaced_name replaced = replaced.name.now

abbrev pub replaced_octets : Replaced → List ℕ
replaced_octets replaced = replaced.octets.items
