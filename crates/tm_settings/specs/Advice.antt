-- What to write for a key of the settings.
use Rattle.std.specs.Prelude.{◌++◌, ℕ, List, Option, Some, None, codes, length, min, nat_eq}
use Rattle.std.specs.Fmt.{decimal}
use Rattle.std.specs.Str.{chars}
use Rattle.strsim.specs.Edits.{levenshtein_row}
use Rattle.tm_faults.specs.Keys.{key_name}
use Rattle.tm_settings.specs.Limits.{limits_of}
use Rattle.tm_faults.specs.declared.settings.Key.{Key}
use Rattle.tm_faults.specs.declared.settings.Key.TheVariants.{Channels, ErrorControl}
use Rattle.tm_settings.specs.declared.limits.Limits.{Limits}

-- how many edits of a character lead from a text to the name of a key
abbrev pub edits_to : List ℕ → Key → ℕ
edits_to text key = levenshtein_row nat_eq (chars text) (chars (key_name key)) (length (chars (key_name key)))

-- as many edits lead to no key that is near
abbrev pub edits_limit : List ℕ → ℕ
edits_limit text = min (length text) 4

-- what the value of a key with these limits has to be, or of a key without
abbrev pub wanted_in : Key → Option Limits → List ℕ
wanted_in key (Some limits) = codes "an integer from " ++ (decimal limits.least ++ (codes " to " ++ decimal limits.most))
wanted_in Channels None = codes "an array of distinct integers from 0 to 7, at least one"
wanted_in ErrorControl None = codes "true or false"
wanted_in _ None = codes "\"flag\", \"always\" or \"never\""

-- what the value of a key has to be
abbrev pub wanted_of : Key → List ℕ
wanted_of key = wanted_in key (limits_of key)
