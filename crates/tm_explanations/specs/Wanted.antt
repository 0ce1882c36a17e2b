-- When a line after that of a fault is wanted.
use Rattle.std.specs.Prelude.{ℕ, List, Bool, true, false, codes, if◌then◌else◌}
use Rattle.std.specs.Str.{bytes_eq}

-- by `1` in the environment it is, by `0` it is not, and by anything else, or by nothing, it is at a terminal
abbrev pub is_wanted : List ℕ → Bool → Bool
is_wanted value is_terminal =
    if bytes_eq value (codes "1") then true
    else if bytes_eq value (codes "0") then false
    else is_terminal
