-- The names of the files.
use Rattle.std.specs.Prelude.{◌-◌, ◌^◌, ℕ, List, ◌++◌, codes}
use Rattle.std.specs.Fmt.{format_spec, styled_decimal}

-- a number in four digits, as `{:04}` prints it
abbrev pub four_digits : ℕ → List ℕ
four_digits n = styled_decimal (format_spec 32 0 4 4 (2 ^ 64 - 1)) n

-- the name of an application's file in a folder
abbrev pub file_in : List ℕ → ℕ → List ℕ
file_in folder application = folder ++ (codes "/apid-" ++ (four_digits application ++ codes ".pkt"))
