-- Which writer takes the report, and what it holds.
use Rattle.std.specs.Prelude.{ℕ, Bool, true, false, List, Option}
use Rattle.tm_files.specs.declared.report.Report.{Report}
use Rattle.tm_files.specs.declared.report.Report.TheVariants.{File, Errors}

-- the octets of the writer that it is, where that one tells them
abbrev pub contents_of : {F E : Type 0} → (F → Option (List ℕ)) → (E → Option (List ℕ)) → Report F E → Option (List ℕ)
contents_of of_file of_errors (File file) = of_file file
contents_of of_file of_errors (Errors errors) = of_errors errors

-- it goes to a file
abbrev pub is_file : {F E : Type 0} → Report F E → Bool
is_file (File file) = true
is_file (Errors errors) = false
