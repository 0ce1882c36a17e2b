-- The numbers of what was lost, as a line says them.
use Rattle.std.specs.Prelude.{ℕ, List, ◌++◌, codes, decimal}
use Rattle.tm_output.specs.declared.totals.Totals.{Totals}

abbrev pub counts_text : ℕ → Totals → List ℕ
counts_text records t =
    decimal records ++ (codes " records, "
    ++ (decimal t.good ++ (codes " good, "
    ++ (decimal t.bad ++ (codes " bad, "
    ++ (decimal t.missing ++ (codes " frames missing, "
    ++ (decimal t.dropped ++ codes " octets dropped"))))))))
