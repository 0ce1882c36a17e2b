-- The headings of a definition's columns.
use Rattle.std.specs.Prelude.{ℕ, List, codes}
use Rattle.tm_faults.specs.declared.definition.Column.{Column}
use Rattle.tm_faults.specs.declared.definition.Column.TheVariants.{Name, DataType, BitLength, BitOffset}

-- a column's heading
abbrev pub column_word : Column → List ℕ
column_word Name = codes "name"
column_word DataType = codes "data_type"
column_word BitLength = codes "bit_length"
column_word BitOffset = codes "bit_offset"
