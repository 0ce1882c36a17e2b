use Rattle.tm_fields.proofs.RowLengths.{row_size}
use Rattle.tm_library.proofs.laws.rows.Goals as goal

pub returns-clause-length : goal.returns-clause-length
returns-clause-length c = row_size
