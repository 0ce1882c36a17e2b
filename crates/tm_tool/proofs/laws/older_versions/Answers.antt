use Rattle.tm_output.specs.Pieces.{text_of}
use Rattle.tm_output.specs.Shelves.{shelf_text}
use Rattle.tm_output.specs.code.Outlets.{no_text}
use Rattle.tm_output.specs.code.ShelfLaws.{no_shelf}
use Rattle.tm_tool.proofs.ForgottenCount.{lacks_gap}
use Rattle.tm_tool.proofs.laws.older_versions.Goals as goal

pub returns-clause-one_gap : goal.returns-clause-one_gap
returns-clause-one_gap c command = lacks_gap (text_of command) (no_text command)

pub returns-clause-shelved_gap : goal.returns-clause-shelved_gap
returns-clause-shelved_gap c = lacks_gap shelf_text no_shelf
