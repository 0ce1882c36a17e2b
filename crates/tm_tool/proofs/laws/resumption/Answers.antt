use Rattle.std.proofs.Common.{refl}
use Rattle.tm_output.specs.Shelves.{shelf_text}
use Rattle.tm_tool.specs.Resuming.{no_head}
use Rattle.tm_tool.proofs.HeadedRuns.{no_later_head}
use Rattle.tm_tool.proofs.MixedStops.{joined}
use Rattle.tm_tool.proofs.laws.resumption.Goals as goal

pub returns-clause-run : goal.returns-clause-run
returns-clause-run c command ending last settings stops eight range octets few today follows =
    joined _ (no_later_head command) _ ending last settings octets few stops eight range follows today

pub returns-clause-split : goal.returns-clause-split
returns-clause-split c ending last settings stops eight range octets few today follows =
    joined no_head refl shelf_text ending last settings octets few stops eight range follows today
