use Rattle.std.proofs.Common.{refl}
use Rattle.tm_tool.proofs.HeadedRuns.{no_later_head}
use Rattle.tm_tool.proofs.MixedStops.{few, mixed}
use Rattle.tm_tool.proofs.Running.{none_valid}
use Rattle.tm_tool.proofs.laws.resumption_across_versions.Goals as goal

pub returns-clause-run : goal.returns-clause-run
returns-clause-run c command ending last settings stops eight range octets few told follows =
    mixed _ (no_later_head command) _ ending last settings octets few stops eight range follows told

pub returns-clause-split : goal.returns-clause-split
returns-clause-split c ending last settings stops eight range octets few told follows =
    mixed _ refl _ ending last settings octets few stops eight range follows told

pub returns-clause-few : goal.returns-clause-few
returns-clause-few c command ending last settings stops range = few _ _ ending last settings _ stops (none_valid settings range)

pub returns-clause-shelved_few : goal.returns-clause-shelved_few
returns-clause-shelved_few c ending last settings stops range = few _ _ ending last settings _ stops (none_valid settings range)
