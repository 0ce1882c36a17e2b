use Rattle.tm_tool.proofs.DataOctets.{data_told}
use Rattle.tm_tool.proofs.RecordCounted.{records_counted}
use Rattle.tm_tool.proofs.SummaryEnds.{stop_told, summary_told}
use Rattle.tm_tool.proofs.laws.summaries.Goals as goal

pub returns-clause-summarized : goal.returns-clause-summarized
returns-clause-summarized c rules left_old left_new old new count h = summary_told rules left_old left_new old new count h

pub returns-clause-stopped : goal.returns-clause-stopped
returns-clause-stopped c rules left_old left_new old new fault some h = stop_told rules some left_old left_new old new fault h

pub returns-clause-records : goal.returns-clause-records
returns-clause-records c rules recording count = records_counted rules recording count

pub returns-clause-data : goal.returns-clause-data
returns-clause-data c rules recording channel below chosen count = data_told channel rules below chosen recording count
