use Rattle.std.proofs.Common.{◌≡◌, drop}
use Rattle.csv.specs.Records.{fields_of}
use Rattle.tm_fields.specs.Columns.{heading_places, standing}
use Rattle.tm_fields.proofs.Places.{standing_with}
use Rattle.tm_fields.proofs.columns.find_heading.Given as goal

abbrev pub invariant-loop-at : goal.invariant-loop-at
invariant-loop-at l = standing_with l.found (heading_places l.word l.at (drop l.at (fields_of l.headings))) ≡ standing l.word (fields_of l.headings)
