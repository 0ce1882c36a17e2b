use Rattle.std.proofs.Common.{◌≡◌, ◌<◌, ◌^◌, take}
use Rattle.tm_fields.specs.Values.{digits_number}
use Rattle.tm_fields.proofs.words.digits_value.Given as goal

abbrev pub invariant-loop-digit : goal.invariant-loop-digit
invariant-loop-digit l = (l.all ≡ digits_number (take l.digit-index l.text)) × (l.all < 10 ^ l.digit-index)
