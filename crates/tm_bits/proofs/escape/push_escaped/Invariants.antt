use Rattle.std.proofs.Common.{◌≡◌, ◌≤◌, ◌++◌, take, vec_capacity}
use Rattle.std.specs.List.{flat_map}
use Rattle.tm_bits.specs.Escape.{octet_text}
use Rattle.tm_bits.proofs.escape.push_escaped.Given as goal

abbrev pub invariant-loop-octet : goal.invariant-loop-octet
invariant-loop-octet l =
    (l.text.items ≡ l.initial.text.items ++ flat_map octet_text (take l.octet-index l.octets))
    × (vec_capacity l.initial.text ≤ vec_capacity l.text)
