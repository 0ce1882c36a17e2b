-- The events of the groups below the next key stand in the room.
use Rattle.std.proofs.Common.{◌≤◌, ◌-◌, drop}
use Rattle.tm_packet.specs.Merge.{unclosed}
use Rattle.tm_feed.specs.code.Groups.{HasPut}
use Rattle.tm_feed.proofs.ending.give_groups.Given as goal

abbrev pub invariant-groups : goal.invariant-groups
invariant-groups l = record {
  put : HasPut l.tracker l.seen l.from l.start l.initial.events l.events l.filled (unclosed l.key (drop l.key l.tracker));
  below : l.key ≤ 16384;
}

abbrev pub decreases-groups : goal.decreases-groups
decreases-groups l = 16384 - l.key
