use Rattle.std.proofs.Common.{arith}
use Rattle.tm_reassembly.proofs.Decoding.{blocks_valid}
use Rattle.tm_reassembly.proofs.Slots.{capacities_of_eight}
use Rattle.tm_reassembly.proofs.reassembly.decode_channels.Goals as goal

pub invariant_of-reassembly : goal.invariant_of-reassembly
invariant_of-reassembly c = λ failed. (
  blocks_valid c.args.rules c.args.records _ _ c.args.octets.now (record { below = λ i. omega (arith, c.type_inv.octets i) }) (omega arith) c.in-Ok-restore.ensures.ok.0
      c.requires.limit c.args.master c.requires.count,
  c.in-Ok-restore.ensures.limit,
)

pub returns-in-Ok-restore-clause-ok : goal.returns-in-Ok-restore-clause-ok
returns-in-Ok-restore-clause-ok c =
    let valid = blocks_valid c.args.rules c.args.records _ _ c.args.octets.now (record { below = λ i. omega (arith, c.type_inv.octets i) }) (omega arith) c.in-Ok-restore.ensures.ok.0
    c.requires.limit c.args.master c.requires.count in
    (rw c.in-Ok-restore.ensures.ok.0, rw (capacities_of_eight c.args.rules.max_packet c.restore.new.states c.in-Ok-restore.ensures.limit valid.shape.eight_channels))
