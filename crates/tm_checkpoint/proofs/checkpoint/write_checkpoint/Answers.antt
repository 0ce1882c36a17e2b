use Rattle.std.proofs.Common.{◌≡◌}
use Rattle.tm_checkpoint.specs.declared.version.Version.TheVariants.{Three}
use Rattle.tm_checkpoint.specs.Checkpoints.{head_octets}
use Rattle.tm_checkpoint.specs.Works.{Work, work_of}
use Rattle.tm_checkpoint.proofs.CheckpointLemmas.{joined}
use Rattle.tm_checkpoint.proofs.checkpoint.write_checkpoint.Goals as goal

pub returns-in-Ok-push_check-clause-octets : goal.returns-in-Ok-push_check-clause-octets
returns-in-Ok-push_check-clause-octets c =
    let w : Work = work_of c.args.reassembly.now c.args.tracker.now in
    let head : c.in-Ok.octets.items ≡ head_octets Three w.rules = cc (c.in-Ok.ensures) in
    joined w c.in-Ok.octets.items c.encode.new.out.items c.encode-2.new.out.items c.push_check.new.octets.items
    head c.in-Ok-encode.ensures.appended c.in-Ok-encode-2.ensures.appended c.in-Ok-push_check.ensures
