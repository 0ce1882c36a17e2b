use Rattle.std.proofs.Common.{sym, arith}
use Rattle.tm_items.proofs.Fronts.{whole_read, long_read, unfinished_read, none_read}
use Rattle.tm_items.proofs.packets.whole_packet.Goals.{then-limit-length-via-then-limit-length, then-limit-length-via-else-limit-length+then-octets-length}
use Rattle.tm_items.proofs.packets.whole_packet.Goals as goal

pub returns-then-limit-length : goal.returns-then-limit-length
returns-then-limit-length c =
    elim c.then-limit-length.branch [
      | then-limit-length-via-then-limit-length w ↦ long_read c.args.limit c.args.octets.now c.in-Ok.header (sym c.in-Ok.ensures) (omega (arith, w.if-limit-length.true, c.length-length.ensures))
      | then-limit-length-via-else-limit-length+then-octets-length w ↦
          unfinished_read c.args.limit c.args.octets.now c.in-Ok.header (sym c.in-Ok.ensures) (omega (arith, w.if-octets-length.true, c.length-length.ensures))
    ]

pub returns-else-octets-length : goal.returns-else-octets-length
returns-else-octets-length c =
    whole_read c.args.limit c.args.octets.now c.in-Ok.header (sym c.in-Ok.ensures) (omega (arith, c.if-limit-length.false, c.length-length.ensures))
    (omega (arith, c.if-octets-length.false, c.length-length.ensures))

pub returns-in-Err : goal.returns-in-Err
returns-in-Err c = none_read c.args.limit c.args.octets.now _ (sym c.in-Err.ensures)
