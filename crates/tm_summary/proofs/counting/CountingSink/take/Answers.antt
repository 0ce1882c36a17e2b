use Rattle.tm_output.specs.Pieces.{noted}
use Rattle.tm_summary.specs.Adding.{with_item}
use Rattle.tm_summary.specs.Tallies.{with_given}
use Rattle.tm_summary.proofs.counting.CountingSink.take.Goals as goal

pub returns-in-Packet-clause-accepted : goal.returns-in-Packet-clause-accepted
unfolding noted with_given with_item
returns-in-Packet-clause-accepted c =
    rw c.in-Packet.is (record {
      fits = rw c.in-Packet.is at c.requires.fits;
      same_tracker = c.add_packet.ensures.same.0;
      same_counts = c.add_packet.ensures.same.1;
      noted_is = c.add_packet.ensures.noted;
      counted_is = c.add_packet.ensures.counted;
      bad_is = c.add_packet.ensures.bad;
    })
